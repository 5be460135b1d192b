-- An Update is certainly sent if its interface has an address of the prefix's family and the source table has room.
use Rattle.std.proofs.Common.{◌≡◌, Bool, true, false, Some, None, refl, length}
use Rattle.std.specs.Prelude.{Option, ◌&&◌, ◌==◌, is_none, if◌then◌else◌}
use Rattle.std.specs.FinMap.{find}
use Rattle.babel_value.specs.declared.addresses.Addr.{Addr}
use Rattle.babel_value.specs.Addresses.{family_of}
use Rattle.babel_value.specs.Orders.{source_cmp}
use Rattle.babel_value.specs.Prefixes.{PrefixValue}
use Rattle.babel_message.specs.declared.messages.Message.{Message}
use Rattle.babel_sources.specs.Rooms.{most_sources}
use Rattle.babel_state.specs.declared.interfaces.InterfaceEntry.{InterfaceEntry}
use Rattle.babel_state.specs.declared.items.Item.TheVariants as items
use Rattle.babel_state.specs.declared.items.Outgoing.TheVariants as outgoings
use Rattle.babel_state.specs.declared.items.Target.{Target}
use Rattle.babel_state.specs.Addresses.{address_of}
use Rattle.babel_state.specs.State.{State, interface_at}
use Rattle.babel_state.specs.OutgoingMessages.{Advertisement, advertisement, outgoing_advertisement, outgoing}
use Rattle.babel_speaker.specs.SentMessages.{IsMessageTo}

module _ (target : Target) (prefix : PrefixValue) (s : State) (i : InterfaceEntry) (hop : Addr) (has : address_of (family_of prefix.addr) i ≡ Some hop) (room : (length s.sources == most_sources) ≡ false) where
  not_left_out : (is_new : Bool) (message : Message) → IsMessageTo target (if is_new && false then outgoings.LeftOut else outgoings.Message target message)
  not_left_out true message = refl
  not_left_out false message = refl

  advertised : (a : Option Advertisement) → IsMessageTo target (outgoing_advertisement target prefix s i a)
  advertised None = refl
  advertised (Some t) = rw (has, room) (not_left_out (is_none (find source_cmp (record { prefix = prefix; router = t.router }) s.sources)) _)

  pub certain_message : interface_at target.iface s ≡ Some i → IsMessageTo target (outgoing s (items.Update target prefix))
  unfolding outgoing
  certain_message is = rw is (advertised (advertisement prefix s))
