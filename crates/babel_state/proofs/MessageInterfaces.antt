-- A message goes over an interface that exists.
use Rattle.std.specs.Prelude.{◌≡◌, ℕ, Bool, true, false, ◌*◌, IsSome, Option, Some, None, if◌then◌else◌}
use Rattle.std.proofs.Common.{refl, sym, subst}
use Rattle.babel_value.specs.declared.addresses.Addr.{Addr}
use Rattle.babel_value.specs.Addresses.{family_of}
use Rattle.babel_value.specs.Prefixes.{PrefixValue}
use Rattle.babel_message.specs.declared.messages.Message.TheVariants as messages
use Rattle.babel_state.specs.declared.interfaces.InterfaceEntry.{InterfaceEntry}
use Rattle.babel_state.specs.declared.items.Item.TheVariants as items
use Rattle.babel_state.specs.declared.items.Outgoing.{Outgoing}
use Rattle.babel_state.specs.declared.items.Outgoing.TheVariants as outgoings
use Rattle.babel_state.specs.declared.items.Target.{Target}
use Rattle.babel_state.specs.Addresses.{address_of}
use Rattle.babel_state.specs.OutgoingMessages.{Advertisement, advertisement, is_source_too_many, outgoing_ihu, outgoing_finite, outgoing_advertisement, outgoing_update, outgoing_over, outgoing}
use Rattle.babel_state.specs.QueueLaws.{HasInterface, ItemsHaveInterfaces}
use Rattle.babel_state.specs.State.{State, interface_at, is_neighbour}

over_has : (s : State) (iface : ℕ) (f : InterfaceEntry → Outgoing) → ((i : InterfaceEntry) → IsSome (interface_at iface s) → HasInterface s (f i)) → HasInterface s (outgoing_over f (interface_at iface s))
over_has s iface f each = by (interface_at iface s) refl
  where
    by : (m : Option InterfaceEntry) → interface_at iface s ≡ m → HasInterface s (outgoing_over f m)
    by None at = tt
    by (Some i) at = each i (subst IsSome (sym at) refl)

finite_has : (s : State) (target : Target) (prefix : PrefixValue) (t : Advertisement) (i : InterfaceEntry) (hop : Option Addr) → IsSome (interface_at target.iface s) → HasInterface s (outgoing_finite target prefix t i s hop)
finite_has s target prefix t i None there = tt
finite_has s target prefix t i (Some hop) there = by (is_source_too_many (record { prefix = prefix; router = t.router }) s.sources)
  where
    by : (b : Bool) → HasInterface s (if b then outgoings.LeftOut else outgoings.Message target (messages.Update prefix t.router hop t.distance.seqno t.distance.metric (4 * i.hello)))
    by true = tt
    by false = there

update_has : (s : State) (target : Target) (prefix : PrefixValue) (i : InterfaceEntry) → IsSome (interface_at target.iface s) → HasInterface s (outgoing_update target prefix s i)
update_has s target prefix i there = by (advertisement prefix s)
  where
    by : (m : Option Advertisement) → HasInterface s (outgoing_advertisement target prefix s i m)
    by None = there
    by (Some t) = finite_has s target prefix t i (address_of (family_of prefix.addr) i) there

pub item_has : ItemsHaveInterfaces
unfolding outgoing
item_has s (items.Hello iface) = over_has s iface _ (λ i there. there)
item_has s (items.Ihu peer) = by (is_neighbour peer s)
  where
    by : (b : Bool) → HasInterface s (if b then outgoing_over (outgoing_ihu peer s) (interface_at peer.iface s) else outgoings.Nothing)
    by true = over_has s peer.iface (outgoing_ihu peer s) (λ i there. there)
    by false = tt
item_has s (items.Update target prefix) = over_has s target.iface (outgoing_update target prefix s) (λ i there. update_has s target prefix i there)
item_has s (items.Request peer source seqno hops) = over_has s peer.iface _ (λ i there. there)
item_has s (items.Ack peer opaque) = over_has s peer.iface _ (λ i there. there)
