-- Taking the next datagram: items leave the front one by one, each read in the state that those before it left (profile).
use Rattle.std.specs.Prelude.{ℕ, Bool, true, false, ◌&&◌, List, [], ◌∷◌, ◌++◌, Option, Some, None, nat_eq, if◌then◌else◌}
use Rattle.std.specs.Option.{option_map_or}
use Rattle.babel_value.specs.declared.addresses.Addr.{Addr}
use Rattle.babel_value.specs.declared.distances.Distance.{Distance}
use Rattle.babel_value.specs.declared.keys.Source.{Source}
use Rattle.babel_value.specs.Seqnos.{next_seqno}
use Rattle.babel_message.specs.declared.messages.Message.{Message}
use Rattle.babel_message.specs.declared.messages.Message.TheVariants as messages
use Rattle.babel_sources.specs.Sources.{lowered}
use Rattle.babel_state.specs.declared.interfaces.InterfaceEntry.{InterfaceEntry}
use Rattle.babel_state.specs.declared.items.Item.{Item}
use Rattle.babel_state.specs.declared.items.Outgoing.{Outgoing}
use Rattle.babel_state.specs.declared.items.Outgoing.TheVariants as outgoings
use Rattle.babel_state.specs.declared.items.Target.{Target}
use Rattle.babel_state.specs.Sameness.{is_same_addr}
use Rattle.babel_state.specs.Queueing.{counted}
use Rattle.babel_state.specs.State.{State, with_interface}
use Rattle.babel_state.specs.OutgoingMessages.{outgoing}

-- ---- what a message that is sent changes

-- A Hello uses up its seqno (RFC 8966, section 3.4.1).
abbrev pub next_hello : InterfaceEntry → InterfaceEntry
next_hello i = record i { hello_seqno = next_seqno i.hello_seqno }

-- An Update lowers the feasibility distance of its source (RFC 8966, section 3.7.3).
abbrev pub lower_source : ℕ → Source → Distance → State → State
lower_source now source sent s = record s { sources = lowered now source sent s.sources }

unfoldable pub after_message : ℕ → Target → Message → State → State
after_message now target (messages.Hello unicast seqno interval) s = with_interface target.iface next_hello s
after_message now target (messages.Update prefix router next_hop seqno metric interval) s =
    lower_source now (record { prefix = prefix; router = router }) (record { seqno = seqno; metric = metric }) s
after_message now target message s = s

-- ---- the datagram so far

pub record Draft : Type 0 where
  pub state : State
  -- where it goes: not known before its first message
  pub target : Option Target
  pub messages : List Message

abbrev pub is_same_receiver : Option Addr → Option Addr → Bool
is_same_receiver None None = true
is_same_receiver None (Some b) = false
is_same_receiver (Some a) None = false
is_same_receiver (Some a) (Some b) = is_same_addr a b

abbrev pub is_same_target : Target → Target → Bool
is_same_target a b = nat_eq a.iface b.iface && is_same_receiver a.to b.to

abbrev pub goes_to : Option Target → Target → Bool
goes_to target other = option_map_or (λ t. is_same_target t other) target true

-- Whether a message fits into a datagram for a target that has these messages already: the datagram builder's own word.
abbrev pub Fits : Type 0
Fits = Target → List Message → Message → Bool

-- With one more message. Now it's there, it lowers sources and uses up Hello seqnos.
abbrev pub with_message : ℕ → Draft → Target → Message → Draft
with_message now b target message = record {
  state = after_message now target message b.state;
  target = Some target;
  messages = b.messages ++ message ∷ [];
}

abbrev pub left_out_more : State → State
left_out_more s = record s { left_out = counted s.left_out 1 }

-- After one item. None: it has another target, or its message doesn't fit, so that it stays.
unfoldable pub draft_with : ℕ → Fits → Draft → Outgoing → Option Draft
draft_with now fits b outgoings.Nothing = Some b
draft_with now fits b outgoings.LeftOut = Some (record b { state = left_out_more b.state })
draft_with now fits b (outgoings.Message target message) =
    if goes_to b.target target && fits target b.messages message then Some (with_message now b target message) else None

-- ---- item after item

abbrev pub without_first : List Item → Draft → Draft
without_first rest b = record b { state = record b.state { pending = record b.state.pending { items = rest } } }

-- As long as the items don't stay.
abbrev pub drafted : ℕ → Fits → List Item → Draft → Draft
drafted now fits [] b = b
drafted now fits (x ∷ xs) b =
    option_map_or (λ c. drafted now fits xs (without_first xs c)) (draft_with now fits b (outgoing b.state x)) b

-- The next datagram: its target and messages, if there is one, and the state after it.
unfoldable pub next_datagram : ℕ → Fits → State → Draft
next_datagram now fits s = drafted now fits s.pending.items (record { state = s; target = None; messages = [] })
