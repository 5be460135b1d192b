-- The datagrams that a speaker sends (profile).
use Rattle.std.specs.Prelude.{◌≡◌, ℕ, Bool, true, false, ◌++◌, List, [], ◌∷◌, IsSome, Option, Some, None}
use Rattle.std.specs.List.{list_all}
use Rattle.babel_value.specs.declared.addresses.Addr.{Addr}
use Rattle.babel_message.specs.declared.messages.Message.{Message}
use Rattle.babel_packet.specs.Encodable.{is_encodable, IsMessage}
use Rattle.babel_packet.specs.BodyMeanings.{Means, datagram}
use Rattle.babel_build.specs.Built.{Built, HasEncoded, fits, added}
use Rattle.babel_state.specs.declared.items.Item.{Item}
use Rattle.babel_state.specs.declared.items.Outgoing.{Outgoing}
use Rattle.babel_state.specs.declared.items.Outgoing.TheVariants as outgoings
use Rattle.babel_state.specs.declared.items.Target.{Target}
use Rattle.babel_state.specs.State.{State, interface_at}
use Rattle.babel_state.specs.Addresses.{transport_at}
use Rattle.babel_state.specs.OutgoingMessages.{outgoing}
use Rattle.babel_state.specs.NextDatagram.{Fits, Draft, drafted, next_datagram}
use Rattle.babel_speaker.specs.SentMessages.{no_draft}

-- The target and the message of what is sent, if there is one.
abbrev pub message_of : Outgoing → Option (Target × Message)
message_of (outgoings.Message target message) = Some (target, message)
message_of out = None

-- The messages after what is sent of one more item.
abbrev pub with_outgoing : List Message → Outgoing → List Message
with_outgoing ms (outgoings.Message target message) = ms ++ message ∷ []
with_outgoing ms out = ms

-- What the first of the items means.
abbrev pub first_message : State → List Item → Option (Target × Message)
first_message s [] = None
first_message s (x ∷ xs) = message_of (outgoing s x)

abbrev pub is_encodable_outgoing : Outgoing → Bool
is_encodable_outgoing (outgoings.Message target message) = is_encodable message
is_encodable_outgoing out = true

abbrev pub are_encodable : List Message → Bool
are_encodable = list_all is_encodable

-- A datagram after these messages were added.
abbrev pub built_of : Built → List Message → Built
built_of b [] = b
built_of b (m ∷ ms) = built_of (added b m) ms

-- A datagram from this address, without messages.
abbrev pub empty_datagram : Addr → Built
empty_datagram source = record { source = source; body = [] }

-- Whether a message fits into a datagram from this address that has these messages already.
abbrev pub fits_from : Option Addr → List Message → Message → Bool
fits_from None messages message = false
fits_from (Some source) messages message = fits (built_of (empty_datagram source) messages) message

-- The same of a datagram to a target: it is sent from the transport address of the target's interface.
abbrev pub fits_by : State → Fits
fits_by s target messages message = fits_from (transport_at target.iface s) messages message

-- The speaker's next datagram, filled as the builder fills it.
abbrev pub draft_at : ℕ → State → Draft
draft_at now s = next_datagram now (fits_by s) s

-- A message whose fields are whole fits into a datagram that has no other.
abbrev pub FirstMessagesFit : Type 0
FirstMessagesFit =
    (s : State) (target : Target) (message : Message) → IsMessage message → IsSome (transport_at target.iface s) → fits_by s target [] message ≡ true

-- Each interface has an address of its transport's family.
abbrev pub HaveTransports : State → Type 0
HaveTransports s = (iface : ℕ) → IsSome (interface_at iface s) → IsSome (transport_at iface s)

-- The octets mean these messages to a receiver that gets them from the source address.
abbrev pub MeansFrom : Option Addr → List ℕ → List Message → Type 0
MeansFrom None octets messages = ⊥
MeansFrom (Some source) octets messages = Means octets source messages

-- The octets are those that the builder makes of these messages, sent from the source address: nothing else is there, and no trailer.
abbrev pub IsBuiltFrom : Option Addr → List ℕ → List Message → Type 0
IsBuiltFrom None octets messages = ⊥
IsBuiltFrom (Some source) octets messages = octets ≡ datagram (built_of (empty_datagram source) messages).body

-- ---- drafts

-- A draft to the target with these messages.
abbrev pub draft_to : Target → State → List Message → Draft
draft_to target s ms = record { state = s; target = Some target; messages = ms }

-- Whether a message fits into the datagram with more messages, whatever the target.
abbrev pub fits_at : Built → Fits
fits_at b target ms message = fits (built_of b ms) message

-- A datagram that began as `first` with the messages `given`, and is being filled: it has the messages of a draft, from which the remaining
-- items lead to the same end.
pub record IsFilling (now : ℕ) (b : Built) (given : List Message) (target : Target) (end : Draft) (first : Built) (s : State) (built : Built) : Type 0 where
  pub ms : List Message
  pub has : built ≡ built_of b ms
  pub same : drafted now (fits_at b) s.pending.items (draft_to target s ms) ≡ end
  pub encoded : (are_encodable given ≡ true → HasEncoded first given) → are_encodable ms ≡ true → HasEncoded built ms

-- A datagram that is filled: it has the messages of the draft at the end.
pub record IsFilled (b : Built) (given : List Message) (target : Target) (end : Draft) (s : State) (first built : Built) : Type 0 where
  pub state : s ≡ end.state
  pub goes_to : Some target ≡ end.target
  pub has : built ≡ built_of b end.messages
  pub encoded : (are_encodable given ≡ true → HasEncoded first given) → are_encodable end.messages ≡ true → HasEncoded built end.messages

-- The state from which the same datagram follows, whatever the moment and the builder.
pub record IsSkipped (old new : State) : Type 0 where
  pub interfaces : new.interfaces ≡ old.interfaces
  pub same : (now : ℕ) (f : Fits) → drafted now f new.pending.items (no_draft new) ≡ drafted now f old.pending.items (no_draft old)
