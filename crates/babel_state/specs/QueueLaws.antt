-- What is proved of the queue and of the items that mean nothing (profile).
use Rattle.std.specs.Prelude.{◌≡◌, ℕ, Bool, true, false, List, [], ◌∷◌, ◌++◌, All, IsSome, is_none}
use Rattle.std.specs.List.{list_all}
use Rattle.babel_message.specs.declared.messages.Message.{Message}
use Rattle.babel_packet.specs.Encodable.{is_encodable}
use Rattle.babel_state.specs.declared.items.Item.{Item}
use Rattle.babel_state.specs.declared.items.Outgoing.{Outgoing}
use Rattle.babel_state.specs.declared.items.Outgoing.TheVariants as outgoings
use Rattle.babel_state.specs.declared.items.Target.{Target}
use Rattle.babel_state.specs.Queueing.{Pending, queued}
use Rattle.babel_state.specs.State.{State, interface_at}
use Rattle.babel_state.specs.OutgoingMessages.{outgoing}
use Rattle.babel_state.specs.NextDatagram.{Fits, Draft, without_first, drafted, next_datagram}
use Rattle.babel_state.specs.Invariants.{HasHops, IsWellFormed}

-- Queueing two lists at once is queueing one, then the other.
abbrev pub QueueingAppends : Type 0
QueueingAppends = (xs ys : List Item) (old : Pending) → queued (xs ++ ys) old ≡ queued ys (queued xs old)

-- An item that means nothing leaves the front, and changes nothing else.
abbrev pub NothingIsSkipped : Type 0
NothingIsSkipped =
    (now : ℕ) (fits : Fits) (x : Item) (xs : List Item) (b : Draft) → outgoing b.state x ≡ outgoings.Nothing →
    drafted now fits (x ∷ xs) b ≡ drafted now fits xs (without_first xs b)

abbrev pub has_no_message : Outgoing → Bool
has_no_message (outgoings.Message target message) = false
has_no_message outgoing = true

-- No pending item means a message now.
abbrev pub is_silent : State → Bool
is_silent s = list_all (λ x. has_no_message (outgoing s x)) s.pending.items

-- The message of an item fits into a datagram that has no other.
abbrev pub FitsAlone : Fits → State → Item → Type 0
FitsAlone fits s x = (target : Target) (message : Message) → outgoing s x ≡ outgoings.Message target message → fits target [] message ≡ true

-- There is no datagram if and only if no pending item means a message now.
abbrev pub NoneIfNothingPending : Type 0
NoneIfNothingPending =
    (now : ℕ) (fits : Fits) (s : State) → All (FitsAlone fits s) s.pending.items →
    is_none (next_datagram now fits s).target ≡ is_silent s

-- What an item means is a message that a datagram can carry.
abbrev pub IsEncodable : Outgoing → Type 0
IsEncodable (outgoings.Message target message) = is_encodable message ≡ true
IsEncodable outgoing = Unit {0}

abbrev pub ItemsAreEncodable : Type 0
ItemsAreEncodable = (s : State) (x : Item) → IsWellFormed s → HasHops x → IsEncodable (outgoing s x)

-- So every message of a datagram is one that it can carry.
abbrev pub DatagramsAreEncodable : Type 0
DatagramsAreEncodable = (now : ℕ) (fits : Fits) (s : State) → IsWellFormed s → list_all is_encodable (next_datagram now fits s).messages ≡ true

-- It goes over an interface that exists.
abbrev pub HasInterface : State → Outgoing → Type 0
HasInterface s (outgoings.Message target message) = IsSome (interface_at target.iface s)
HasInterface s outgoing = Unit {0}

abbrev pub ItemsHaveInterfaces : Type 0
ItemsHaveInterfaces = (s : State) (x : Item) → HasInterface s (outgoing s x)
