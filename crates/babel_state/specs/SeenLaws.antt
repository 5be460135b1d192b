-- What is proved of what a network sees (profile).
use Rattle.std.specs.Prelude.{◌≡◌, ◌≤◌, ◌⊎◌, ℕ, Bool, true, false, List, [], All, Some, None, Result, Ok}
use Rattle.babel_value.specs.declared.keys.Peer.{Peer}
use Rattle.babel_value.specs.Prefixes.{PrefixValue}
use Rattle.babel_message.specs.declared.messages.Message.{Message}
use Rattle.babel_message.specs.declared.placements.Placed.{Placed}
use Rattle.babel_message.specs.declared.errors.Refusal.{Refusal}
use Rattle.babel_packet.specs.Encodable.{is_encodable}
use Rattle.babel_packet.specs.Meaning.{messages_of}
use Rattle.babel_state.specs.declared.configs.Config.{Config}
use Rattle.babel_state.specs.declared.items.Target.{Target}
use Rattle.babel_state.specs.State.{State, cost_at}
use Rattle.babel_state.specs.Grouping.{items_grouped}
use Rattle.babel_state.specs.Requesting.{seqnos_requested}
use Rattle.babel_state.specs.SeqnoRequests.{raised}
use Rattle.babel_state.specs.Messages.{handle_message, after_places}
use Rattle.babel_state.specs.LostLinks.{links_lost}
use Rattle.babel_state.specs.Ticks.{ticked}
use Rattle.babel_state.specs.NextDatagram.{Fits, next_datagram}
use Rattle.babel_state.specs.Calls.{first_state, set_cost_fault, cost_set, is_prefix_too_many, announced_also, withdrawn}
use Rattle.babel_state.specs.CurrentSelections.{AreCurrent, AreRoutesInOrder}
use Rattle.babel_state.specs.Seen.{seen, HeardValue, heard_at, update_of, updates_among, IsHeardFrom, IsSelecting, announcing_also, announcing_without, Moves, Sends, IsNew}
use Rattle.babel_state.specs.Invariants.{IsWellFormed}

-- A new speaker is as configured, and has no source, route or selection.
abbrev pub NewSpeakersAreNew : Type 0
NewSpeakersAreNew = (c : Config) → IsNew c (seen (first_state c))

-- Every link costs at least 1 (RFC 8966, section 3.5.2: costs are positive).
abbrev pub AreCostsPositive : State → Type 0
AreCostsPositive s = (peer : Peer) → 1 ≤ cost_at s peer

-- If all selections are current, each is a feasible and finite route of the table, with a metric above the advertised one.
abbrev pub CurrentIsSelecting : Type 0
CurrentIsSelecting = (s : State) → AreRoutesInOrder s → AreCostsPositive s → AreCurrent s → IsSelecting (seen s)

-- ---- routes come from updates alone

-- A finite route that is there after a message was there before, or is what the message advertised, of its sender.
abbrev pub HearsOnly : Peer → Message → State → State → Type 0
HearsOnly peer message old new =
    (prefix : PrefixValue) (from : Peer) (h : HeardValue) →
    heard_at prefix from new ≡ Some h →
    (heard_at prefix from old ≡ Some h) ⊎ IsHeardFrom peer (update_of message) prefix from h

abbrev pub MessagesAreHeard : Type 0
MessagesAreHeard =
    (now : ℕ) (peer : Peer) (message : Message) (s : State) → AreRoutesInOrder s →
    AreRoutesInOrder (handle_message now peer message s).0 × HearsOnly peer message s (handle_message now peer message s).0

-- A tick leaves the routes in order, and a finite route that is there after it was there before.
abbrev pub TicksHearNothing : Type 0
TicksHearNothing =
    (now : ℕ) (s : State) → AreRoutesInOrder s →
    AreRoutesInOrder (ticked now s) ×
    ((prefix : PrefixValue) (from : Peer) (h : HeardValue) → heard_at prefix from (ticked now s) ≡ Some h → heard_at prefix from s ≡ Some h)

-- ---- each call, for the network

abbrev pub AreEncodable : List Message → Type 0
AreEncodable = All (λ message. is_encodable message ≡ true)

-- The places of a datagram: its updates are heard, and the own seqno grows once for some of its requests.
abbrev pub PlacesMove : Type 0
PlacesMove =
    (now : ℕ) (peer : Peer) (placed : List Placed) (s : State) → AreEncodable (messages_of placed) → IsWellFormed s →
    IsWellFormed (after_places now peer placed s) ×
    ((growths : ℕ) × Moves peer (updates_among (messages_of placed)) growths (seen s).announces (seen s) (seen (after_places now peer placed s)))

-- A datagram of a peer whose octets were read so: its updates are heard.
abbrev pub MovesByDatagram : Peer → Result (List Placed) Refusal → State → State → Type 0
MovesByDatagram peer read old new =
    (placed : List Placed) × (read ≡ Ok placed)
    × ((growths : ℕ) × Moves peer (updates_among (messages_of placed)) growths (seen old).announces (seen old) (seen new))

-- The calls without a datagram hear nothing, whoever the peer is.
abbrev pub MovesAlone : ℕ → (PrefixValue → Bool) → State → State → Type 0
MovesAlone growths announced old new = (peer : Peer) → Moves peer [] growths announced (seen old) (seen new)

abbrev pub TicksMove : Type 0
TicksMove = (now : ℕ) (s : State) → IsWellFormed s → MovesAlone 0 (seen s).announces s (ticked now s)

abbrev pub CostsMove : Type 0
CostsMove = (iface cost : ℕ) (s : State) → set_cost_fault iface cost s ≡ None → IsWellFormed s → MovesAlone 0 (seen s).announces s (cost_set iface cost s)

abbrev pub AnnouncingMoves : Type 0
AnnouncingMoves =
    (prefix : PrefixValue) (s : State) → is_prefix_too_many prefix s ≡ false → IsWellFormed s →
    MovesAlone 0 (announcing_also prefix (seen s)) s (announced_also prefix s)

abbrev pub WithdrawingMoves : Type 0
WithdrawingMoves = (prefix : PrefixValue) (s : State) → IsWellFormed s → MovesAlone 0 (announcing_without prefix (seen s)) s (withdrawn prefix s)

abbrev pub RaisingMoves : Type 0
RaisingMoves = (s : State) → IsWellFormed s → MovesAlone 1 (seen s).announces s (raised s)

abbrev pub RequestingMoves : Type 0
RequestingMoves = (now : ℕ) (s : State) → IsWellFormed s → MovesAlone 0 (seen s).announces s (seqnos_requested now s)

abbrev pub LosingMoves : Type 0
LosingMoves = (now iface : ℕ) (s : State) → IsWellFormed s → MovesAlone 0 (seen s).announces s (links_lost now iface s)

abbrev pub GroupingMoves : Type 0
GroupingMoves = (s : State) → IsWellFormed s → MovesAlone 0 (seen s).announces s (items_grouped s)

-- The next datagram sends its updates over its target's interface.
abbrev pub DatagramsSend : Type 0
DatagramsSend =
    (now : ℕ) (fits : Fits) (s : State) (target : Target) → IsWellFormed s → (next_datagram now fits s).target ≡ Some target →
    Sends target.iface (updates_among (next_datagram now fits s).messages) (seen s) (seen (next_datagram now fits s).state)

-- If there is none, nothing that a network sees changed.
abbrev pub NoDatagramChangesNothing : Type 0
NoDatagramChangesNothing =
    (now : ℕ) (fits : Fits) (s : State) → (next_datagram now fits s).target ≡ None → seen (next_datagram now fits s).state ≡ seen s
