-- What an event makes of a network (profile).
use Rattle.std.specs.Prelude.{◌≡◌, ℕ, List, slice_get, Option, Some, None, Ok}
use Rattle.babel_packet.specs.BodyMeanings.{Means}
use Rattle.babel_packet.specs.Meaning.{meaning}
use Rattle.babel_message.specs.declared.placements.Placed.{Placed}
use Rattle.babel_state.specs.declared.configs.Config.{Config}
use Rattle.babel_state.specs.declared.errors.RecvFault.{RecvFault}
use Rattle.babel_state.specs.declared.items.Target.{Target}
use Rattle.babel_state.specs.Addresses.{source_fault, transport_at}
use Rattle.babel_state.specs.Calls.{cost_set, announced_also, withdrawn}
use Rattle.babel_state.specs.Grouping.{items_grouped}
use Rattle.babel_state.specs.LostLinks.{links_lost}
use Rattle.babel_state.specs.Messages.{after_places}
use Rattle.babel_state.specs.NextDatagram.{Draft}
use Rattle.babel_state.specs.Requesting.{seqnos_requested}
use Rattle.babel_state.specs.Restarts.{restarted}
use Rattle.babel_state.specs.SeqnoRequests.{raised}
use Rattle.babel_state.specs.State.{State}
use Rattle.babel_state.specs.Ticks.{ticked}
use Rattle.babel_speaker.specs.Sending.{IsBuiltFrom, draft_at}
use Rattle.babel_machine.specs.declared.events.Event.{Event}
use Rattle.babel_machine.specs.declared.events.Event.TheVariants as events
use Rattle.babel_net.specs.Networks.{NetworkState, SentOctets, with_speaker_state, with_octets}

-- ---- a call without a datagram

-- What such an event makes of its node's speaker.
abbrev pub step_of : Event → State → State
step_of (events.Tick node now) s = ticked now s
step_of (events.SetCost node iface cost) s = cost_set iface cost s
step_of (events.Raise node) s = raised s
step_of (events.RequestSeqnos node now) s = seqnos_requested now s
step_of (events.LoseLinks node iface now) s = links_lost now iface s
step_of (events.GroupItems node) s = items_grouped s
step_of (events.Announce node prefix) s = announced_also prefix s
step_of (events.Withdraw node prefix) s = withdrawn prefix s
step_of event s = s

-- The node's speaker makes the event's step, and all else is unchanged.
pub record MakesCall (node : ℕ) (event : Event) (old new : NetworkState) : Type 0 where
  pub speaker : State
  pub is : slice_get old.speakers node ≡ Some speaker
  pub next : new ≡ with_speaker_state old node (step_of event speaker)

-- ---- a datagram that is sent

-- The octets mean the messages of the draft to a receiver that gets them from the own address of the target's interface. They are
-- those that the builder makes of the messages, and no others.
pub record IsSentBy (node : ℕ) (speaker : State) (draft : Draft) (target : Target) (d : SentOctets) : Type 0 where
  pub sender : d.node ≡ node
  pub is_own : transport_at target.iface speaker ≡ Some d.source
  pub means : Means d.octets d.source draft.messages
  pub built : IsBuiltFrom (Some d.source) d.octets draft.messages

-- What is sent, if the draft has a target.
abbrev pub IsSent : ℕ → State → Draft → Option Target → Option SentOctets → Type 0
IsSent node speaker draft None None = Unit {0}
IsSent node speaker draft (Some target) (Some d) = IsSentBy node speaker draft target d
IsSent node speaker draft target sent = ⊥

-- What was sent is recorded.
abbrev pub recorded : NetworkState → Option SentOctets → NetworkState
recorded n None = n
recorded n (Some d) = with_octets n d

-- The node's speaker sends its next datagram, which is recorded, and all else is unchanged. With nothing to send, nothing is
-- recorded.
pub record MakesEmit (node now : ℕ) (old new : NetworkState) : Type 0 where
  pub speaker : State
  pub is : slice_get old.speakers node ≡ Some speaker
  pub sent : Option SentOctets
  pub is_sent : IsSent node speaker (draft_at now speaker) (draft_at now speaker).target sent
  pub next : new ≡ recorded (with_speaker_state old node (draft_at now speaker).state) sent

-- ---- a datagram that is delivered

-- The speaker handles what the datagram means. If it takes none from the address, it is unchanged.
abbrev pub Received : ℕ → ℕ → SentOctets → Option RecvFault → State → State → Type 0
Received now iface d (Some fault) old new = new ≡ old
Received now iface d None old new =
    (placed : List Placed) × (meaning d.octets d.source ≡ Ok placed)
    × (new ≡ after_places now (record { iface = iface; addr = d.source }) placed old)

-- The node's speaker receives the octets of the datagram of this number over one of its interfaces, and all else is unchanged.
pub record MakesDeliver (number node iface now : ℕ) (old new : NetworkState) : Type 0 where
  pub speaker : State
  pub is : slice_get old.speakers node ≡ Some speaker
  pub datagram : SentOctets
  pub was_sent : slice_get old.sent number ≡ Some datagram
  pub after : State
  pub received : Received now iface datagram (source_fault iface datagram.source speaker) speaker after
  pub next : new ≡ with_speaker_state old node after

-- ---- a restart

-- The node's speaker is saved and restored with the node's configuration at the moment, and all else is unchanged.
pub record MakesRestart (node now : ℕ) (old new : NetworkState) : Type 0 where
  pub speaker : State
  pub is : slice_get old.speakers node ≡ Some speaker
  pub config : Config
  pub configured : slice_get old.configs node ≡ Some config
  pub next : new ≡ with_speaker_state old node (restarted now config speaker)

-- ---- events

-- An event that isn't refused leads from one network to another.
abbrev pub Makes : Event → NetworkState → NetworkState → Type 0
Makes (events.Emit node now) old new = MakesEmit node now old new
Makes (events.Deliver number node iface now) old new = MakesDeliver number node iface now old new
Makes (events.Tick node now) old new = MakesCall node (events.Tick node now) old new
Makes (events.SetCost node iface cost) old new = MakesCall node (events.SetCost node iface cost) old new
Makes (events.Raise node) old new = MakesCall node (events.Raise node) old new
Makes (events.RequestSeqnos node now) old new = MakesCall node (events.RequestSeqnos node now) old new
Makes (events.LoseLinks node iface now) old new = MakesCall node (events.LoseLinks node iface now) old new
Makes (events.GroupItems node) old new = MakesCall node (events.GroupItems node) old new
Makes (events.Announce node prefix) old new = MakesCall node (events.Announce node prefix) old new
Makes (events.Withdraw node prefix) old new = MakesCall node (events.Withdraw node prefix) old new
Makes (events.Restart node now) old new = MakesRestart node now old new
