-- The turns in which a speaker is driven over a wire (profile).
use Rattle.std.specs.Prelude.{◌≡◌, ◌⊎◌, ◌<◌, ◌+◌, ℕ, Bool, true, false, not, List, [], ◌∷◌, ◌++◌, map, length, sum_by, count_by, Option, Some, None, if◌then◌else◌}
use Rattle.babel_state.specs.declared.errors.RecvFault.{RecvFault}
use Rattle.babel_state.specs.declared.notes.Note.{Note}
use Rattle.babel_state.specs.Addresses.{transport_at}
use Rattle.babel_state.specs.Messages as messages
use Rattle.babel_state.specs.State.{State}
use Rattle.babel_state.specs.Ticks.{ticked}
use Rattle.babel_speaker.specs.Sending.{IsBuiltFrom, MeansFrom, draft_at}
use Rattle.babel_wire.specs.declared.report.Report.{Report}
use Rattle.babel_wire.specs.Calls.{Receipt, Nothing, Failed, Datagram, Sending, Call, Recv, Now, Send, Grows}

-- ---- what happens in a turn

-- What the wire returned in a turn, and whether the speaker refused the datagram that came.
pub record Turn : Type 0 where
  pub receipt : Receipt
  pub is_refused : Bool
  pub now : ℕ
  pub sendings : List Sending

-- The wire is asked for a datagram, then for the moment, and then to send each datagram.
abbrev pub calls_of_turn : Turn → List Call
calls_of_turn t = Recv t.receipt ∷ Now t.now ∷ map Send t.sendings

abbrev pub calls_of : List Turn → List Call
calls_of [] = []
calls_of (t ∷ ts) = calls_of_turn t ++ calls_of ts

-- ---- the speaker in a turn

-- A datagram that came is passed to the speaker, which takes it or refuses it.
abbrev pub Receives : ℕ → Receipt → Bool → State → State → Type 0
Receives now (Datagram iface source octets) false old new =
    (notes : List Note) × messages.Receives (messages.arrival_of now (record { iface = iface; addr = source }) octets) old new notes
Receives now (Datagram iface source octets) true old new =
    (new ≡ old) × ((fault : RecvFault) × messages.IsRecvFault (messages.arrival_of now (record { iface = iface; addr = source }) octets) old fault)
Receives now Nothing is_refused old new = (is_refused ≡ false) × (new ≡ old)
Receives now Failed is_refused old new = (is_refused ≡ false) × (new ≡ old)

-- The speaker's next datagram is what the wire was given to send: it has its target, and its messages are the meaning of the octets.
-- These are the ones that the builder makes of the messages, and no others.
pub record IsDraftSent (now : ℕ) (s : State) (sending : Sending) : Type 0 where
  pub target : (draft_at now s).target ≡ Some sending.target
  pub octets : MeansFrom (transport_at sending.target.iface s) sending.octets (draft_at now s).messages
  pub built : IsBuiltFrom (transport_at sending.target.iface s) sending.octets (draft_at now s).messages

-- The state after these datagrams were taken one after another.
abbrev pub AreSent : ℕ → State → List Sending → State → Type 0
AreSent now old [] new = new ≡ old
AreSent now old (x ∷ xs) new = IsDraftSent now old x × AreSent now (draft_at now old).state xs new

-- How many datagrams are sent in a turn at most (profile).
abbrev pub max_sends : ℕ
max_sends = 64

-- Datagrams are sent until there is none, or there were so many.
abbrev pub Ends : ℕ → ℕ → State → State → Type 0
Ends now count last new =
    ((count ≡ max_sends) × (new ≡ last))
    ⊎ ((count < max_sends) × ((draft_at now last).target ≡ None) × (new ≡ (draft_at now last).state))

pub record SendsPending (now : ℕ) (old : State) (sendings : List Sending) (new : State) : Type 0 where
  pub last : State
  pub each : AreSent now old sendings last
  pub ends : Ends now (length sendings) last new

-- A turn: what came is received, then the speaker ticks, then it sends what is pending.
pub record IsTurn (old : State) (t : Turn) (new : State) : Type 0 where
  pub received : State
  pub receives : Receives t.now t.receipt t.is_refused old received
  pub sends : SendsPending t.now (ticked t.now received) t.sendings new

abbrev pub AreTurns : State → List Turn → State → Type 0
AreTurns old [] new = new ≡ old
AreTurns old (t ∷ ts) new = (mid : State) × IsTurn old t mid × AreTurns mid ts new

-- ---- the counts

abbrev pub received_by : Receipt → ℕ
received_by (Datagram iface source octets) = 1
received_by receipt = 0

abbrev pub failed_by : Receipt → ℕ
failed_by Failed = 1
failed_by receipt = 0

abbrev pub refused_by : Bool → ℕ
refused_by is_refused = if is_refused then 1 else 0

abbrev pub sent_by : List Sending → ℕ
sent_by = count_by (λ (x : Sending). x.is_sent)

abbrev pub lost_by : List Sending → ℕ
lost_by = count_by (λ (x : Sending). not x.is_sent)

-- The counts of a turn.
abbrev pub counts_of_turn : Turn → Report
counts_of_turn t = record {
  received = received_by t.receipt;
  sent = sent_by t.sendings;
  refused = refused_by t.is_refused;
  faults = failed_by t.receipt + lost_by t.sendings;
}

-- The counts of some turns are the sums.
abbrev pub counts_of : List Turn → Report
counts_of turns = record {
  received = sum_by (λ (t : Turn). (counts_of_turn t).received) turns;
  sent = sum_by (λ (t : Turn). (counts_of_turn t).sent) turns;
  refused = sum_by (λ (t : Turn). (counts_of_turn t).refused) turns;
  faults = sum_by (λ (t : Turn). (counts_of_turn t).faults) turns;
}

-- ---- the run

-- So many turns led from the old state to the new one. The wire was asked for exactly their calls, and the report has their counts.
pub record IsRun (count : ℕ) (old : State) (history : Option (List Call)) (new : State) (later : Option (List Call)) (report : Report) : Type 0 where
  pub turns : List Turn
  pub so_many : length turns ≡ count
  pub speaker : AreTurns old turns new
  pub calls : Grows history (calls_of turns) later
  pub counts : report ≡ counts_of turns

-- ---- its parts

pub record IsOneTurn (old : State) (history : Option (List Call)) (new : State) (later : Option (List Call)) (report : Report) : Type 0 where
  pub turn : Turn
  pub speaker : IsTurn old turn new
  pub calls : Grows history (calls_of_turn turn) later
  pub counts : report ≡ counts_of_turn turn

-- What came was received: it was counted, and the speaker took it or refused it.
pub record IsReceived (now : ℕ) (receipt : Receipt) (old new : State) (report : Report) : Type 0 where
  pub is_refused : Bool
  pub speaker : Receives now receipt is_refused old new
  pub counts : report ≡ record { received = received_by receipt; sent = 0; refused = refused_by is_refused; faults = failed_by receipt }

-- What is pending was sent, and counted.
pub record IsSent (now : ℕ) (old : State) (history : Option (List Call)) (new : State) (later : Option (List Call)) (report : Report) : Type 0 where
  pub sendings : List Sending
  pub speaker : SendsPending now old sendings new
  pub calls : Grows history (map Send sendings) later
  pub counts : report ≡ record { received = 0; sent = sent_by sendings; refused = 0; faults = lost_by sendings }

-- The same while it is being sent.
pub record AreSentSoFar (count now : ℕ) (old : State) (history : Option (List Call)) (new : State) (later : Option (List Call)) (report : Report) : Type 0 where
  pub sendings : List Sending
  pub so_many : length sendings ≡ count
  pub each : AreSent now old sendings new
  pub calls : Grows history (map Send sendings) later
  pub counts : report ≡ record { received = 0; sent = sent_by sendings; refused = 0; faults = lost_by sendings }
