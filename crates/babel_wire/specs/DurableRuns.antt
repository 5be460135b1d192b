-- A run of durable turns, with its counts (profile).
use Rattle.std.specs.Prelude.{◌≡◌, ◌≤◌, ◌<◌, ◌+◌, ℕ, Bool, List, map, length, sum_by, All, Option, Some, None, if◌then◌else◌, true, false}
use Rattle.babel_state.specs.Restarts.{Snapshot, snapshot_of}
use Rattle.babel_state.specs.State.{State}
use Rattle.babel_speaker.specs.Versions.{SpeakerValue, CountsChanges, greatest_version}
use Rattle.babel_wire.specs.declared.report.Report.{Report}
use Rattle.babel_wire.specs.Calls.{Sending, Call, Send, Grows}
use Rattle.babel_wire.specs.Turns.{AreSent, received_by, failed_by, refused_by, sent_by, lost_by}
use Rattle.babel_wire.specs.declared.durable.report.DurableReport.{DurableReport}
use Rattle.babel_wire.specs.Keeping.{DurableTurn, Keeping, Unchanged, NotMade, Tried, Keeps, is_kept, given_in, calls_of, calls_of_turn, calls_of_keeping, AreDurableTurns, IsDurableTurn}
use Rattle.babel_wire.specs.Taken.{Taken, waiting, datagram_of}

-- ---- what a keeper knows

-- It knows the count of the snapshot that was kept last. As long as the speaker has the same count, below its greatest value, the speaker's
-- snapshot is that one. If nothing is known to be kept, it has no count.
abbrev pub Fits : Option Snapshot → Option ℕ → SpeakerValue → Type 0
Fits None None speaker = Unit {0}
Fits None (Some version) speaker = ⊥
Fits (Some snapshot) None speaker = ⊥
Fits (Some snapshot) (Some version) speaker =
    (version ≤ speaker.snapshot_version)
    × (version ≡ speaker.snapshot_version → version < greatest_version → snapshot ≡ snapshot_of speaker.state)

-- So it is after any calls of the speaker.
abbrev pub KeepersFitOn : Type 0
KeepersFitOn =
    (last : Option Snapshot) (version : Option ℕ) (old new : SpeakerValue) → Fits last version old → CountsChanges old new → Fits last version new

-- The count that is known after a turn whose snapshot has this one.
abbrev pub kept_version : Option ℕ → ℕ → Keeping → Option ℕ
kept_version version count Unchanged = version
kept_version version count NotMade = version
kept_version version count (Tried octets true) = Some count
kept_version version count (Tried octets false) = None

-- The count is the one that is known, below its greatest value: nothing is to be kept.
abbrev pub IsKept : Option ℕ → ℕ → Type 0
IsKept version count = (version ≡ Some count) × (count < greatest_version)

-- ---- the counts

-- A snapshot that was to be kept, and wasn't, counts 1.
abbrev pub failed_keep : Keeping → ℕ
failed_keep keeping = if is_kept keeping then 0 else 1

-- The datagrams that were taken and not given to the wire.
abbrev pub unsent_by : DurableTurn → ℕ
unsent_by t = if is_kept t.keeping then 0 else length t.turn.sendings

-- The wire's own faults are those of the datagrams that it was given: one that is lost since the snapshot wasn't kept is none.
abbrev pub counts_of_turn : DurableTurn → DurableReport
counts_of_turn t = record {
  report = record {
    received = received_by t.turn.receipt;
    sent = sent_by (given_in t);
    refused = refused_by t.turn.is_refused;
    faults = failed_by t.turn.receipt + lost_by (given_in t);
  };
  failed_keeps = failed_keep t.keeping;
  lost = unsent_by t;
}

-- The counts of some turns are the sums.
abbrev pub counts_of : List DurableTurn → DurableReport
counts_of ts = record {
  report = record {
    received = sum_by (λ (t : DurableTurn). (counts_of_turn t).report.received) ts;
    sent = sum_by (λ (t : DurableTurn). (counts_of_turn t).report.sent) ts;
    refused = sum_by (λ (t : DurableTurn). (counts_of_turn t).report.refused) ts;
    faults = sum_by (λ (t : DurableTurn). (counts_of_turn t).report.faults) ts;
  };
  failed_keeps = sum_by (λ (t : DurableTurn). failed_keep t.keeping) ts;
  lost = sum_by unsent_by ts;
}

-- The counts of two reports together.
abbrev pub together : DurableReport → DurableReport → DurableReport
together a b = record {
  report = record {
    received = a.report.received + b.report.received;
    sent = a.report.sent + b.report.sent;
    refused = a.report.refused + b.report.refused;
    faults = a.report.faults + b.report.faults;
  };
  failed_keeps = a.failed_keeps + b.failed_keeps;
  lost = a.lost + b.lost;
}

-- ---- the run

-- So many durable turns led from the old state to the new one, and from what was kept last before them to what was kept last after them. The wire and
-- the store got exactly their calls, and the report has their counts. If the snapshot after them is the one that was kept before them, the store wasn't
-- called.
pub record IsDurableRun (count : ℕ) (last : Option Snapshot) (known : Option ℕ) (old : SpeakerValue) (history : Option (List Call))
    (later : Option ℕ) (new : SpeakerValue) (after : Option (List Call)) (report : DurableReport) : Type 0 where
  pub turns : List DurableTurn
  pub kept : Option Snapshot
  pub so_many : length turns ≡ count
  pub speaker : AreDurableTurns last old.state turns kept new.state
  pub fits : Fits kept later new
  pub calls : Grows history (calls_of turns) after
  pub counts : report ≡ counts_of turns
  pub quiet : IsKept known new.snapshot_version → All (λ (t : DurableTurn). t.keeping ≡ Unchanged) turns × (later ≡ known)

-- ---- its parts

-- One turn, whatever was kept last.
pub record IsOneDurableTurn (known : Option ℕ) (old : SpeakerValue) (history : Option (List Call)) (later : Option ℕ) (new : SpeakerValue)
    (after : Option (List Call)) (report : DurableReport) : Type 0 where
  pub turn : DurableTurn
  pub speaker : (last : Option Snapshot) → Fits last known old → IsDurableTurn last old.state turn new.state
  pub keeper : later ≡ kept_version known new.snapshot_version turn.keeping
  pub calls : Grows history (calls_of_turn turn) after
  pub counts : report ≡ counts_of_turn turn
  pub quiet : IsKept known new.snapshot_version → turn.keeping ≡ Unchanged

-- The snapshot was kept, or wasn't.
pub record IsKeeping (speaker : SpeakerValue) (known : Option ℕ) (history : Option (List Call)) (later : Option ℕ) (after : Option (List Call))
    (is_done : Bool) : Type 0 where
  pub keeping : Keeping
  pub keeps : (last : Option Snapshot) → Fits last known speaker → Keeps last (snapshot_of speaker.state) keeping
  pub done : is_done ≡ is_kept keeping
  pub keeper : later ≡ kept_version known speaker.snapshot_version keeping
  pub calls : Grows history (calls_of_keeping keeping) after
  pub quiet : IsKept known speaker.snapshot_version → keeping ≡ Unchanged

-- Datagrams were taken one after another.
pub record AreTakenSoFar (count now : ℕ) (old : State) (taken : List Taken) (new : State) : Type 0 where
  pub so_many : length taken ≡ count
  pub each : AreSent now old (map waiting taken) new

-- The wire was given these datagrams, and they were counted.
pub record AreGiven (datagrams : List Taken) (history after : Option (List Call)) (report : Report) : Type 0 where
  pub sendings : List Sending
  pub same : map datagram_of sendings ≡ datagrams
  pub calls : Grows history (map Send sendings) after
  pub counts : report ≡ record { received = 0; sent = sent_by sendings; refused = 0; faults = lost_by sendings }
