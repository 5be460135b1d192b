-- Lines that are taken one after another (profile).
use Rattle.std.specs.Prelude.{◌≡◌, ◌+◌, ℕ, Bool, true, false, List, [], length, Option}
use Rattle.std.specs.Io.KnownBytes.{Appends}
use Rattle.babel_state.specs.State.{State}
use Rattle.babel_text.specs.declared.log_lines.Action.{Action}
use Rattle.babel_replay.specs.declared.stepping.Outcome.{Outcome}
use Rattle.babel_replay.specs.Reading.{ReadsLine}
use Rattle.babel_replay.specs.LogReports.{IsLineReport, IsLogReport}
use Rattle.babel_replay.specs.Report.{SendsAll}
use Rattle.babel_replay.specs.Seen.{SeenPrefix}
use Rattle.babel_replay.specs.Stepping.{Steps}

-- A line was taken, and its report written.
pub record IsReportedLine (old : State) (seen : List SeenPrefix) (new : State) (later : List SeenPrefix) (before after : Option (List ℕ)) (text : List ℕ) : Type 0 where
  pub report : List ℕ
  pub line : IsLineReport text old seen new later report
  pub written : Appends before after report

-- The next line of a reader, of which P holds.
pub record IsNextLine (log left : Option (List ℕ)) (P : List ℕ → Type 0) : Type 0 where
  pub text : List ℕ
  pub reads : ReadsLine log left true text
  pub holds : P text

-- There is a next line of which P holds, or the log has ended, and Q holds.
abbrev pub TakesLine : Option (List ℕ) → Option (List ℕ) → Bool → (List ℕ → Type 0) → Type 0 → Type 0
TakesLine log left true P Q = IsNextLine log left P
TakesLine log left false P Q = ReadsLine log left false [] × Q

-- These lines were taken, and their reports written. The number is that of the next line.
pub record IsReported (number : ℕ) (old : State) (seen : List SeenPrefix) (new : State) (later : List SeenPrefix) (before after : Option (List ℕ)) (texts : List (List ℕ)) : Type 0 where
  pub before_it : number ≡ length texts + 1
  pub report : List ℕ
  pub reported : IsLogReport texts old seen new later report
  pub written : Appends before after report

-- What happened was a step of the speaker, and all datagrams were taken.
pub record LeadsByEvent (time : ℕ) (action : Action) (old new : State) : Type 0 where
  pub outcome : Outcome
  pub stepped : State
  pub steps : Steps time action old stepped outcome
  pub sends : SendsAll time stepped new

-- A line was taken, whose report isn't written.
abbrev pub LeadsByLine : State → State → List ℕ → Type 0
LeadsByLine old new text =
    (seen : List SeenPrefix) → (later : List SeenPrefix) × (report : List ℕ) × IsLineReport text old seen new later report

-- These lines were taken, with no prefix seen at first.
pub record LeadsTo (number : ℕ) (old new : State) (texts : List (List ℕ)) : Type 0 where
  pub before_it : number ≡ length texts + 1
  pub seen : List SeenPrefix
  pub report : List ℕ
  pub reported : IsLogReport texts old [] new seen report
