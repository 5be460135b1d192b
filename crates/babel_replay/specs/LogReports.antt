-- The reports of whole logs (profile).
use Rattle.std.specs.Prelude.{◌≡◌, ◌≢◌, ◌≤◌, ◌⊎◌, ◌+◌, ◌/◌, ℕ, Bool, true, false, List, [], ◌∷◌, ◌++◌, length, Option, Some, None, IsNone, ⊤}
use Rattle.std.specs.Io.KnownBytes.{Appends, Keeps}
use Rattle.babel_value.specs.Prefixes.{PrefixValue}
use Rattle.babel_state.specs.declared.errors.ConfigFault.{ConfigFault}
use Rattle.babel_state.specs.State.{State}
use Rattle.babel_speaker.specs.Making.{IsMakingFault}
use Rattle.babel_text.specs.Lines.{max_line_len}
use Rattle.babel_text.specs.declared.errors.LineFault.{LineFault}
use Rattle.babel_text.specs.declared.errors.LineFault.TheVariants.{TooLong, Read, Write, Memory}
use Rattle.babel_replay.specs.declared.errors.ReplayFault.{ReplayFault}
use Rattle.babel_replay.specs.declared.errors.ReplayFault.TheVariants as faults
use Rattle.babel_text.specs.declared.log_lines.Action.{Action}
use Rattle.babel_replay.specs.Reading.{lines_of, IsTooLong}
use Rattle.babel_text.specs.LogLines.{is_skipped_line, IsLine, IsLineFault}
use Rattle.babel_replay.specs.Report.{IsReport, table_lines}
use Rattle.babel_replay.specs.Routes.{route_lines}
use Rattle.babel_replay.specs.Seen.{SeenPrefix}

-- ---- line after line

-- The octets of the longest line have room.
abbrev pub room : ℕ
room = max_line_len / 2

-- A line that is skipped changes nothing. Any other has an event, with its report.
pub record IsEventReport (text : List ℕ) (old : State) (seen : List SeenPrefix) (new : State) (later : List SeenPrefix) (report : List ℕ) : Type 0 where
  pub time : ℕ
  pub action : Action
  pub event : IsLine room text time action
  pub reported : IsReport time action old seen new later report

abbrev pub IsReportBy : Bool → List ℕ → State → List SeenPrefix → State → List SeenPrefix → List ℕ → Type 0
IsReportBy true text old seen new later report = (new ≡ old) × (later ≡ seen) × (report ≡ [])
IsReportBy false text old seen new later report = IsEventReport text old seen new later report

-- The line is at most the longest: a longer one is L5, also one that would be skipped.
pub record IsLineReport (text : List ℕ) (old : State) (seen : List SeenPrefix) (new : State) (later : List SeenPrefix) (report : List ℕ) : Type 0 where
  pub within : length text ≤ max_line_len
  pub reported : IsReportBy (is_skipped_line text) text old seen new later report

-- The first line's report, and then those of the others.
pub record IsFirstReport (text : List ℕ) (old : State) (seen : List SeenPrefix) (mid : State) (between : List SeenPrefix) (report first rest : List ℕ) : Type 0 where
  pub line : IsLineReport text old seen mid between first
  pub together : report ≡ first ++ rest

abbrev pub IsLogReport : List (List ℕ) → State → List SeenPrefix → State → List SeenPrefix → List ℕ → Type 0
IsLogReport [] old seen new later report = (new ≡ old) × (later ≡ seen) × (report ≡ [])
IsLogReport (text ∷ texts) old seen new later report =
    (mid : State) × (between : List SeenPrefix) × (first : List ℕ) × (rest : List ℕ) ×
    IsFirstReport text old seen mid between report first rest × IsLogReport texts mid between new later rest

-- ---- which lines

-- The log, if its octets are known, has these lines; it begins with them.
abbrev pub HasLines : Option (List ℕ) → List (List ℕ) → Type 0
HasLines None texts = ⊤
HasLines (Some octets) texts = lines_of octets ≡ texts

abbrev pub BeginsWith : Option (List ℕ) → List (List ℕ) → Type 0
BeginsWith None texts = ⊤
BeginsWith (Some octets) texts = (rest : List (List ℕ)) × (lines_of octets ≡ texts ++ rest)

-- The line after these is at most the longest, and can't be taken.
pub record IsRefusedAfter (log : Option (List ℕ)) (texts : List (List ℕ)) (fault : LineFault) : Type 0 where
  pub text : List ℕ
  pub next : BeginsWith log (texts ++ text ∷ [])
  pub within : length text ≤ max_line_len
  pub event : is_skipped_line text ≡ false
  pub refused : IsLineFault room text fault

abbrev pub IsTooLongAfter : Option (List ℕ) → List (List ℕ) → Type 0
IsTooLongAfter None texts = ⊤
IsTooLongAfter (Some octets) texts = (text : List ℕ) × (rest : List (List ℕ)) × (lines_of octets ≡ texts ++ text ∷ rest) × IsTooLong text

-- Why no line is taken after these: the next one means nothing, or is too long; or reading, writing or an allocation failed.
abbrev pub IsCause : Option (List ℕ) → List (List ℕ) → LineFault → Type 0
IsCause log texts fault =
    IsRefusedAfter log texts fault
    ⊎ (((fault ≡ TooLong) × IsTooLongAfter log texts)
    ⊎ (((fault ≡ Read) ⊎ ((fault ≡ Write) ⊎ (fault ≡ Memory))) × BeginsWith log texts))

-- P holds of the lines of the log.
pub record OfAllLines (log : Option (List ℕ)) (P : List (List ℕ) → Type 0) : Type 0 where
  pub texts : List (List ℕ)
  pub whole : HasLines log texts
  pub holds : P texts

-- P holds of the lines before the one of the number, at which there is this fault. After L7 nothing is stated.
pub record OfLinesBefore (log : Option (List ℕ)) (number : ℕ) (fault : LineFault) (P : List (List ℕ) → Type 0) : Type 0 where
  pub texts : List (List ℕ)
  pub before : number ≡ length texts + 1
  pub cause : IsCause log texts fault
  pub holds : fault ≢ Write → P texts

-- ---- what is written of them

-- Of the state, the seen prefixes and the reports of the lines.
abbrev pub Ending : Type 0
Ending = State → List SeenPrefix → List ℕ → List ℕ

-- The reports, and then the selected route of each seen prefix.
abbrev pub whole_report : Ending
whole_report s seen report = report ++ table_lines s seen

-- The routes of a prefix.
abbrev pub routes_after : PrefixValue → Ending
routes_after prefix s seen report = route_lines prefix s

-- The speaker takes the lines from this state on, with no prefix seen, and the known bytes of the writer grow by the ending.
pub record Writes (ending : Ending) (first : State) (before after : Option (List ℕ)) (texts : List (List ℕ)) : Type 0 where
  pub last : State
  pub seen : List SeenPrefix
  pub report : List ℕ
  pub reported : IsLogReport texts first [] last seen report
  pub written : Appends before after (ending last seen report)

-- Why a log isn't replayed to its end: no speaker is made of the configuration, and nothing is read or written; or a line's fault.
abbrev pub IsReplayFault : Ending → State → Option ConfigFault → Option (List ℕ) → Option (List ℕ) → Option (List ℕ) → Option (List ℕ) → ReplayFault → Type 0
IsReplayFault ending first cause log left before after (faults.Config fault) = IsMakingFault cause fault × Keeps log left × Keeps before after
IsReplayFault ending first cause log left before after (faults.Line number fault) = IsNone cause × OfLinesBefore log number fault (Writes ending first before after)

-- The same once a speaker is made: it can only be a line's fault.
abbrev pub IsStopped : Ending → State → Option (List ℕ) → Option (List ℕ) → Option (List ℕ) → ReplayFault → Type 0
IsStopped ending first log before after (faults.Config fault) = ⊥
IsStopped ending first log before after (faults.Line number fault) = OfLinesBefore log number fault (Writes ending first before after)
