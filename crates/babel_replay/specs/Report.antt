-- The reports of the lines of a log (profile).
use Rattle.std.specs.Prelude.{◌≡◌, ℕ, List, [], ◌∷◌, ◌++◌, zip, flat_map, length, Option, Some, None, Result, Ok, Err, if◌then◌else◌}
use Rattle.std.specs.Io.KnownBytes.{Appends}
use Rattle.babel_message.specs.declared.errors.Refusal.{Refusal}
use Rattle.babel_message.specs.declared.placements.Placed.{Placed}
use Rattle.babel_packet.specs.Meaning.{meaning}
use Rattle.babel_speaker.specs.Decodings.{DecodedValue}
use Rattle.babel_state.specs.declared.items.Target.{Target}
use Rattle.babel_state.specs.declared.notes.Note.{Note}
use Rattle.babel_state.specs.State.{State}
use Rattle.babel_speaker.specs.Sending.{draft_at}
use Rattle.babel_text.specs.declared.log_lines.Action.{Action}
use Rattle.babel_text.specs.declared.log_lines.Action.TheVariants as actions
use Rattle.babel_replay.specs.declared.stepping.Outcome.{Outcome}
use Rattle.babel_replay.specs.declared.stepping.Outcome.TheVariants as outcomes
use Rattle.babel_replay.specs.Stepping.{Steps}
use Rattle.babel_replay.specs.Seen.{SeenPrefix, choice_at, is_same_choice, seen_after, printed_all}
use Rattle.babel_replay.specs.Texts.{line, moment_text, tlv_line, refused_text, cost_refused_text, select_head, selection_line, table_text, out_text}

-- ---- what became of the line itself

abbrev pub places_or_none : Result (List Placed) Refusal → List Placed
places_or_none (Ok placed) = placed
places_or_none (Err refusal) = []

-- The places of a datagram that can be read.
abbrev pub places_in : Action → List Placed
places_in (actions.Receive iface source octets) = places_or_none (meaning octets.now source)
places_in action = []

-- The datagram can be read: it came from this address, and these are its places.
abbrev pub IsDecodedAs : Action → DecodedValue → Type 0
IsDecodedAs (actions.Receive iface source octets) decoded = (decoded.source ≡ source) × (meaning octets.now source ≡ Ok decoded.placed)
IsDecodedAs action decoded = ⊥

abbrev pub note_line : ℕ → Placed × Note → List ℕ
note_line time (placed, note) = moment_text time ++ tlv_line placed note.verdict

abbrev pub note_lines : ℕ → List Placed → List Note → List ℕ
note_lines time placed notes = flat_map (note_line time) (zip placed notes)

abbrev pub outcome_lines : ℕ → List Placed → Outcome → List ℕ
outcome_lines time placed outcomes.Silent = []
outcome_lines time placed (outcomes.Notes notes) = note_lines time placed notes.items
outcome_lines time placed (outcomes.Refused fault) = line (refused_text time fault)
outcome_lines time placed (outcomes.CostRefused fault) = line (cost_refused_text time fault)

-- The seen prefixes after it.
abbrev pub seen_by : List Placed → Outcome → List SeenPrefix → List SeenPrefix
seen_by placed (outcomes.Notes notes) es = seen_after (zip placed notes.items) es
seen_by placed outcome es = es

-- ---- the selected routes

-- The line of a prefix whose selected route isn't the one that was last printed. It begins with this head.
abbrev pub line_after : List ℕ → State → SeenPrefix → List ℕ
line_after head s (prefix, last) =
    if is_same_choice (choice_at s prefix) last then [] else head ++ selection_line prefix (choice_at s prefix)

abbrev pub select_line : ℕ → State → SeenPrefix → List ℕ
select_line time s e = line_after (select_head time) s e

abbrev pub select_lines : ℕ → State → List SeenPrefix → List ℕ
select_lines time s es = flat_map (select_line time s) es

-- ---- the datagrams

-- A datagram that was sent: where it goes, and how many messages it has.
pub record Sent : Type 0 where
  pub target : Target
  pub messages : ℕ

-- It is the speaker's next datagram.
pub record IsNext (now : ℕ) (s : State) (x : Sent) : Type 0 where
  pub target : Some x.target ≡ (draft_at now s).target
  pub messages : x.messages ≡ length (draft_at now s).messages

-- The next datagrams of the old state, one after another. They lead to the new state.
abbrev pub AreNext : ℕ → State → List Sent → State → Type 0
AreNext now old [] new = new ≡ old
AreNext now old (x ∷ xs) new = IsNext now old x × AreNext now (draft_at now old).state xs new

-- Until there is no other. Then only items without a message are left, and they leave the queue.
abbrev pub Ends : ℕ → State → State → Type 0
Ends now last new = ((draft_at now last).target ≡ None) × (new ≡ (draft_at now last).state)

pub record AreAll (now : ℕ) (old : State) (sent : List Sent) (new : State) : Type 0 where
  pub last : State
  pub each : AreNext now old sent last
  pub ends : Ends now last new

abbrev pub out_line : ℕ → Sent → List ℕ
out_line time x = line (out_text time x.target x.messages)

abbrev pub out_lines : ℕ → List Sent → List ℕ
out_lines time sent = flat_map (out_line time) sent

-- ---- the report of a line

-- What is written of a line: what became of it, then the selected routes that changed, then the datagrams until there is none.
pub record IsReport (time : ℕ) (action : Action) (old : State) (seen : List SeenPrefix) (new : State) (later : List SeenPrefix) (text : List ℕ) : Type 0 where
  pub outcome : Outcome
  pub stepped : State
  pub steps : Steps time action old stepped outcome
  pub sent : List Sent
  pub sends : AreAll time stepped sent new
  pub prefixes : later ≡ printed_all stepped (seen_by (places_in action) outcome seen)
  pub text_is : text ≡ outcome_lines time (places_in action) outcome ++ (select_lines time stepped (seen_by (places_in action) outcome seen) ++ out_lines time sent)

-- The known bytes of a writer grow by the report.
pub record Reports (time : ℕ) (action : Action) (old : State) (seen : List SeenPrefix) (new : State) (later : List SeenPrefix) (before after : Option (List ℕ)) : Type 0 where
  pub text : List ℕ
  pub report : IsReport time action old seen new later text
  pub written : Appends before after text

-- The datagrams that are taken and written.
pub record Sends (time : ℕ) (old new : State) (before after : Option (List ℕ)) : Type 0 where
  pub sent : List Sent
  pub sends : AreAll time old sent new
  pub written : Appends before after (out_lines time sent)

-- All datagrams were taken.
abbrev pub SendsAll : ℕ → State → State → Type 0
SendsAll now old new = (sent : List Sent) × AreAll now old sent new

-- What follows the step of a line, of which this is the outcome: its report is written, and the datagrams are sent.
pub record ReportsStep (time : ℕ) (placed : List Placed) (outcome : Outcome) (stepped : State) (seen : List SeenPrefix) (new : State) (later : List SeenPrefix) (before after : Option (List ℕ)) : Type 0 where
  pub sent : List Sent
  pub sends : AreAll time stepped sent new
  pub prefixes : later ≡ printed_all stepped (seen_by placed outcome seen)
  pub written : Appends before after (outcome_lines time placed outcome ++ (select_lines time stepped (seen_by placed outcome seen) ++ out_lines time sent))

-- ---- the end of a log

abbrev pub table_line : State → SeenPrefix → List ℕ
table_line s (prefix, last) = line (table_text prefix (choice_at s prefix))

abbrev pub table_lines : State → List SeenPrefix → List ℕ
table_lines s es = flat_map (table_line s) es
