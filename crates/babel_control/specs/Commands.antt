-- The commands of the control socket (profile).
use Rattle.std.specs.Prelude.{◌≡◌, ℕ, List, [], ◌∷◌, Bool, true, false, Option, None, MatchOption, IsUtf8, codes}
use Rattle.babel_text.specs.Prefixes.{IsPrefixText}
use Rattle.babel_control.specs.Words.{words_of, have_no_command}
use Rattle.babel_control.specs.declared.clients.Monitoring.{Monitoring}
use Rattle.babel_control.specs.declared.clients.Monitoring.TheVariants.{Yes, No}
use Rattle.babel_control.specs.declared.commands.Logging.{Logging}
use Rattle.babel_control.specs.declared.commands.Logging.TheVariants.{On, Off}
use Rattle.babel_control.specs.declared.commands.Command.{Command}
use Rattle.babel_control.specs.declared.views.LogSource.{LogSource}
use Rattle.babel_control.specs.declared.views.LogSource.TheVariants as sources
use Rattle.babel_control.specs.declared.commands.Command.TheVariants.{Nothing, Dump, Monitor, Unmonitor, Quit, Why, Log, Expiries, Counts, Keep, Stop}

-- The commands of one word that babeld has too.
abbrev pub is_of_babeld : Command → Bool
is_of_babeld Dump = true
is_of_babeld Monitor = true
is_of_babeld Unmonitor = true
is_of_babeld Quit = true
is_of_babeld Nothing = false
is_of_babeld (Why prefix) = false
is_of_babeld (Log logging) = false
is_of_babeld Expiries = false
is_of_babeld Counts = false
is_of_babeld Keep = false
is_of_babeld Stop = false

-- Whether a client is sent each change after a command: only `monitor` and `unmonitor` change that.
abbrev pub monitoring_by : Command → Monitoring → Monitoring
monitoring_by Monitor before = Yes
monitoring_by Unmonitor before = No
monitoring_by Dump before = before
monitoring_by Quit before = before
monitoring_by Nothing before = before
monitoring_by (Why prefix) before = before
monitoring_by (Log logging) before = before
monitoring_by Expiries before = before
monitoring_by Counts before = before
monitoring_by Keep before = before
monitoring_by Stop before = before

-- Whether a client is sent the log after a command: only `log on` and `log off` change that.
abbrev pub logging_by : Command → Logging → Logging
logging_by (Log logging) before = logging
logging_by Monitor before = before
logging_by Unmonitor before = before
logging_by Dump before = before
logging_by Quit before = before
logging_by Nothing before = before
logging_by (Why prefix) before = before
logging_by Expiries before = before
logging_by Counts before = before
logging_by Keep before = before
logging_by Stop before = before

-- Whether the reply to a command shows the tables of the speaker.
abbrev pub shows_tables_by : Command → Bool
shows_tables_by Dump = true
shows_tables_by Monitor = true
shows_tables_by Counts = true
shows_tables_by Unmonitor = false
shows_tables_by Quit = false
shows_tables_by Nothing = false
shows_tables_by (Why prefix) = false
shows_tables_by (Log logging) = false
shows_tables_by Expiries = false
shows_tables_by Keep = false
shows_tables_by Stop = false

-- ---- lines

-- The words that spell a command. A line that has none, or is a comment, asks for nothing.
abbrev pub Spell : List (List ℕ) → Command → Type 0
Spell words Nothing = have_no_command words ≡ true
Spell words Dump = words ≡ codes "dump" ∷ []
Spell words Monitor = words ≡ codes "monitor" ∷ []
Spell words Unmonitor = words ≡ codes "unmonitor" ∷ []
Spell words Quit = words ≡ codes "quit" ∷ []
Spell words Expiries = words ≡ codes "expiries" ∷ []
Spell words Counts = words ≡ codes "counts" ∷ []
Spell words Keep = words ≡ codes "keep" ∷ []
Spell words Stop = words ≡ codes "stop" ∷ []
Spell words (Log On) = words ≡ codes "log" ∷ codes "on" ∷ []
Spell words (Log Off) = words ≡ codes "log" ∷ codes "off" ∷ []
Spell words (Why prefix) = (text : List ℕ) × (words ≡ codes "why" ∷ text ∷ []) × IsPrefixText text prefix

-- The command that the words spell; none only if they spell none.
abbrev pub IsReading : List (List ℕ) → Option Command → Type 0
IsReading words read = MatchOption read ((command : Command) → ¬ (Spell words command)) (Spell words)

-- The command of a line. One that isn't UTF-8 has none.
abbrev pub IsLineReading : List ℕ → Option Command → Type 0
IsLineReading line read = (IsUtf8 line → IsReading (words_of line) read) × (¬ (IsUtf8 line) → read ≡ None)

-- Whether a client is sent the log after a command, if there may be none to send.
abbrev pub logging_with : LogSource → Command → Logging → Logging
logging_with sources.Speaker command before = logging_by command before
logging_with sources.Nothing command before = before
