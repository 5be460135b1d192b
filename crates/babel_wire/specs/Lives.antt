-- The life of a speaker over several processes, each killed at any moment and started from what is on disk (profile).
use Rattle.std.specs.Prelude.{◌≡◌, List, [], ◌∷◌, ◌++◌, take, Contains, ℕ, Option, Some, None}
use Rattle.babel_state.specs.declared.configs.Config.{Config}
use Rattle.babel_state.specs.Calls.{first_state}
use Rattle.babel_state.specs.Restarts.{Snapshot, snapshot_of, restored, restarted}
use Rattle.babel_state.specs.State.{State}
use Rattle.babel_snapshot.specs.Reading.{snapshot_in}
use Rattle.babel_wire.specs.Calls.{Receipt, Sending, Call}
use Rattle.babel_wire.specs.Turns.{AreTurns}
use Rattle.babel_wire.specs.Keeping.{DurableTurn, AreOctetsOf, turns_of, taken_in}
use Rattle.babel_wire.specs.Cuts.{File, IsCutOf, on_disk, sent_in}
use Rattle.babel_wire.specs.Intakes.{DurableStep, AreSteps, AreDurableSteps, calls_of_steps, receipts_in, taken_by}

-- ---- one process that makes turns alone

-- The octets are those of the speaker's snapshot after the first turns, and every datagram that was sent was taken in them.
pub record IsCovered (old : State) (turns : List DurableTurn) (cut : List Call) (octets : List ℕ) : Type 0 where
  pub count : ℕ
  pub state : State
  pub reached : AreTurns old (turns_of (take count turns)) state
  pub octets_of : AreOctetsOf (snapshot_of state) octets
  pub covers : (x : Sending) → Contains (sent_in cut) x → Contains (taken_in (turns_of (take count turns))) x

-- ---- stages of a life

-- Turns, intakes, requests, losses and groupings one after another, or a restart at a moment.
pub data Stage : Type 0 where
  Steps : List DurableStep → Stage
  Restart : ℕ → Stage

-- The stages lead from one state to the other. A restart saves the speaker and restores it at once.
abbrev pub Leads : Config → State → List Stage → State → Type 0
Leads config old [] new = new ≡ old
Leads config old (Steps steps ∷ stages) new = (mid : State) × AreSteps old steps mid × Leads config mid stages new
Leads config old (Restart now ∷ stages) new = Leads config (restarted now config old) stages new

-- What came in them.
abbrev pub received : List Stage → List Receipt
received [] = []
received (Steps steps ∷ stages) = receipts_in steps ++ received stages
received (Restart now ∷ stages) = received stages

-- All datagrams that were taken from the speaker in them.
abbrev pub taken : List Stage → List Sending
taken [] = []
taken (Steps steps ∷ stages) = taken_by steps ++ taken stages
taken (Restart now ∷ stages) = taken stages

-- ---- several processes

-- The speaker with which a process starts: restored from the file, or new if there is none.
abbrev pub started : ℕ → Config → File → State
started now config None = first_state config
started now config (Some octets) = restored now config (snapshot_in octets)

-- A process: the moment at which it starts and the file from which it does, its steps, and the calls until it is killed.
pub record Process : Type 0 where
  pub now : ℕ
  pub file : File
  pub steps : List DurableStep
  pub cut : List Call

-- It starts from what may be on disk then. No snapshot was kept before its first step.
pub record IsProcess (config : Config) (files : List File) (p : Process) : Type 0 where
  pub is_there : Contains files p.file
  pub last : Option Snapshot
  pub state : State
  pub steps : AreDurableSteps None (started p.now config p.file) p.steps last state
  pub is_cut : IsCutOf p.cut (calls_of_steps p.steps)

-- Each process starts from what may be on disk when the one before it was killed.
abbrev pub AreProcesses : Config → List File → List Process → Type 0
AreProcesses config files [] = Unit {0}
AreProcesses config files (p ∷ ps) = IsProcess config files p × AreProcesses config (on_disk files p.cut) ps

-- What came in the steps that they made or began.
abbrev pub come_to : List Process → List Receipt
come_to [] = []
come_to (p ∷ ps) = receipts_in p.steps ++ come_to ps

abbrev pub sent_by : List Process → List Sending
sent_by [] = []
sent_by (p ∷ ps) = sent_in p.cut ++ sent_by ps

-- What may be on disk after the last of them.
abbrev pub disk_after : List File → List Process → List File
disk_after files [] = files
disk_after files (p ∷ ps) = disk_after (on_disk files p.cut) ps

-- The file is what a process would keep in this state, or there is none and the speaker is new.
abbrev pub IsFileOf : Config → State → File → Type 0
IsFileOf config s None = s ≡ first_state config
IsFileOf config s (Some octets) = AreOctetsOf (snapshot_of s) octets

-- Stages lead from the first state to the one that is in the file. What came in them is some of what came to the processes, and every datagram that
-- was sent was taken in them.
pub record IsReached (config : Config) (first : State) (come : List Receipt) (sent : List Sending) (file : File) : Type 0 where
  pub stages : List Stage
  pub state : State
  pub leads : Leads config first stages state
  pub file_of : IsFileOf config state file
  pub came : (r : Receipt) → Contains (received stages) r → Contains come r
  pub covers : (x : Sending) → Contains sent x → Contains (taken stages) x

-- So it is for each file that may be on disk.
abbrev pub AreReached : Config → State → List Receipt → List Sending → List File → Type 0
AreReached config first come sent files = (file : File) → Contains files file → IsReached config first come sent file
