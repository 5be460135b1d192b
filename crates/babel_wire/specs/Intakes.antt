-- Datagrams that are taken in between turns, and requests that are made, links that are lost and items that are grouped there, while nothing is sent (profile). RFC 8966, section 3.1, lets a speaker buffer what it sends for a short time.
use Rattle.std.specs.Prelude.{◌≡◌, ◌⊎◌, ℕ, Bool, List, [], ◌∷◌, ◌++◌, map, take, Contains, Option, Some}
use Rattle.babel_state.specs.declared.configs.Config.{Config}
use Rattle.babel_state.specs.Grouping.{items_grouped}
use Rattle.babel_state.specs.LostLinks.{links_lost}
use Rattle.babel_state.specs.Requesting.{seqnos_requested}
use Rattle.babel_state.specs.Restarts.{Snapshot, snapshot_of, restored, restarted}
use Rattle.babel_state.specs.State.{State}
use Rattle.babel_state.specs.Ticks.{ticked}
use Rattle.babel_snapshot.specs.Reading.{snapshot_in}
use Rattle.babel_wire.specs.declared.report.Report.{Report}
use Rattle.babel_wire.specs.Calls.{Receipt, Sending, Call, Recv, Now, Grows}
use Rattle.babel_wire.specs.Turns.{IsTurn, Receives, received_by, failed_by, refused_by}
use Rattle.babel_wire.specs.Keeping.{DurableTurn, AreOctetsOf, IsDurableTurn, AreDurableTurns, calls_of_turn, last_kept}
use Rattle.babel_wire.specs.Cuts.{File, IsCutOf, IsOnDisk, on_disk, sent_in}

-- ---- one intake

-- What the wire returned, and whether the speaker refused the datagram that came.
pub record Intake : Type 0 where
  pub receipt : Receipt
  pub is_refused : Bool
  pub now : ℕ

-- The wire is asked for a datagram, and then for the moment. The store isn't called, since nothing is sent.
abbrev pub calls_of_intake : Intake → List Call
calls_of_intake i = Recv i.receipt ∷ Now i.now ∷ []

-- What came is received, then the speaker ticks. What is pending stays pending.
pub record IsIntake (old : State) (i : Intake) (new : State) : Type 0 where
  pub received : State
  pub receives : Receives i.now i.receipt i.is_refused old received
  pub ticks : new ≡ ticked i.now received

abbrev pub counts_of_intake : Intake → Report
counts_of_intake i = record { received = received_by i.receipt; sent = 0; refused = refused_by i.is_refused; faults = failed_by i.receipt }

-- An intake, with its calls and its counts.
pub record IsOneIntake (old : State) (history : Option (List Call)) (new : State) (later : Option (List Call)) (report : Report) : Type 0 where
  pub intake : Intake
  pub speaker : IsIntake old intake new
  pub calls : Grows history (calls_of_intake intake) later
  pub counts : report ≡ counts_of_intake intake

-- ---- one request

-- The wire is asked for the moment, and requests for a greater seqno are queued (RFC 8966, section 3.8.2.2). They stay pending.
pub record IsOneRequest (old : State) (history : Option (List Call)) (new : State) (later : Option (List Call)) : Type 0 where
  pub now : ℕ
  pub speaker : new ≡ seqnos_requested now old
  pub calls : Grows history (Now now ∷ []) later

-- ---- an interface that is down

-- The wire is asked for the moment, and the links of the interface are lost (RFC 8966, section 3.4.3). What follows from that stays pending.
pub record IsOneLoss (iface : ℕ) (old : State) (history : Option (List Call)) (new : State) (later : Option (List Call)) : Type 0 where
  pub now : ℕ
  pub speaker : new ≡ links_lost now iface old
  pub calls : Grows history (Now now ∷ []) later

-- ---- turns, and intakes, requests, losses and groupings between them

pub data DurableStep : Type 0 where
  Turning : DurableTurn → DurableStep
  TakingIn : Intake → DurableStep
  Requesting : ℕ → DurableStep
  Losing : ℕ → ℕ → DurableStep
  Grouping : DurableStep

abbrev pub calls_of_steps : List DurableStep → List Call
calls_of_steps [] = []
calls_of_steps (Turning t ∷ steps) = calls_of_turn t ++ calls_of_steps steps
calls_of_steps (TakingIn i ∷ steps) = calls_of_intake i ++ calls_of_steps steps
calls_of_steps (Requesting now ∷ steps) = Now now ∷ calls_of_steps steps
calls_of_steps (Losing now iface ∷ steps) = Now now ∷ calls_of_steps steps
calls_of_steps (Grouping ∷ steps) = calls_of_steps steps

-- Steps one after another, with the snapshot that was kept last before and after them. An intake keeps none, and neither do the others.
abbrev pub AreDurableSteps : Option Snapshot → State → List DurableStep → Option Snapshot → State → Type 0
AreDurableSteps last old [] later new = (later ≡ last) × (new ≡ old)
AreDurableSteps last old (Turning t ∷ steps) later new =
    (mid : State) × IsDurableTurn last old t mid × AreDurableSteps (last_kept last (snapshot_of mid) t.keeping) mid steps later new
AreDurableSteps last old (TakingIn i ∷ steps) later new = (mid : State) × IsIntake old i mid × AreDurableSteps last mid steps later new
AreDurableSteps last old (Requesting now ∷ steps) later new = AreDurableSteps last (seqnos_requested now old) steps later new
AreDurableSteps last old (Losing now iface ∷ steps) later new = AreDurableSteps last (links_lost now iface old) steps later new
AreDurableSteps last old (Grouping ∷ steps) later new = AreDurableSteps last (items_grouped old) steps later new

-- The same without what became of the snapshots.
abbrev pub AreSteps : State → List DurableStep → State → Type 0
AreSteps old [] new = new ≡ old
AreSteps old (Turning t ∷ steps) new = (mid : State) × IsTurn old t.turn mid × AreSteps mid steps new
AreSteps old (TakingIn i ∷ steps) new = (mid : State) × IsIntake old i mid × AreSteps mid steps new
AreSteps old (Requesting now ∷ steps) new = AreSteps (seqnos_requested now old) steps new
AreSteps old (Losing now iface ∷ steps) new = AreSteps (links_lost now iface old) steps new
AreSteps old (Grouping ∷ steps) new = AreSteps (items_grouped old) steps new

-- What came in these steps.
abbrev pub receipts_in : List DurableStep → List Receipt
receipts_in [] = []
receipts_in (Turning t ∷ steps) = t.turn.receipt ∷ receipts_in steps
receipts_in (TakingIn i ∷ steps) = i.receipt ∷ receipts_in steps
receipts_in (Requesting now ∷ steps) = receipts_in steps
receipts_in (Losing now iface ∷ steps) = receipts_in steps
receipts_in (Grouping ∷ steps) = receipts_in steps

-- All datagrams that were taken from the speaker in these steps.
abbrev pub taken_by : List DurableStep → List Sending
taken_by [] = []
taken_by (Turning t ∷ steps) = t.turn.sendings ++ taken_by steps
taken_by (TakingIn i ∷ steps) = taken_by steps
taken_by (Requesting now ∷ steps) = taken_by steps
taken_by (Losing now iface ∷ steps) = taken_by steps
taken_by (Grouping ∷ steps) = taken_by steps

-- ---- their laws

-- The octets are those of the speaker's snapshot after the first steps, and every datagram that was sent was taken in them.
pub record IsCoveredBySteps (old : State) (steps : List DurableStep) (cut : List Call) (octets : List ℕ) : Type 0 where
  pub count : ℕ
  pub state : State
  pub reached : AreSteps old (take count steps) state
  pub octets_of : AreOctetsOf (snapshot_of state) octets
  pub covers : (x : Sending) → Contains (sent_in cut) x → Contains (taken_by (take count steps)) x

-- Turns alone are such steps, and steps go on.
abbrev pub TurnsAreSteps : Type 0
TurnsAreSteps =
    (last later : Option Snapshot) (old new : State) (turns : List DurableTurn) → AreDurableTurns last old turns later new →
    AreDurableSteps last old (map Turning turns) later new

abbrev pub StepsGoOn : Type 0
StepsGoOn =
    (last mid later : Option Snapshot) (old state new : State) (first rest : List DurableStep) →
    AreDurableSteps last old first mid state → AreDurableSteps mid state rest later new →
    AreDurableSteps last old (first ++ rest) later new × (calls_of_steps (first ++ rest) ≡ calls_of_steps first ++ calls_of_steps rest)

-- What is kept covers what was sent also if datagrams are taken in, requests made, links lost and items grouped between turns.
abbrev pub WhatIsKeptCoversWithIntakes : Type 0
WhatIsKeptCoversWithIntakes =
    (last later : Option Snapshot) (old new : State) (steps : List DurableStep) (files : List File) (cut : List Call) (file : File) →
    AreDurableSteps last old steps later new → IsOnDisk last files → IsCutOf cut (calls_of_steps steps) → Contains (on_disk files cut) file →
    (Contains files file × (sent_in cut ≡ []))
    ⊎ ((octets : List ℕ) × (file ≡ Some octets) × IsCoveredBySteps old steps cut octets)

-- A speaker that is restored from what covers these steps is the speaker after them, saved and restored at once.
abbrev pub CrashesWithIntakesAreRestarts : Type 0
CrashesWithIntakesAreRestarts =
    (now : ℕ) (config : Config) (old : State) (steps : List DurableStep) (cut : List Call) (octets : List ℕ) (covered : IsCoveredBySteps old steps cut octets) →
    restored now config (snapshot_in octets) ≡ restarted now config covered.state
