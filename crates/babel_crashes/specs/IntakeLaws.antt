-- Turns, intakes, requests, losses and groupings of a speaker at a node of a network (profile).
use Rattle.std.specs.Prelude.{List, Contains, ℕ, Option, Some}
use Rattle.babel_state.specs.declared.configs.Config.{Config}
use Rattle.babel_state.specs.Restarts.{Snapshot, snapshot_of, restored}
use Rattle.babel_state.specs.State.{State}
use Rattle.babel_snapshot.specs.Reading.{snapshot_in}
use Rattle.babel_wire.specs.Calls.{Call}
use Rattle.babel_wire.specs.Cuts.{File, IsCutOf, IsOnDisk, on_disk, sent_in}
use Rattle.babel_wire.specs.Intakes.{DurableStep, AreSteps, AreDurableSteps, calls_of_steps, receipts_in}
use Rattle.babel_net.specs.Invariants.{IsNetwork}
use Rattle.babel_net.specs.Networks.{NetworkState}
use Rattle.babel_crashes.specs.NodeSteps.{IsAt, AreReceiptsFrom, AreStepEvents, IsRestart}

-- Turns, intakes, requests, losses and groupings of a speaker at a node are events of the network: each datagram that it takes is sent, and each that came is
-- delivered. What came was sent by nodes of the network. Other nodes may have made any events since.
abbrev pub StepsAreEvents : Type 0
StepsAreEvents =
    (n : NetworkState) (node : ℕ) (config : Config) (old new : State) (steps : List DurableStep) →
    IsAt n node config old → AreSteps old steps new → AreReceiptsFrom n.sent (receipts_in steps) → AreStepEvents node config steps new n

-- As CrashesAreRestartEvents, with intakes, requests, losses and groupings between the turns.
abbrev pub CrashesWithIntakesAreRestartEvents : Type 0
CrashesWithIntakesAreRestartEvents =
    (n : NetworkState) (node now : ℕ) (config : Config) (old new : State) (last later : Option Snapshot) (steps : List DurableStep) (files : List File)
    (cut : List Call) (octets : List ℕ) →
    IsNetwork n → IsAt n node config old → IsOnDisk (Some (snapshot_of old)) files → IsOnDisk last files →
    AreDurableSteps last old steps later new → AreReceiptsFrom n.sent (receipts_in steps) → IsCutOf cut (calls_of_steps steps) →
    Contains (on_disk files cut) (Some octets) →
    IsRestart node config now (sent_in cut) (restored now config (snapshot_in octets)) n
