-- What is proved of networks whose nodes are killed (profile).
use Rattle.std.specs.Prelude.{List, Contains, ℕ, Option, Some}
use Rattle.babel_state.specs.declared.configs.Config.{Config}
use Rattle.babel_state.specs.Restarts.{Snapshot, snapshot_of, restored}
use Rattle.babel_state.specs.State.{State}
use Rattle.babel_snapshot.specs.Reading.{snapshot_in}
use Rattle.babel_wire.specs.Calls.{Receipt, Sending, Call}
use Rattle.babel_wire.specs.Keeping.{DurableTurn, AreDurableTurns, calls_of, turns_of}
use Rattle.babel_wire.specs.Cuts.{File, IsCutOf, IsOnDisk, on_disk, sent_in}
use Rattle.babel_wire.specs.Lives.{Stage, Leads, IsReached, received}
use Rattle.babel_net.specs.Invariants.{IsNetwork}
use Rattle.babel_net.specs.Networks.{NetworkState}
use Rattle.babel_crashes.specs.NodeSteps.{IsAt, AreFrom, AreReceiptsFrom, AreEvents, IsRestart}

-- The stages of a speaker's life at a node, steps and restarts, are events of the network.
abbrev pub LivesAreEvents : Type 0
LivesAreEvents =
    (n : NetworkState) (node : ℕ) (config : Config) (old new : State) (stages : List Stage) →
    IsAt n node config old → Leads config old stages new → AreReceiptsFrom n.sent (received stages) → AreEvents node config stages new n

-- In every network, in which no node collects sources, a node is killed anywhere in its turns and started from what may be on disk, with the same
-- configuration. At first the snapshot of its speaker was on disk. That is the event Restart after some whole turns, in which every datagram that was sent
-- was recorded. The datagrams that were taken and not sent are lost.
abbrev pub CrashesAreRestartEvents : Type 0
CrashesAreRestartEvents =
    (n : NetworkState) (node now : ℕ) (config : Config) (old new : State) (last later : Option Snapshot) (turns : List DurableTurn) (files : List File)
    (cut : List Call) (octets : List ℕ) →
    IsNetwork n → IsAt n node config old → IsOnDisk (Some (snapshot_of old)) files → IsOnDisk last files →
    AreDurableTurns last old turns later new → AreFrom n.sent (turns_of turns) → IsCutOf cut (calls_of turns) → Contains (on_disk files cut) (Some octets) →
    IsRestart node config now (sent_in cut) (restored now config (snapshot_in octets)) n

-- So it is however often the node was killed earlier, also with intakes, requests, losses and groupings between the turns: its process starts from a file that
-- steps and restarts reach, as `processes_are_covered` has it.
abbrev pub LivesAreRestartEvents : Type 0
LivesAreRestartEvents =
    (n : NetworkState) (node now : ℕ) (config : Config) (first : State) (come : List Receipt) (sent : List Sending) (octets : List ℕ) →
    IsNetwork n → IsAt n node config first → IsReached config first come sent (Some octets) → AreReceiptsFrom n.sent come →
    IsRestart node config now sent (restored now config (snapshot_in octets)) n
