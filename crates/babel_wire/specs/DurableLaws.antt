-- What is proved of durable turns (profile).
use Rattle.std.specs.Prelude.{◌≡◌, ◌⊎◌, ◌↔◌, List, [], ◌∷◌, ◌++◌, Contains, ℕ, Option, Some, None}
use Rattle.babel_state.specs.declared.configs.Config.{Config}
use Rattle.babel_state.specs.Calls.{first_state}
use Rattle.babel_state.specs.Restarts.{Snapshot, snapshot_of, restored, restarted}
use Rattle.babel_state.specs.State.{State}
use Rattle.babel_snapshot.specs.Reading.{snapshot_in}
use Rattle.babel_wire.specs.Calls.{Receipt, Sending, Call}
use Rattle.babel_wire.specs.Keeping.{DurableTurn, AreDurableTurns, calls_of}
use Rattle.babel_wire.specs.Cuts.{File, IsCutOf, IsOnDisk, IsLastTried, on_disk, sent_in}
use Rattle.babel_wire.specs.Lives.{IsCovered, Process, AreProcesses, AreReached, come_to, disk_after, sent_by}

-- Turns, and then more of them.
abbrev pub DurableTurnsGoOn : Type 0
DurableTurnsGoOn =
    (last mid later : Option Snapshot) (old state new : State) (first rest : List DurableTurn) →
    AreDurableTurns last old first mid state → AreDurableTurns mid state rest later new →
    AreDurableTurns last old (first ++ rest) later new × (calls_of (first ++ rest) ≡ calls_of first ++ calls_of rest)

-- Wherever the process is killed, what is on disk is the snapshot of the speaker after some whole turns, and every datagram that was sent was taken
-- in them. Or it is what was there before, and nothing was sent.
abbrev pub WhatIsKeptCoversWhatWasSent : Type 0
WhatIsKeptCoversWhatWasSent =
    (last later : Option Snapshot) (old new : State) (turns : List DurableTurn) (files : List File) (cut : List Call) (file : File) →
    AreDurableTurns last old turns later new → IsOnDisk last files → IsCutOf cut (calls_of turns) → Contains (on_disk files cut) file →
    (Contains files file × (sent_in cut ≡ []))
    ⊎ ((octets : List ℕ) × (file ≡ Some octets) × IsCovered old turns cut octets)

-- A speaker that is restored from what covers these turns is the speaker after them, saved and restored at once.
abbrev pub CrashesAreRestarts : Type 0
CrashesAreRestarts =
    (now : ℕ) (config : Config) (old : State) (turns : List DurableTurn) (cut : List Call) (octets : List ℕ) (covered : IsCovered old turns cut octets) →
    restored now config (snapshot_in octets) ≡ restarted now config covered.state

-- What is restored of a snapshot has this snapshot, if its router-id is the configured one. So after a restart the file is that of the speaker again.
abbrev pub RestoredHaveTheSnapshot : Type 0
RestoredHaveTheSnapshot =
    (now : ℕ) (config : Config) (snapshot : Snapshot) → snapshot.router ≡ config.router_id → snapshot_of (restored now config snapshot) ≡ snapshot

-- What may be on disk is what the last keep that succeeded was given, or what was tried later. If none succeeded, it may be what was there before.
abbrev pub FilesAreLastTried : Type 0
FilesAreLastTried = (files : List File) (calls : List Call) (file : File) → Contains (on_disk files calls) file ↔ IsLastTried files calls file

-- However often the process is killed and started again from what is on disk: every file that may be there then is reached by steps and restarts from
-- a new speaker, and every datagram that any of the processes sent was taken in them. At first there is no file.
abbrev pub ProcessesAreCovered : Type 0
ProcessesAreCovered =
    (config : Config) (processes : List Process) → AreProcesses config (None ∷ []) processes →
    AreReached config (first_state config) (come_to processes) (sent_by processes) (disk_after (None ∷ []) processes)

-- So it goes on from any files that are reached.
abbrev pub ProcessesStayCovered : Type 0
ProcessesStayCovered =
    (config : Config) (first : State) (come : List Receipt) (sent : List Sending) (files : List File) (processes : List Process) →
    AreReached config first come sent files → AreProcesses config files processes →
    AreReached config first (come ++ come_to processes) (sent ++ sent_by processes) (disk_after files processes)
