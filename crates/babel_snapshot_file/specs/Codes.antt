-- The codes of the faults of snapshots, as a command prints them (profile).
use Rattle.std.specs.Prelude.{ℕ, List, ◌++◌, codes}
use Rattle.std.specs.Fmt.{decimal}
use Rattle.babel_state.specs.declared.errors.RestoreFault.{RestoreFault}
use Rattle.babel_state.specs.declared.errors.RestoreFault.TheVariants as restore_faults
use Rattle.babel_state.specs.Codes.{restore_code}
use Rattle.babel_snapshot_file.specs.declared.errors.SnapshotFileFault.{SnapshotFileFault}
use Rattle.babel_snapshot_file.specs.declared.errors.SnapshotFileFault.TheVariants.{Unreadable, Unwritable, Existing, InUse, Memory}

abbrev pub snapshot_file_code : SnapshotFileFault → List ℕ
snapshot_file_code Unreadable = codes "K8"
snapshot_file_code Unwritable = codes "K9"
snapshot_file_code Existing = codes "K9"
snapshot_file_code InUse = codes "K10"
snapshot_file_code Memory = codes "L8"

-- The number of the record is after K6 and K7.
abbrev pub restore_text : RestoreFault → List ℕ
restore_text (restore_faults.Record index) = codes "K6 " ++ decimal index
restore_text (restore_faults.Order index) = codes "K7 " ++ decimal index
restore_text fault = restore_code fault
