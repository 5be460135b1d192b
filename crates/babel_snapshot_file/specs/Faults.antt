-- The faults of calls of the system (profile).
use Rattle.std.specs.declared.io.ErrorKind.{ErrorKind}
use Rattle.std.specs.declared.io.ErrorKind.TheVariants.{OutOfMemory}
use Rattle.babel_snapshot_file.specs.declared.errors.SnapshotFileFault.{SnapshotFileFault}
use Rattle.babel_snapshot_file.specs.declared.errors.SnapshotFileFault.TheVariants.{Unreadable, Unwritable, Memory}

-- Why a file isn't read: L8 if an allocation failed, else K8.
abbrev pub reading_fault : ErrorKind → SnapshotFileFault
reading_fault OutOfMemory = Memory
reading_fault kind = Unreadable

-- Why a file isn't written: L8 if an allocation failed, else K9.
abbrev pub writing_fault : ErrorKind → SnapshotFileFault
writing_fault OutOfMemory = Memory
writing_fault kind = Unwritable
