-- The records before the place are written.
use Rattle.std.proofs.Common.{◌≡◌, ◌++◌, map, take}
use Rattle.std.specs.List.{All}
use Rattle.babel_state.specs.Restarts.{kept_source}
use Rattle.babel_snapshot.specs.Octets.{records_octets}
use Rattle.babel_snapshot.specs.SnapshotLaws.{IsRecord}
use Rattle.babel_snapshot.proofs.writing.write_records.Given as goal

abbrev pub invariant-loop-place : goal.invariant-loop-place
invariant-loop-place l = record {
  octets : l.out.items ≡ l.fn.out.items ++ records_octets (map kept_source (take l.place l.sources));
  records : All IsRecord (map kept_source (take l.place l.sources));
}
