-- No record so far has a fault.
use Rattle.std.proofs.Common.{◌≡◌, None}
use Rattle.babel_snapshot.specs.Reading.{records_fault}
use Rattle.babel_snapshot.proofs.reading.records_fault.Given as goal

abbrev pub invariant-loop-index : goal.invariant-loop-index
invariant-loop-index l = records_fault l.index l.octets ≡ None
