use Rattle.std.proofs.Common.{◌≡◌, ◌+◌, map, take}
use Rattle.babel_wire.specs.DurableRuns.{AreGiven}
use Rattle.babel_wire.specs.Taken.{taken_of}
use Rattle.babel_wire.proofs.durable.driving.send_all.Given as goal

abbrev pub invariant-loop-datagram : goal.invariant-loop-datagram
invariant-loop-datagram g l =
    AreGiven (map taken_of (take l.datagram-index l.datagram-items)) (g.W.Wire.history l.initial.wire) (g.W.Wire.history l.wire) l.report
    × (g.W.Wire.fault_count l.wire ≡ g.W.Wire.fault_count l.initial.wire + l.report.faults)
    × (l.report.sent + l.report.faults ≡ l.datagram-index)
