use Rattle.std.proofs.Common.{◌≡◌, ◌+◌, ◌*◌, ◌≤◌}
use Rattle.babel_wire.specs.Turns.{IsRun}
use Rattle.babel_wire.proofs.driving.drive.Given as goal

abbrev pub invariant-loop : goal.invariant-loop
invariant-loop g l =
    IsRun l.counter l.initial.speaker.state (g.W.Wire.history l.initial.wire) l.speaker.state (g.W.Wire.history l.wire) l.report
    × (g.W.Wire.fault_count l.wire ≡ g.W.Wire.fault_count l.initial.wire + l.report.faults)
    × (l.report.received ≤ l.counter)
    × (l.report.sent ≤ 64 * l.counter)
    × (l.report.refused ≤ l.counter)
    × (l.report.faults ≤ 65 * l.counter)
