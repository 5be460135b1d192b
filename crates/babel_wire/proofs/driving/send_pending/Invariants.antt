use Rattle.std.proofs.Common.{◌≡◌, ◌+◌}
use Rattle.babel_wire.specs.Turns.{AreSentSoFar}
use Rattle.babel_wire.proofs.driving.send_pending.Given as goal

abbrev pub invariant-loop : goal.invariant-loop
invariant-loop g l =
    AreSentSoFar l.counter l.now l.initial.speaker.state (g.W.Wire.history l.initial.wire) l.speaker.state (g.W.Wire.history l.wire) l.report
    × (g.W.Wire.fault_count l.wire ≡ g.W.Wire.fault_count l.initial.wire + l.report.faults)
    × (l.report.sent + l.report.faults ≡ l.counter)
