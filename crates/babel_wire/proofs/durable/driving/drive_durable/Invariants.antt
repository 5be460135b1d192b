use Rattle.std.proofs.Common.{◌≡◌, ◌+◌, ◌*◌, ◌≤◌, Option}
use Rattle.babel_state.specs.Restarts.{Snapshot}
use Rattle.babel_speaker.specs.Versions.{CountsChanges}
use Rattle.babel_wire.specs.DurableRuns.{Fits, IsDurableRun}
use Rattle.babel_wire.proofs.durable.driving.drive_durable.Given as goal

abbrev pub invariant-loop : goal.invariant-loop
invariant-loop g l =
    ((last : Option Snapshot) → Fits last l.initial.driver.keeper l.initial.speaker →
    IsDurableRun l.counter last l.initial.driver.keeper l.initial.speaker (g.W.Wire.history l.initial.wire) l.driver.keeper l.speaker (g.W.Wire.history l.wire) l.report)
    × CountsChanges l.initial.speaker l.speaker
    × (g.W.Wire.fault_count l.wire ≡ g.W.Wire.fault_count l.initial.wire + l.report.report.faults)
    × (l.report.report.received ≤ l.counter)
    × (l.report.report.sent + l.report.lost ≤ 64 * l.counter)
    × (l.report.report.refused ≤ l.counter)
    × (l.report.report.faults ≤ 65 * l.counter)
    × (l.report.failed_keeps ≤ l.counter)
