use Rattle.std.proofs.Common.{◌≡◌, ◌*◌, ◌≤◌}
use Rattle.babel_router.proofs.speaking.speak_with_routes.Given as goal

abbrev pub invariant-loop : goal.invariant-loop
invariant-loop g l =
    (l.wire.faults ≡ l.report.faults)
    × (l.report.received ≤ l.counter)
    × (l.report.sent ≤ 64 * l.counter)
    × (l.report.refused ≤ l.counter)
    × (l.report.faults ≤ 65 * l.counter)
