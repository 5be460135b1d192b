-- The least moment of all is that of the routes that are still to come and of the least one so far.
use Rattle.std.proofs.Common.{◌≡◌, map}
use Rattle.babel_speaker.specs.Deadlines.{earliest}
use Rattle.babel_speaker.proofs.ticks.deadlines.earliest_route.Given as goal

abbrev pub invariant-loop-route : goal.invariant-loop-route
invariant-loop-route l = earliest l.least (map (λ e. e.1.deadline) l.route-iterator) ≡ earliest l.fn.due (map (λ e. e.1.deadline) l.routes.entries)
