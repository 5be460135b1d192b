-- No route so far is finite.
use Rattle.std.proofs.Common.{◌≡◌}
use Rattle.std.specs.List.{list_any}
use Rattle.babel_choice.specs.Choices.{routes_of}
use Rattle.babel_speaker.specs.Losses.{is_finite_route}
use Rattle.babel_speaker.proofs.output.queueing.has_finite.Given as goal

abbrev pub invariant-loop-route : goal.invariant-loop-route
invariant-loop-route l =
    list_any is_finite_route l.route-iterator ≡ list_any is_finite_route (routes_of l.prefix l.routes.entries)
