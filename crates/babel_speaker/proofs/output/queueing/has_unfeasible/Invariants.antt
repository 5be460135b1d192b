-- No route so far is unfeasible.
use Rattle.std.proofs.Common.{◌≡◌}
use Rattle.std.specs.List.{list_any}
use Rattle.babel_choice.specs.Choices.{routes_of}
use Rattle.babel_state.specs.Reselection.{is_unfeasible}
use Rattle.babel_speaker.proofs.output.queueing.has_unfeasible.Given as goal

abbrev pub invariant-loop-route : goal.invariant-loop-route
invariant-loop-route l =
    list_any (is_unfeasible l.sources) l.route-iterator ≡ list_any (is_unfeasible l.sources) (routes_of l.prefix l.routes.entries)
