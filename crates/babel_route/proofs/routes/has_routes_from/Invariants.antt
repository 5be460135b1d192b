-- No route so far is of the neighbour.
use Rattle.std.proofs.Common.{◌≡◌}
use Rattle.babel_choice.specs.Routes.{has_routes_from}
use Rattle.babel_route.proofs.routes.has_routes_from.Given as goal

abbrev pub invariant-loop-route : goal.invariant-loop-route
invariant-loop-route g l =
    has_routes_from l.peer l.route-iterator ≡ has_routes_from l.peer (g.E.Table.entries l.entries)
