-- The route at the place is the first beyond the bound.
use Rattle.std.proofs.Common.{sym}
use Rattle.babel_choice.specs.RouteKeys.{route_cmp}
use Rattle.babel_route.proofs.BeyondLemmas.{route_prefix_rises, least_beyond, none_beyond}
use Rattle.babel_route.proofs.routes.route_prefix_after.Goals as goal

pub returns-in-Some : goal.returns-in-Some
returns-in-Some g c =
    let found = c.places_below-place.ensures in
    sym (least_beyond route_cmp (λ k. k.prefix) route_prefix_rises c.args.bound.now.prefix (g.E.Table.entries c.args.entries.now) c.places_below-place.result c.in-Some.route (g.met.E.Table.ordered c.args.entries.now) found.below found.above (sym c.in-Some.ensures))

pub returns-in-None : goal.returns-in-None
returns-in-None g c =
    let found = c.places_below-place.ensures in
    sym (none_beyond route_cmp (λ k. k.prefix) route_prefix_rises c.args.bound.now.prefix (g.E.Table.entries c.args.entries.now) c.places_below-place.result found.below found.above (sym c.in-None.ensures))
