-- The selection at the place is the first beyond the bound.
use Rattle.std.proofs.Common.{sym}
use Rattle.babel_value.specs.Orders.{prefix_cmp}
use Rattle.babel_route.proofs.BeyondLemmas.{prefix_rises, least_beyond, none_beyond}
use Rattle.babel_route.proofs.routes.selected_prefix_after.Goals as goal

pub returns-in-Some : goal.returns-in-Some
returns-in-Some g c =
    let found = c.places_below-place.ensures in
    sym (least_beyond prefix_cmp (λ p. p) prefix_rises c.args.bound.now.prefix (g.S.Table.entries c.args.selections.now) c.places_below-place.result c.in-Some.selection (g.met.S.Table.ordered c.args.selections.now) found.below found.above (sym c.in-Some.ensures))

pub returns-in-None : goal.returns-in-None
returns-in-None g c =
    let found = c.places_below-place.ensures in
    sym (none_beyond prefix_cmp (λ p. p) prefix_rises c.args.bound.now.prefix (g.S.Table.entries c.args.selections.now) c.places_below-place.result found.below found.above (sym c.in-None.ensures))
