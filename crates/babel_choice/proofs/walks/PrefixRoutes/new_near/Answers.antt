-- The walk starts at the first route of the prefix, wherever the search began.
use Rattle.babel_choice.proofs.RunLemmas.{walk_from_first}
use Rattle.babel_choice.proofs.walks.PrefixRoutes.new_near.Goals as goal

pub returns : goal.returns
returns g c =
    walk_from_first c.args.prefix (g.T.Table.entries c.args.table.now) c.places_below_near-place.result (g.met.T.Table.ordered c.args.table.now)
    c.places_below_near-place.ensures.below c.places_below_near-place.ensures.above
