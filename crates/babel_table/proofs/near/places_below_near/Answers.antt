-- All up to an entry below the bound are below it, since the keys rise.
use Rattle.std.proofs.Common.{sym, add-one}
use Rattle.babel_table.proofs.BoundLemmas.{below_through, above_from}
use Rattle.babel_table.proofs.near.places_below_near.Goals as goal

pub places_below_from-requires-clause-below : goal.places_below_from-requires-clause-below
places_below_from-requires-clause-below g c =
    let table = c.args.table.now in
    let bound = c.args.bound.now in
    rw (add-one c.args.near) (below_through g.K.Key.order (g.B.Bound.is_below bound) (g.met.B.Bound.falling bound) (g.T.Table.entries table) c.args.near c.in-Some.entry (g.met.T.Table.ordered table) (sym c.in-Some.ensures) (sym c.if-is_below.ensures))

pub places_below_back-requires-clause-above : goal.places_below_back-requires-clause-above
places_below_back-requires-clause-above g c =
    let table = c.args.table.now in
    let bound = c.args.bound.now in
    above_from g.K.Key.order (g.B.Bound.is_below bound) (g.met.B.Bound.falling bound) (g.T.Table.entries table) c.args.near c.in-Some.entry (g.met.T.Table.ordered table) (sym c.in-Some.ensures) (sym c.if-is_below.ensures)
