-- What the bound says of an entry holds of all on its side, since the keys rise.
use Rattle.std.proofs.Common.{sym, arith, add-one}
use Rattle.babel_table.proofs.BoundLemmas.{below_through, above_from}
use Rattle.babel_table.proofs.near.places_below_until.Goals as goal

pub places_between-requires-clause-below : goal.places_between-requires-clause-below
places_between-requires-clause-below g c =
    let table = c.args.table.now in
    let bound = c.args.bound.now in
    let place = c.index_back-place.result in
    rw (add-one place) (below_through g.K.Key.order (g.B.Bound.is_below bound) (g.met.B.Bound.falling bound) (g.T.Table.entries table) place c.in-Some.entry (g.met.T.Table.ordered table) (sym c.in-Some.ensures) (sym c.if-is_below.ensures))

pub loop-high-preserved : goal.loop-high-preserved
loop-high-preserved g c =
    let table = c.args.table.now in
    let bound = c.args.bound.now in
    record {
      within = omega (arith, c.loop-high.invariant.within, c.index_back-place.ensures.before);
      above = above_from g.K.Key.order (g.B.Bound.is_below bound) (g.met.B.Bound.falling bound) (g.T.Table.entries table) c.index_back-place.result c.in-Some.entry (g.met.T.Table.ordered table) (sym c.in-Some.ensures) (sym c.if-is_below.ensures);
    }
