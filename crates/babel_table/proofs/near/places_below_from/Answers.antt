-- What the bound says of an entry holds of all on its side, since the keys rise.
use Rattle.std.proofs.Common.{sym, arith, add-one}
use Rattle.babel_table.proofs.BoundLemmas.{below_through, above_from}
use Rattle.babel_table.proofs.near.places_below_from.Goals as goal

pub places_between-requires-clause-above : goal.places_between-requires-clause-above
places_between-requires-clause-above g c =
    let table = c.args.table.now in
    let bound = c.args.bound.now in
    above_from g.K.Key.order (g.B.Bound.is_below bound) (g.met.B.Bound.falling bound) (g.T.Table.entries table) c.index_on-place.result c.in-Some.entry (g.met.T.Table.ordered table) (sym c.in-Some.ensures) (sym c.if-not-is_below.ensures)

pub loop-low-preserved : goal.loop-low-preserved
loop-low-preserved g c =
    let table = c.args.table.now in
    let bound = c.args.bound.now in
    let place = c.index_on-place.result in
    record {
      within = omega (arith, c.index_on-place.ensures.within, c.len-len.ensures.len);
      below = rw (add-one place) (below_through g.K.Key.order (g.B.Bound.is_below bound) (g.met.B.Bound.falling bound) (g.T.Table.entries table) place c.in-Some.entry (g.met.T.Table.ordered table) (sym c.in-Some.ensures) (sym c.if-not-is_below.ensures));
    }
