-- What the bound says of the entry in the middle holds of all on its side, since the keys rise.
use Rattle.std.proofs.Common.{◌+◌, ◌-◌, ◌/◌, sym, ◌∙◌, arith, add-one}
use Rattle.babel_table.proofs.PlaceLemmas.{past_end}
use Rattle.babel_table.proofs.BoundLemmas.{below_through, above_from}
use Rattle.babel_table.proofs.bounds.search_places.Goals as goal

pub loop-low-preserved-then-is_below : goal.loop-low-preserved-then-is_below
loop-low-preserved-then-is_below g c =
    let table = c.args.table.now in
    let bound = c.args.bound.now in
    let middle = c.loop-low.low + (c.loop-low.high - c.loop-low.low) / 2 in
    record {
      rising = omega arith;
      within = c.loop-low.invariant.within;
      below = rw (add-one middle) (below_through g.K.Key.order (g.B.Bound.is_below bound) (g.met.B.Bound.falling bound) (g.T.Table.entries table) middle c.in-Some.entry (g.met.T.Table.ordered table) (sym c.in-Some.ensures) (sym c.if-is_below.ensures));
      above = c.loop-low.invariant.above;
    }

pub loop-low-preserved-in_default : goal.loop-low-preserved-in_default
loop-low-preserved-in_default g c =
    let table = c.args.table.now in
    let bound = c.args.bound.now in
    let middle = c.loop-low.low + (c.loop-low.high - c.loop-low.low) / 2 in
    record {
      rising = omega arith;
      within = omega (arith, c.loop-low.invariant.within);
      below = c.loop-low.invariant.below;
      above = above_from g.K.Key.order (g.B.Bound.is_below bound) (g.met.B.Bound.falling bound) (g.T.Table.entries table) middle c.in-Some.entry (g.met.T.Table.ordered table) (sym c.in-Some.ensures) (sym c.if-is_below.ensures);
    }

pub loop-low-preserved : goal.loop-low-preserved
loop-low-preserved g c =
    let middle = c.loop-low.low + (c.loop-low.high - c.loop-low.low) / 2 in
    absurd (omega (arith, c.loop-low.invariant.within, past_end (g.T.Table.entries c.args.table.now) middle (sym c.at.ensures ∙ c.in_default.is)))
