-- What a comparison means for all entries on its side, since the keys rise.
use Rattle.std.proofs.Common.{◌+◌, ◌-◌, ◌/◌, sym, ap, arith, add-one}
use Rattle.std.specs.Ordering.{is_eq}
use Rattle.babel_table.proofs.PlaceLemmas.{lesser_through, greater_from}
use Rattle.babel_table.proofs.NearLemmas.{at_there}
use Rattle.babel_table.proofs.near.search_keys.Goals as goal

pub returns-in-Equal-clause-at : goal.returns-in-Equal-clause-at
returns-in-Equal-clause-at g c =
    let middle = c.loop-low.low + (c.loop-low.high - c.loop-low.low) / 2 in
    λ here. (
      c.in-Some.entry.1,
      at_there g.K.Key.order g.met.K.Key.exact c.args.key.now (g.T.Table.entries c.args.table.now) middle c.in-Some.entry (sym c.in-Some.ensures) (sym (ap is_eq c.in-Equal.ensures)),
    )

pub loop-low-preserved-in-Less : goal.loop-low-preserved-in-Less
loop-low-preserved-in-Less g c =
    let table = c.args.table.now in
    let middle = c.loop-low.low + (c.loop-low.high - c.loop-low.low) / 2 in
    record {
      rising = omega arith;
      within = omega (arith, c.loop-low.invariant.within);
      lesser = c.loop-low.invariant.lesser;
      greater = greater_from g.K.Key.order g.met.K.Key.total c.args.key.now (g.T.Table.entries table) middle c.in-Some.entry (g.met.T.Table.ordered table) (sym c.in-Some.ensures) (sym c.in-Less.ensures);
    }

pub loop-low-preserved : goal.loop-low-preserved
loop-low-preserved g c =
    let table = c.args.table.now in
    let middle = c.loop-low.low + (c.loop-low.high - c.loop-low.low) / 2 in
    record {
      rising = omega arith;
      within = c.loop-low.invariant.within;
      lesser = rw (add-one middle) (lesser_through g.K.Key.order g.met.K.Key.total c.args.key.now (g.T.Table.entries table) middle c.in-Some.entry (g.met.T.Table.ordered table) (sym c.in-Some.ensures) (sym c.in-Greater.ensures));
      greater = c.loop-low.invariant.greater;
    }
