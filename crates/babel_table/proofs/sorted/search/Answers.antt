-- What a comparison says of all entries on its side, since the keys rise.
use Rattle.std.proofs.Common.{◌+◌, ◌-◌, ◌/◌, Some, sym, ap, ◌∙◌, arith, add-one}
use Rattle.babel_table.proofs.DigitLemmas.{binary_digits_halved}
use Rattle.babel_table.proofs.PlaceLemmas.{lesser_through, greater_from}
use Rattle.babel_table.proofs.sorted.search.Goals as goal

pub loop-low-preserved-in-Less : goal.loop-low-preserved-in-Less
loop-low-preserved-in-Less g c =
    let es = g.Q.Sequence.items c.args.table.now.entries in
    let left = c.loop-low.high - c.loop-low.low in
    let middle = c.loop-low.low + left / 2 in
    let halved = binary_digits_halved left (middle - c.loop-low.low) (omega arith) (omega arith) in
    record {
      rising = omega arith;
      within = omega arith;
      lesser = c.loop-low.invariant.lesser;
      greater = greater_from g.K.Key.order g.met.K.Key.total (g.S.Sought.key c.args.key.now) es middle _ c.args.table.now.sorted c.item.ensures (sym c.in-Less.ensures.returned);
      halved = omega (arith, c.in-Less.ensures.counted, halved);
    }

pub loop-low-preserved : goal.loop-low-preserved
loop-low-preserved g c =
    let es = g.Q.Sequence.items c.args.table.now.entries in
    let left = c.loop-low.high - c.loop-low.low in
    let middle = c.loop-low.low + left / 2 in
    let halved = binary_digits_halved left (c.loop-low.high - (middle + 1)) (omega arith) (omega arith) in
    record {
      rising = omega arith;
      within = c.loop-low.invariant.within;
      lesser = rw (add-one middle) (lesser_through g.K.Key.order g.met.K.Key.total (g.S.Sought.key c.args.key.now) es middle _ c.args.table.now.sorted c.item.ensures (sym c.in-Greater.ensures.returned));
      greater = c.loop-low.invariant.greater;
      halved = omega (arith, c.in-Greater.ensures.counted, halved);
    }

pub returns-in-Equal-clause-found : goal.returns-in-Equal-clause-found
returns-in-Equal-clause-found g c =
    let e = c.item.result.now in
    let same = g.met.K.Key.exact (g.S.Sought.key c.args.key.now) e.0 (sym c.in-Equal.ensures.returned) in
    (e.1, c.item.ensures ∙ ap (λ k. Some (k, e.1)) (sym same))

pub returns-in-Equal-clause-cost : goal.returns-in-Equal-clause-cost
returns-in-Equal-clause-cost g c =
    let left = c.loop-low.high - c.loop-low.low in
    let halved = binary_digits_halved left 0 (omega arith) (omega arith) in
    omega (arith, c.in-Equal.ensures.counted, c.loop-low.invariant.halved, halved)
