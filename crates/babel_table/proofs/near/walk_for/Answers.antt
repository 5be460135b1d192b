-- What a comparison means for all entries on its side, since the keys rise.
use Rattle.std.proofs.Common.{◌≡◌, ◌≤◌, true, length, sym, ap, subst, ◌∙◌, arith, add-one}
use Rattle.std.specs.Ordering.{is_eq}
use Rattle.std.proofs.lemmas.List.{take_all}
use Rattle.babel_table.specs.Places.{are_lesser}
use Rattle.babel_table.proofs.PlaceLemmas.{gap_at_end, lesser_through, greater_from}
use Rattle.babel_table.proofs.NearLemmas.{at_there}
use Rattle.babel_table.proofs.near.walk_for.Goals as goal

pub search_between-requires-clause-greater : goal.search_between-requires-clause-greater
search_between-requires-clause-greater g c =
    let table = c.args.table.now in
    greater_from g.K.Key.order g.met.K.Key.total c.args.key.now (g.T.Table.entries table) c.index_on-place.result c.in-Some.entry (g.met.T.Table.ordered table) (sym c.in-Some.ensures) (sym c.in-Less.ensures)

pub returns-in-Equal-clause-at : goal.returns-in-Equal-clause-at
returns-in-Equal-clause-at g c = λ here. (
  c.in-Some.entry.1,
  at_there g.K.Key.order g.met.K.Key.exact c.args.key.now (g.T.Table.entries c.args.table.now) c.index_on-place.result c.in-Some.entry (sym c.in-Some.ensures) (sym (ap is_eq c.in-Equal.ensures)),
)

pub loop-low-preserved : goal.loop-low-preserved
loop-low-preserved g c =
    let table = c.args.table.now in
    let place = c.index_on-place.result in
    record {
      within = omega (arith, c.index_on-place.ensures.within, c.len-len.ensures.len);
      lesser = rw (add-one place) (lesser_through g.K.Key.order g.met.K.Key.total c.args.key.now (g.T.Table.entries table) place c.in-Some.entry (g.met.T.Table.ordered table) (sym c.in-Some.ensures) (sym c.in-Greater.ensures));
    }

-- All keys are lesser.
pub returns-clause-gap : goal.returns-clause-gap
returns-clause-gap g c =
    let es = g.T.Table.entries c.args.table.now in
    let end : length es ≤ c.loop-low.low = omega (arith, c.len-len.ensures.len, c.loop-low-test.false) in
    let all = take_all c.loop-low.low es end ∙ sym (take_all c.len-len.result es (omega (arith, c.len-len.ensures.len))) in
    λ _. gap_at_end g.K.Key.order c.args.key.now es c.len-len.result (subst (λ xs. are_lesser g.K.Key.order c.args.key.now xs ≡ true) all c.loop-low.invariant.lesser) (omega (arith, c.len-len.ensures.len))
