-- The key of the entry at the index is this one, or all on its side are lesser or greater.
use Rattle.std.proofs.Common.{◌≡◌, true, take, refl, sym, ap, subst, arith, add-one}
use Rattle.std.specs.Ordering.{is_eq}
use Rattle.std.proofs.lemmas.Option.{slice_get_within}
use Rattle.babel_table.specs.Places.{are_lesser}
use Rattle.babel_table.proofs.PlaceLemmas.{gap_at_end, lesser_through, greater_from}
use Rattle.babel_table.proofs.NearLemmas.{at_there}
use Rattle.babel_table.proofs.near.seek_near.Goals as goal

pub returns-in-Equal-clause-at : goal.returns-in-Equal-clause-at
returns-in-Equal-clause-at g c = λ here. (
  c.in-Some.entry.1,
  at_there g.K.Key.order g.met.K.Key.exact c.args.key.now (g.T.Table.entries c.args.table.now) c.args.near.now c.in-Some.entry (sym c.in-Some.ensures) (sym (ap is_eq c.in-Equal.ensures)),
)

pub returns-then-len-eq0-clause-gap : goal.returns-then-len-eq0-clause-gap
returns-then-len-eq0-clause-gap g c =
    let es = g.T.Table.entries c.args.table.now in
    let none = subst (λ n. are_lesser g.K.Key.order c.args.key.now (take n es) ≡ true) (sym c.if-len-eq0.true) refl in
    λ _. gap_at_end g.K.Key.order c.args.key.now es c.len-len.result none (omega (arith, c.len-len.ensures.len))

pub walk_for-requires-clause-lesser : goal.walk_for-requires-clause-lesser
walk_for-requires-clause-lesser g c =
    let table = c.args.table.now in
    rw (add-one c.args.near.now) (lesser_through g.K.Key.order g.met.K.Key.total c.args.key.now (g.T.Table.entries table) c.args.near.now c.in-Some.entry (g.met.T.Table.ordered table) (sym c.in-Some.ensures) (sym c.in-Greater.ensures))

pub back_for-requires-clause-greater : goal.back_for-requires-clause-greater
back_for-requires-clause-greater g c =
    let table = c.args.table.now in
    greater_from g.K.Key.order g.met.K.Key.total c.args.key.now (g.T.Table.entries table) c.args.near.now c.in-Some.entry (g.met.T.Table.ordered table) (sym c.in-Some.ensures) (sym c.in-Less.ensures)

pub walk_for-requires-clause-within : goal.walk_for-requires-clause-within
walk_for-requires-clause-within g c = slice_get_within (g.T.Table.entries c.args.table.now) c.args.near.now c.in-Some.entry (sym c.in-Some.ensures)
