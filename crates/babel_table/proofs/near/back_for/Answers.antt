-- What a comparison means for all entries on its side, since the keys rise.
use Rattle.std.proofs.Common.{◌-◌, sym, ap, add-one}
use Rattle.std.specs.Ordering.{is_eq}
use Rattle.babel_table.proofs.PlaceLemmas.{lesser_through, greater_from}
use Rattle.babel_table.proofs.NearLemmas.{at_there}
use Rattle.babel_table.proofs.near.back_for.Goals as goal

pub search_between-requires-clause-lesser : goal.search_between-requires-clause-lesser
search_between-requires-clause-lesser g c =
    let table = c.args.table.now in
    let place = c.args.near.now - 1 in
    rw (add-one place) (lesser_through g.K.Key.order g.met.K.Key.total c.args.key.now (g.T.Table.entries table) place c.in-Some.entry (g.met.T.Table.ordered table) (sym c.in-Some.ensures) (sym c.in-Greater.ensures))

pub returns-in-Equal-clause-at : goal.returns-in-Equal-clause-at
returns-in-Equal-clause-at g c = λ here. (
  c.in-Some.entry.1,
  at_there g.K.Key.order g.met.K.Key.exact c.args.key.now (g.T.Table.entries c.args.table.now) (c.args.near.now - 1) c.in-Some.entry (sym c.in-Some.ensures) (sym (ap is_eq c.in-Equal.ensures)),
)

pub walk_back_for-requires-clause-greater : goal.walk_back_for-requires-clause-greater
walk_back_for-requires-clause-greater g c =
    let table = c.args.table.now in
    greater_from g.K.Key.order g.met.K.Key.total c.args.key.now (g.T.Table.entries table) (c.args.near.now - 1) c.in-Some.entry (g.met.T.Table.ordered table) (sym c.in-Some.ensures) (sym c.in-Less.ensures)
