-- The key of the first entry is this one.
use Rattle.std.proofs.Common.{sym, ap}
use Rattle.std.specs.Ordering.{is_eq}
use Rattle.babel_table.proofs.NearLemmas.{at_there}
use Rattle.babel_table.proofs.near.search_from_first.Goals as goal

pub returns-in-Equal-clause-at : goal.returns-in-Equal-clause-at
returns-in-Equal-clause-at g c = λ here. (
  c.in-Some.first.1,
  at_there g.K.Key.order g.met.K.Key.exact c.args.key.now (g.T.Table.entries c.args.table.now) 0 c.in-Some.first (sym c.in-Some.ensures) (sym (ap is_eq c.in-Equal.ensures)),
)
