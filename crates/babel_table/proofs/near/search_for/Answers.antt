-- No entry is after the last one.
use Rattle.std.proofs.Common.{ap, arith}
use Rattle.std.proofs.lemmas.List.{drop_all}
use Rattle.babel_table.specs.Places.{are_greater}
use Rattle.babel_table.proofs.near.search_for.Goals as goal

pub search_between-requires-clause-greater : goal.search_between-requires-clause-greater
search_between-requires-clause-greater g c =
    ap (are_greater g.K.Key.order c.args.key.now) (drop_all c.len-len.result (g.T.Table.entries c.args.table.now) (omega (arith, c.len-len.ensures.len)))
