-- No entry is after the last one.
use Rattle.std.proofs.Common.{not, ap, arith}
use Rattle.std.specs.List.{list_all}
use Rattle.std.proofs.lemmas.List.{drop_all}
use Rattle.babel_table.proofs.bounds.places_below.Goals as goal

pub places_between-requires-clause-above : goal.places_between-requires-clause-above
places_between-requires-clause-above g c =
    ap (list_all (λ e. not (g.B.Bound.is_below c.args.bound.now e.0))) (drop_all c.len-len.result (g.T.Table.entries c.args.table.now) (omega (arith, c.len-len.ensures.len)))
