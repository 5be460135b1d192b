-- Keys that tie are equal.
use Rattle.std.proofs.Common.{◌<◌, length, Some, refl, sym, ap, ◌∙◌, arith}
use Rattle.std.proofs.lemmas.Option.{slice_get_read}
use Rattle.babel_table.proofs.plain.search.Goals as goal
use Rattle.babel_value.proofs.Orderings.{equal}

pub returns-then-is_eq-clause-found : goal.returns-then-is_eq-clause-found
returns-then-is_eq-clause-found g c =
    let es = c.args.table.now.entries.items in
    let e = c.index.result.now in
    let within : c.loop-index.index < length es = omega (arith, c.len-index-end.ensures, c.args.table.now.entries.ok.0) in
    let same = g.met.K.Key.exact (g.S.Sought.key c.args.key.now) e.0 (sym c.compare_with.ensures.returned ∙ equal c.compare_with.result (sym c.if-is_eq.ensures)) in
    (e.1, slice_get_read es (length es) c.loop-index.index e refl within c.index.ensures ∙ ap (λ k. Some (k, e.1)) (sym same))
