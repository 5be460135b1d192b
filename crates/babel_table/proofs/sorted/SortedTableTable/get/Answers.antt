use Rattle.std.proofs.Common.{Some, sym, ap, ◌∙◌}
use Rattle.std.proofs.lemmas.Option.{same_Some}
use Rattle.babel_table.proofs.PlaceLemmas.{find_hit, find_gap}
use Rattle.babel_table.proofs.sorted.SortedTableTable.get.Goals as goal

pub returns-in-Ok-clause-value : goal.returns-in-Ok-clause-value
returns-in-Ok-clause-value g c =
    let table = c.args.self.now in
    let found = c.in-Ok.ensures.found in
    ap (λ e. Some e.1) (same_Some _ _ (sym c.item.ensures ∙ found.1))
    ∙ sym (find_hit g.K.Key.order g.met.K.Key.total (g.Q.Sequence.items table.entries) c.in-Ok.place ((g.S.Sought.key c.args.key.now), found.0) table.sorted found.1)

pub returns-in-Err-clause-value : goal.returns-in-Err-clause-value
returns-in-Err-clause-value g c =
    let gap = c.in-Err.ensures.missing in
    sym (find_gap g.K.Key.order (g.S.Sought.key c.args.key.now) (g.Q.Sequence.items c.args.self.now.entries) c.in-Err.field-0 gap.lesser gap.greater)
