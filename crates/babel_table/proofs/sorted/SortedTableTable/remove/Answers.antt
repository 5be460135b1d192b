-- A key that is found goes from its place; one that is missing leaves all as it is.
use Rattle.std.proofs.Common.{◌≡◌, true, sym, subst, ◌∙◌}
use Rattle.std.specs.FinMap.{is_sorted}
use Rattle.babel_table.proofs.PlaceLemmas.{without_hit, without_gap, sorted_without}
use Rattle.babel_table.proofs.sorted.SortedTableTable.remove.Goals as goal

pub invariant_of-self-clause-sorted : goal.invariant_of-self-clause-sorted
invariant_of-self-clause-sorted g c =
    let table = c.args.self.now in
    let found = c.in-Ok.ensures.found in
    subst (λ es. is_sorted g.K.Key.order es ≡ true)
    (without_hit g.K.Key.order g.met.K.Key.total (g.Q.Sequence.items table.entries) c.in-Ok.place (c.args.key.now, found.0) table.sorted found.1 ∙ sym c.remove.ensures.items)
    (sorted_without g.K.Key.order c.args.key.now (g.Q.Sequence.items table.entries) table.sorted)

pub returns-in-Ok-clause-entries : goal.returns-in-Ok-clause-entries
returns-in-Ok-clause-entries g c =
    let table = c.args.self.now in
    let found = c.in-Ok.ensures.found in
    c.remove.ensures.items ∙ sym (without_hit g.K.Key.order g.met.K.Key.total (g.Q.Sequence.items table.entries) c.in-Ok.place (c.args.key.now, found.0) table.sorted found.1)

pub returns-in_default-clause-entries : goal.returns-in_default-clause-entries
returns-in_default-clause-entries g c =
    let gap = c.in_default.ensures.missing in
    sym (without_gap g.K.Key.order c.args.key.now (g.Q.Sequence.items c.args.self.now.entries) c.in_default.field-0 gap.lesser gap.greater)
