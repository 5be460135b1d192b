-- The key is missing and belongs to the index, so inserting there is storing at the key.
use Rattle.std.proofs.Common.{◌≡◌, true, sym, subst, ◌∙◌}
use Rattle.std.specs.FinMap.{is_sorted}
use Rattle.babel_table.proofs.PlaceLemmas.{put_gap, sorted_put}
use Rattle.babel_table.proofs.sorted.SortedTableTable.insert.Goals as goal

pub invariant_of-self-clause-sorted : goal.invariant_of-self-clause-sorted
invariant_of-self-clause-sorted g c =
    let table = c.args.self.now in
    let gap = c.requires.gap in
    subst (λ es. is_sorted g.K.Key.order es ≡ true)
    (put_gap g.K.Key.order c.args.key c.args.value (g.Q.Sequence.items table.entries) c.args.place gap.lesser gap.greater ∙ sym c.insert.ensures.items)
    (sorted_put g.K.Key.order g.met.K.Key.total c.args.key c.args.value (g.Q.Sequence.items table.entries) table.sorted)

pub returns-clause-entries : goal.returns-clause-entries
returns-clause-entries g c =
    let gap = c.requires.gap in
    c.insert.ensures.items ∙ sym (put_gap g.K.Key.order c.args.key c.args.value (g.Q.Sequence.items c.args.self.now.entries) c.args.place gap.lesser gap.greater)
