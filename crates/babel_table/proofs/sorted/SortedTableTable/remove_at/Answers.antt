-- The key is at the index, so what goes from there is its entry.
use Rattle.std.proofs.Common.{◌≡◌, true, sym, subst, ◌∙◌}
use Rattle.std.proofs.lemmas.Option.{slice_get_within}
use Rattle.std.specs.FinMap.{is_sorted}
use Rattle.babel_table.proofs.PlaceLemmas.{without_hit, sorted_without}
use Rattle.babel_table.proofs.sorted.SortedTableTable.remove_at.Goals as goal

pub invariant_of-self-clause-sorted : goal.invariant_of-self-clause-sorted
invariant_of-self-clause-sorted g c =
    let table = c.args.self.now in
    let at = c.requires.at in
    subst (λ es. is_sorted g.K.Key.order es ≡ true)
    (without_hit g.K.Key.order g.met.K.Key.total (g.Q.Sequence.items table.entries) c.args.place (c.args._key.now, at.0) table.sorted at.1 ∙ sym c.remove.ensures.items)
    (sorted_without g.K.Key.order c.args._key.now (g.Q.Sequence.items table.entries) table.sorted)

pub returns-clause-entries : goal.returns-clause-entries
returns-clause-entries g c =
    let table = c.args.self.now in
    let at = c.requires.at in
    c.remove.ensures.items ∙ sym (without_hit g.K.Key.order g.met.K.Key.total (g.Q.Sequence.items table.entries) c.args.place (c.args._key.now, at.0) table.sorted at.1)

pub remove-requires : goal.remove-requires
remove-requires g c =
    let at = c.requires.at in
    slice_get_within (g.Q.Sequence.items c.args.self.now.entries) c.args.place (c.args._key.now, at.0) at.1
