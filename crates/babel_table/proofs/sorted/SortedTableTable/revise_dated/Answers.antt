-- A revision keeps the order of the keys.
use Rattle.std.proofs.Common.{◌≡◌, true, sym, subst}
use Rattle.std.specs.FinMap.{is_sorted}
use Rattle.babel_table.proofs.RevisionLemmas.{sorted_revised}
use Rattle.babel_table.proofs.sorted.SortedTableTable.revise_dated.Goals as goal

pub invariant_of-self-clause-sorted : goal.invariant_of-self-clause-sorted
invariant_of-self-clause-sorted g c =
    let table = c.args.self.now in
    subst (λ es. is_sorted g.K.Key.order es ≡ true) (sym c.revise.ensures.items)
    (sorted_revised g.K.Key.order (g.R.Revision.revised c.args.revision.now) (g.Q.Sequence.items table.entries) table.sorted)
