-- The selection at the index is the next one.
use Rattle.std.proofs.Common.{sym, ap, ◌∙◌, length, rules}
use Rattle.babel_choice.proofs.RunLemmas.{drop_at}
use Rattle.babel_choice.proofs.walks.AllSelectionsIterator.next.Goals as goal

pub returns-clause-steps : goal.returns-clause-steps
returns-clause-steps g c =
    let walk = c.self.inside in
    sym c.self.view_is ∙ drop_at (g.T.Table.entries walk.table.now) walk.place c.in_ok-selection.selection (sym c.in_ok-selection.ensures)

pub returns-clause-goes : goal.returns-clause-goes
returns-clause-goes g c =
    let shorter = ap length (returns-clause-steps g c) in search rules
