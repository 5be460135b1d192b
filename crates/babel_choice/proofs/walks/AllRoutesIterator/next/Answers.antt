-- The route at the place is the next one.
use Rattle.std.proofs.Common.{sym, ap, ◌∙◌, length, rules}
use Rattle.babel_choice.proofs.RunLemmas.{drop_at}
use Rattle.babel_choice.proofs.walks.AllRoutesIterator.next.Goals as goal

pub returns-clause-steps : goal.returns-clause-steps
returns-clause-steps g c =
    let walk = c.self.inside in
    sym c.self.view_is ∙ drop_at (g.T.Table.entries walk.table.now) walk.place c.in_ok-route.route (sym c.in_ok-route.ensures)

pub returns-clause-goes : goal.returns-clause-goes
returns-clause-goes g c =
    let shorter = ap length (returns-clause-steps g c) in search rules
