-- The route at the place is the next one, unless it is of another prefix.
use Rattle.std.proofs.Common.{sym, ap, ◌∙◌, length, rules}
use Rattle.babel_choice.proofs.RunLemmas.{walk_next, walk_end}
use Rattle.babel_choice.proofs.walks.PrefixRoutesIterator.next.Goals as goal

pub returns-then-not-is_of-clause-steps : goal.returns-then-not-is_of-clause-steps
returns-then-not-is_of-clause-steps g c =
    let walk = c.self.inside in
    let end = sym c.self.view_is ∙ walk_end walk.prefix (g.T.Table.entries walk.table.now) walk.place c.in_ok-route.route (sym c.in_ok-route.ensures) (sym c.if-not-is_of.ensures) in
    (end, end)

pub returns-clause-steps : goal.returns-clause-steps
returns-clause-steps g c =
    let walk = c.self.inside in
    sym c.self.view_is ∙ walk_next walk.prefix (g.T.Table.entries walk.table.now) walk.place c.in_ok-route.route (sym c.in_ok-route.ensures) (sym c.if-not-is_of.ensures)

pub returns-clause-goes : goal.returns-clause-goes
returns-clause-goes g c =
    let shorter = ap length (returns-clause-steps g c) in search rules
