-- Before the first deadline nothing changes.
use Rattle.std.proofs.lemmas.Bool.{leb-false}
use Rattle.babel_link.proofs.DueLemmas.{quiet_tick, quiet_gone}
use Rattle.babel_link.proofs.ExactLemmas.{quiet_costs, quiet_changes}
use Rattle.babel_link.proofs.neighbours.Neighbours.may_be_due.Goals as goal

pub returns-clause-links : goal.returns-clause-links
returns-clause-links c early =
    let inside = c.self.inside in
    rw (← c.self.view_is) (quiet_tick c.args.now inside.due (leb-false inside.due c.args.now early) inside.links.items c.self.invariant.3)

pub returns-clause-gone : goal.returns-clause-gone
returns-clause-gone c early =
    let inside = c.self.inside in
    rw (← c.self.view_is) (quiet_gone c.args.now inside.due (leb-false inside.due c.args.now early) inside.links.items c.self.invariant.3)

pub returns-clause-costs : goal.returns-clause-costs
returns-clause-costs c early =
    let inside = c.self.inside in
    let before = leb-false inside.due c.args.now early in
    rw (← c.self.view_is) (quiet_changes c.args.now inside.links.items
    (quiet_gone c.args.now inside.due before inside.links.items c.self.invariant.3)
    (quiet_costs c.args.now inside.due before inside.links.items c.self.invariant.3))
