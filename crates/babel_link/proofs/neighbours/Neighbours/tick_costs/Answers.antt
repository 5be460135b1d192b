-- A tick keeps the order, and leaves the cost of each link or makes it infinite. A neighbour that it flushes is none any more.
use Rattle.std.proofs.Common.{arith}
use Rattle.babel_link.proofs.TickLemmas.{is_sorted-tick_of, are_ascending-gone_of}
use Rattle.babel_link.proofs.GrowthLemmas.{costs_only_grow, gone_are_lost}
use Rattle.babel_link.proofs.neighbours.Neighbours.tick_costs.Goals as goal

pub invariant_of-self : goal.invariant_of-self
invariant_of-self c =
    let ticked = c.tick_links-ticked.ensures in
    (omega arith, omega arith, rw ticked.links (is_sorted-tick_of c.args.now _ c.self.invariant.2), ticked.due)

pub returns-clause-ascending : goal.returns-clause-ascending
returns-clause-ascending c = rw c.tick_links-ticked.ensures.gone (are_ascending-gone_of c.args.now _ c.self.invariant.2)

pub returns-clause-others : goal.returns-clause-others
returns-clause-others c = rw (← c.self.view_is) c.tick_links-ticked.ensures.others

pub returns-clause-grown : goal.returns-clause-grown
returns-clause-grown c = rw (← c.self.view_is, c.tick_links-ticked.ensures.links) (costs_only_grow c.args.now c.self.inside.links.items c.self.invariant.2)

pub returns-clause-lost : goal.returns-clause-lost
returns-clause-lost c = rw (c.tick_links-ticked.ensures.links, c.tick_links-ticked.ensures.gone) (gone_are_lost c.args.now c.self.inside.links.items c.self.invariant.2)

pub returns-clause-exact : goal.returns-clause-exact
returns-clause-exact c = rw (← c.self.view_is) c.tick_links-ticked.ensures.exact
