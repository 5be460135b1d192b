-- The first link that joins the nodes, and none.
use Rattle.std.proofs.Common.{sym, ◌∙◌, arith}
use Rattle.babel_topology.specs.declared.topology.Link.{Link}
use Rattle.babel_topology.specs.Names.{joins}
use Rattle.babel_topology.proofs.GrowingLists.{found_first, none_found}
use Rattle.babel_topology.proofs.names.link_between.Goals as goal

pub returns-then-joins : goal.returns-then-joins
returns-then-joins c = sym (found_first (λ (l : Link). joins l c.args.a c.args.b) c.args.links.now c.loop-number.number _ c.loop-number.invariant
    (omega arith) (sym c.joins.ensures ∙ c.if-joins.true))

pub returns : goal.returns
returns c = sym (none_found (λ (l : Link). joins l c.args.a c.args.b) c.args.links.now c.loop-number.number (omega arith) c.loop-number.invariant)
