-- The first interface of the cost, and none.
use Rattle.std.proofs.Common.{◌==◌, sym, arith}
use Rattle.std.proofs.lemmas.Bool.{eq-eqb}
use Rattle.babel_topology.proofs.GrowingLists.{found_first, none_found}
use Rattle.babel_topology.proofs.file.interfaces.find_cost.Goals as goal

pub returns-then-other-cost : goal.returns-then-other-cost
returns-then-other-cost c = sym (found_first (λ other. other == c.args.cost) c.args.costs.now c.loop-iface.iface 0 c.loop-iface.invariant
    (omega arith) (eq-eqb _ _ c.if-other-cost.true))

pub returns : goal.returns
returns c = sym (none_found (λ other. other == c.args.cost) c.args.costs.now c.loop-iface.iface (omega arith) c.loop-iface.invariant)
