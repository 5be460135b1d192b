-- The interface that was found has the cost.
use Rattle.babel_topology.proofs.Costs.{found_cost}
use Rattle.babel_topology.proofs.file.interfaces.attach.Goals as goal

pub returns-in-Some-clause-cost : goal.returns-in-Some-clause-cost
returns-in-Some-clause-cost c = found_cost c.args.costs.now.items c.deref.result.now c.args.cost c.in-Some.iface c.find_cost.result c.find_cost.ensures
    c.in-Some.is c.deref.ensures.value
