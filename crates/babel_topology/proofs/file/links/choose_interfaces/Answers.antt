-- One more link has its interfaces.
use Rattle.std.proofs.Common.{arith}
use Rattle.babel_topology.proofs.GrowingLists.{same_set}
use Rattle.babel_topology.proofs.Costs.{costs_more, costs_all}
use Rattle.babel_topology.proofs.file.links.choose_interfaces.Goals as goal

pub loop-number-preserved : goal.loop-number-preserved
loop-number-preserved c = (
  omega arith,
  c.choose_interface-in-loop-number.ensures.few (c.choose_interface.ensures.few c.loop-number.invariant.1),
  same_set c.args.links.now c.loop-number.links c.loop-number.number _ _ c.loop-number.invariant.2 (omega arith) c.in_ok-a.ensures.node c.in_ok-b.ensures.node,
  costs_more c.loop-number.interfaces.items c.choose_interface.new.interfaces.items c.choose_interface-in-loop-number.new.interfaces.items c.loop-number.links
      c.loop-number.number _ (omega arith) c.choose_interface.ensures.kept c.choose_interface-in-loop-number.ensures.kept c.in_ok-a.ensures.cost
      c.in_ok-b.ensures.cost c.loop-number.invariant.3,
)

pub returns-clause-costs : goal.returns-clause-costs
returns-clause-costs c = costs_all c.loop-number.interfaces.items c.loop-number.links c.loop-number.number (omega arith) c.loop-number.invariant.3
