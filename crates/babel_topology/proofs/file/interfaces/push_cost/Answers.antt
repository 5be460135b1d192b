-- One more cost.
use Rattle.std.proofs.Common.{rules}
use Rattle.babel_topology.proofs.Costs.{kept_push, pushed_last}
use Rattle.babel_topology.proofs.file.interfaces.push_cost.Goals as goal

pub returns-clause-kept : goal.returns-clause-kept
returns-clause-kept c = kept_push c.args.costs.now.items c.push.new.self.items c.args.cost c.in_ok-push.ensures.items

pub returns-clause-cost : goal.returns-clause-cost
returns-clause-cost c = pushed_last c.args.costs.now.items c.push.new.self.items c.args.cost c.len-iface.result c.in_ok-push.ensures.items (search rules)
