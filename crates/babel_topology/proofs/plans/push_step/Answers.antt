-- One more step.
use Rattle.babel_topology.proofs.Growing.{order_grows, end_grows}
use Rattle.babel_topology.proofs.plans.push_step.Goals as goal

pub returns-clause-order : goal.returns-clause-order
returns-clause-order c = order_grows c.args.steps.now.items c.push.new.self.items c.deref.result.now c.args.step c.latest_of-latest.result c.in_ok-push.ensures.items
    c.deref.ensures.value c.latest_of-latest.ensures c.in_ok-check_moment.ensures.order

pub returns-clause-end : goal.returns-clause-end
returns-clause-end c = end_grows c.args.duration c.args.steps.now.items c.push.new.self.items c.args.step c.in_ok-push.ensures.items
    c.in_ok-check_moment.ensures.end
