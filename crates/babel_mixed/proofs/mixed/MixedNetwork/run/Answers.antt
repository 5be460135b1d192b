use Rattle.std.proofs.Common.{subst, arith}
use Rattle.babel_mixed.specs.Mixed.{IsMixed}
use Rattle.babel_mixed.proofs.MixedRuns.{ran_none, ran_step, ran_all, stops}
use Rattle.babel_mixed.proofs.mixed.MixedNetwork.run.Goals as goal

pub loop-done-init : goal.loop-done-init
loop-done-init c =
    let mixed : IsMixed c.args.self.now = subst IsMixed c.self.view_is c.self.invariant.0 in
    let free = c.mixed_networks_have_no_loop.ensures c.args.self.now mixed in
    record {
      inside = omega arith;
      ran = ran_none c.args.self.now;
      no_loop = free.0;
      no_forwarding_loop = free.1;
    }

pub loop-done-preserved : goal.loop-done-preserved
loop-done-preserved c = record {
  inside = omega arith;
  ran = ran_step c.args.events.now c.loop-done.done c.index-events-done.result c.args.self.now c.loop-done.self c.happen.new.self c.loop-done-test.true c.index-events-done.is c.loop-done.invariant.ran c.in_default.ensures.ok c.in_default.ensures.accepted c.happen.ensures.no_loop c.happen.ensures.no_forwarding_loop;
  no_loop = c.happen.ensures.no_loop;
  no_forwarding_loop = c.happen.ensures.no_forwarding_loop;
}

pub returns-in-Err-clause-err : goal.returns-in-Err-clause-err
returns-in-Err-clause-err c =
    stops c.args.events.now c.loop-done.done c.index-events-done.result c.in-Err.fault c.args.self.now c.loop-done.self c.happen.new.self c.loop-done-test.true c.index-events-done.is c.loop-done.invariant.ran c.in-Err.ensures.err c.in-Err.ensures.refused

pub returns-clause-ok : goal.returns-clause-ok
returns-clause-ok c =
    ran_all c.args.events.now c.loop-done.done c.args.self.now c.loop-done.self (omega arith) c.loop-done.invariant.ran
