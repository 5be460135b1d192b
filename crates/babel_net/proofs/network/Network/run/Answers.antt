use Rattle.std.proofs.Common.{◌≡◌, length, take, subst, arith}
use Rattle.babel_net.specs.Networks.{world_of}
use Rattle.babel_net.specs.Invariants.{IsNetwork}
use Rattle.babel_net.proofs.Chains.{ran_step, ran_all, ran_together, ran_network, stops}
use Rattle.babel_net.proofs.network.Network.run.Goals as goal

pub loop-done-preserved : goal.loop-done-preserved
loop-done-preserved c = record {
  inside = omega arith;
  ran = ran_step c.args.events.now c.loop-done.done c.index-events-done.result c.args.self.now c.loop-done.self c.step.new.self c.loop-done-test.true c.index-events-done.is c.loop-done.invariant.ran c.in_default.ensures.event c.in_default.ensures.accepted;
}

pub returns-in-Err-clause-err : goal.returns-in-Err-clause-err
returns-in-Err-clause-err c =
    let net : IsNetwork c.args.self.now = subst IsNetwork c.self.view_is c.self.invariant.0 in
    stops c.args.events.now c.loop-done.done c.index-events-done.result c.in-Err.fault c.args.self.now c.loop-done.self c.step.new.self c.loop-done-test.true c.index-events-done.is
    (ran_together c.networks_go_on.ensures.happens c.networks_go_on.ensures.kept c.sound_networks_have_no_loop.ensures.together (take c.loop-done.done c.args.events.now) c.args.self.now c.loop-done.self net c.loop-done.invariant.ran)
    c.in-Err.ensures.err c.in-Err.ensures.refused

pub returns-clause-ok : goal.returns-clause-ok
returns-clause-ok c =
    let net : IsNetwork c.args.self.now = subst IsNetwork c.self.view_is c.self.invariant.0 in
    let end : c.loop-done.done ≡ length c.args.events.now = omega arith in
    ran_together c.networks_go_on.ensures.happens c.networks_go_on.ensures.kept c.sound_networks_have_no_loop.ensures.together c.args.events.now c.args.self.now c.loop-done.self net
    (ran_all c.args.events.now c.loop-done.done c.args.self.now c.loop-done.self end c.loop-done.invariant.ran)

pub returns-clause-no_loop : goal.returns-clause-no_loop
returns-clause-no_loop c =
    let net : IsNetwork c.args.self.now = subst IsNetwork c.self.view_is c.self.invariant.0 in
    let after = ran_network c.networks_go_on.ensures.kept (take c.loop-done.done c.args.events.now) c.args.self.now c.loop-done.self net c.loop-done.invariant.ran in
    λ s source counted. c.sound_networks_have_no_loop.ensures.named c.loop-done.self.configs (world_of c.loop-done.self) s after.sound source counted

pub returns-clause-one_origin : goal.returns-clause-one_origin
returns-clause-one_origin c =
    let net : IsNetwork c.args.self.now = subst IsNetwork c.self.view_is c.self.invariant.0 in
    let after = ran_network c.networks_go_on.ensures.kept (take c.loop-done.done c.args.events.now) c.args.self.now c.loop-done.self net c.loop-done.invariant.ran in
    λ prefix origin. c.sound_networks_have_no_loop.ensures.one_origin c.loop-done.self.configs (world_of c.loop-done.self) prefix origin after.sound
