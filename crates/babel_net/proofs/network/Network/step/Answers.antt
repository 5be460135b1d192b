use Rattle.babel_net.specs.Networks.{world_of}
use Rattle.babel_net.proofs.Chains.{after_step}
use Rattle.babel_net.proofs.Running.{running}
use Rattle.babel_net.proofs.network.Network.step.Goals as goal

pub step-requires : goal.step-requires
step-requires c = running c.self.inside.nodes c.self.invariant.0

pub returns-clause-one_origin : goal.returns-clause-one_origin
returns-clause-one_origin c =
    let net = after_step c.networks_go_on.ensures.kept c.step.result c.args.event.now c.self.inside.nodes c.step.new.self c.self.invariant.0 c.step.ensures.ok c.step.ensures.accepted c.step.ensures.err in
    λ prefix origin. c.sound_networks_have_no_loop.ensures.one_origin c.step.new.self.configs (world_of c.step.new.self) prefix origin net.sound
