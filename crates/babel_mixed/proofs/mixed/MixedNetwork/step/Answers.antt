use Rattle.babel_mixed.specs.Mixed.{IsMixed}
use Rattle.babel_net.proofs.KeptOwners.{step_owners}
use Rattle.babel_mixed.proofs.HeardNetworks.{mixed, step_kept}
use Rattle.babel_mixed.proofs.mixed.MixedNetwork.step.Goals as goal

pub invariant_of-self : goal.invariant_of-self
invariant_of-self c =
    (step_kept c.mixed_go_on.ensures.events c.step.result c.args.event.now c.self.inside.nodes c.step.new.self c.self.inside.heard.items c.self.invariant.0 c.step.ensures.ok c.step.ensures.accepted c.step.ensures.err, step_owners c.step.result c.args.event.now c.self.inside.nodes c.step.new.self c.self.inside.owners.nodes c.self.invariant.1 c.step.ensures.ok c.step.ensures.err)

pub returns-clause-no_loop : goal.returns-clause-no_loop
returns-clause-no_loop c =
    let after : IsMixed (mixed c.step.new.self c.self.inside.heard.items) = step_kept c.mixed_go_on.ensures.events c.step.result c.args.event.now c.self.inside.nodes c.step.new.self c.self.inside.heard.items c.self.invariant.0 c.step.ensures.ok c.step.ensures.accepted c.step.ensures.err in
    (c.mixed_networks_have_no_loop.ensures (mixed c.step.new.self c.self.inside.heard.items) after).0

pub returns-clause-no_forwarding_loop : goal.returns-clause-no_forwarding_loop
returns-clause-no_forwarding_loop c =
    let after : IsMixed (mixed c.step.new.self c.self.inside.heard.items) = step_kept c.mixed_go_on.ensures.events c.step.result c.args.event.now c.self.inside.nodes c.step.new.self c.self.inside.heard.items c.self.invariant.0 c.step.ensures.ok c.step.ensures.accepted c.step.ensures.err in
    (c.mixed_networks_have_no_loop.ensures (mixed c.step.new.self c.self.inside.heard.items) after).1
