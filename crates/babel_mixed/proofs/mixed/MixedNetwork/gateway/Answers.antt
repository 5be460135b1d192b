use Rattle.std.proofs.Common.{◌≡◌, subst}
use Rattle.babel_machine.specs.ForeignWorlds.{gateway_in}
use Rattle.babel_mixed.specs.MixedNetworks.{MixedState}
use Rattle.babel_mixed.specs.Mixed.{IsMixed}
use Rattle.babel_net.specs.Networks.{world_of}
use Rattle.babel_mixed.proofs.Gateways.{gateway_returned}
use Rattle.babel_mixed.proofs.mixed.MixedNetwork.gateway.Goals as goal

pub returns-clause-returned : goal.returns-clause-returned
returns-clause-returned c =
    subst (λ (n : MixedState). c.gateway_of.result ≡ gateway_in n.ours.configs (world_of n.ours) c.args.prefix.now c.args.node) c.self.view_is
    (gateway_returned c.self.inside.nodes c.self.inside.owners.nodes c.args.node c.args.prefix.now c.selected-selected.result c.gateway_of.result c.self.invariant.1 c.selected-selected.ensures c.gateway_of.ensures)

pub returns-clause-no_forwarding_loop : goal.returns-clause-no_forwarding_loop
returns-clause-no_forwarding_loop c = (c.mixed_networks_have_no_loop.ensures c.args.self.now (subst IsMixed c.self.view_is c.self.invariant.0)).1
