use Rattle.std.proofs.Common.{◌≡◌, subst}
use Rattle.babel_machine.specs.Worlds.{router_in}
use Rattle.babel_mixed.specs.MixedNetworks.{MixedState}
use Rattle.babel_mixed.specs.Mixed.{IsMixed}
use Rattle.babel_net.specs.Networks.{world_of}
use Rattle.babel_net.proofs.NextHops.{router_returned}
use Rattle.babel_mixed.proofs.mixed.MixedNetwork.router.Goals as goal

pub returns-clause-returned : goal.returns-clause-returned
returns-clause-returned c =
    subst (λ (n : MixedState). c.router_of.result ≡ router_in (world_of n.ours) c.args.prefix.now c.args.node) c.self.view_is
    (router_returned c.self.inside.nodes c.args.node c.args.prefix.now c.selected-selected.result c.router_of.result c.selected-selected.ensures c.router_of.ensures)

pub returns-clause-no_loop : goal.returns-clause-no_loop
returns-clause-no_loop c = (c.mixed_networks_have_no_loop.ensures c.args.self.now (subst IsMixed c.self.view_is c.self.invariant.0)).0

pub returns-clause-no_forwarding_loop : goal.returns-clause-no_forwarding_loop
returns-clause-no_forwarding_loop c = (c.mixed_networks_have_no_loop.ensures c.args.self.now (subst IsMixed c.self.view_is c.self.invariant.0)).1
