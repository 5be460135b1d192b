use Rattle.std.proofs.Common.{◌≡◌, subst}
use Rattle.babel_machine.specs.Worlds.{next_hop_in}
use Rattle.babel_mixed.specs.MixedNetworks.{MixedState}
use Rattle.babel_mixed.specs.Mixed.{IsMixed}
use Rattle.babel_net.specs.Networks.{world_of}
use Rattle.babel_net.proofs.NextHops.{hop_returned}
use Rattle.babel_mixed.proofs.mixed.MixedNetwork.next_hop.Goals as goal

pub returns-clause-returned : goal.returns-clause-returned
returns-clause-returned c =
    subst (λ (n : MixedState). c.hop_of.result ≡ next_hop_in n.ours.configs (world_of n.ours) c.args.prefix.now c.args.node) c.self.view_is
    (hop_returned c.self.inside.nodes c.self.inside.owners.nodes c.args.node c.args.prefix.now c.selected-selected.result c.hop_of.result c.self.invariant.1 c.selected-selected.ensures c.hop_of.ensures)

pub returns-clause-no_loop : goal.returns-clause-no_loop
returns-clause-no_loop c = (c.mixed_networks_have_no_loop.ensures c.args.self.now (subst IsMixed c.self.view_is c.self.invariant.0)).0
