use Rattle.std.proofs.Common.{IsNone, ◌≡◌, ◌↔◌, Option, sym, subst, ℕ}
use Rattle.babel_machine.specs.Worlds.{next_hop_in, router_in}
use Rattle.babel_net.specs.Networks.{NetworkState, world_of}
use Rattle.babel_net.specs.Invariants.{IsNetwork}
use Rattle.babel_net.proofs.NextHops.{hop_returned, none_alike, next_hop_facts}
use Rattle.babel_net.proofs.network.Network.next_hop.Goals as goal

pub returns-clause-returned : goal.returns-clause-returned
returns-clause-returned c =
    subst (λ (n : NetworkState). c.hop_of.result ≡ next_hop_in n.configs (world_of n) c.args.prefix.now c.args.node) c.self.view_is
    (hop_returned c.self.inside.nodes c.self.inside.owners.nodes c.args.node c.args.prefix.now c.selected-selected.result c.hop_of.result c.self.invariant.1 c.selected-selected.ensures c.hop_of.ensures)

pub returns-clause-router : goal.returns-clause-router
returns-clause-router c =
    let net : IsNetwork c.args.self.now = subst IsNetwork c.self.view_is c.self.invariant.0 in
    let is : c.hop_of.result ≡ next_hop_in c.args.self.now.configs (world_of c.args.self.now) c.args.prefix.now c.args.node =
    subst (λ (n : NetworkState). c.hop_of.result ≡ next_hop_in n.configs (world_of n) c.args.prefix.now c.args.node) c.self.view_is
    (hop_returned c.self.inside.nodes c.self.inside.owners.nodes c.args.node c.args.prefix.now c.selected-selected.result c.hop_of.result c.self.invariant.1 c.selected-selected.ensures c.hop_of.ensures) in
    subst (λ (o : Option ℕ). IsNone o ↔ IsNone (router_in (world_of c.args.self.now) c.args.prefix.now c.args.node)) (sym is)
    (none_alike c.args.self.now c.args.node c.args.prefix.now net)

pub returns-clause-pick : goal.returns-clause-pick
returns-clause-pick c =
    let net : IsNetwork c.args.self.now = subst IsNetwork c.self.view_is c.self.invariant.0 in
    let is : c.hop_of.result ≡ next_hop_in c.args.self.now.configs (world_of c.args.self.now) c.args.prefix.now c.args.node =
    subst (λ (n : NetworkState). c.hop_of.result ≡ next_hop_in n.configs (world_of n) c.args.prefix.now c.args.node) c.self.view_is
    (hop_returned c.self.inside.nodes c.self.inside.owners.nodes c.args.node c.args.prefix.now c.selected-selected.result c.hop_of.result c.self.invariant.1 c.selected-selected.ensures c.hop_of.ensures) in
    next_hop_facts c.next_hops_are_picks.ensures c.args.self.now c.args.node c.args.prefix.now c.hop_of.result net is

pub returns-clause-one_origin : goal.returns-clause-one_origin
returns-clause-one_origin c =
    let net : IsNetwork c.args.self.now = subst IsNetwork c.self.view_is c.self.invariant.0 in
    λ prefix origin. c.sound_networks_have_no_loop.ensures.one_origin c.args.self.now.configs (world_of c.args.self.now) prefix origin net.sound
