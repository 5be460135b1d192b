use Rattle.std.proofs.Common.{IsNone, ◌≡◌, ◌↔◌, Option, List, ℕ, sym, subst}
use Rattle.babel_machine.specs.Worlds.{next_hop_in, router_in}
use Rattle.babel_net.specs.Networks.{NetworkState, world_of}
use Rattle.babel_net.specs.Invariants.{IsNetwork}
use Rattle.babel_net.proofs.NextHops.{router_returned, none_alike}
use Rattle.babel_net.proofs.network.Network.router.Goals as goal

pub returns-clause-returned : goal.returns-clause-returned
returns-clause-returned c =
    subst (λ (n : NetworkState). c.router_of.result ≡ router_in (world_of n) c.args.prefix.now c.args.node) c.self.view_is
    (router_returned c.self.inside.nodes c.args.node c.args.prefix.now c.selected-selected.result c.router_of.result c.selected-selected.ensures c.router_of.ensures)

pub returns-clause-next_hop : goal.returns-clause-next_hop
returns-clause-next_hop c =
    let net : IsNetwork c.args.self.now = subst IsNetwork c.self.view_is c.self.invariant.0 in
    let is : c.router_of.result ≡ router_in (world_of c.args.self.now) c.args.prefix.now c.args.node =
    subst (λ (n : NetworkState). c.router_of.result ≡ router_in (world_of n) c.args.prefix.now c.args.node) c.self.view_is
    (router_returned c.self.inside.nodes c.args.node c.args.prefix.now c.selected-selected.result c.router_of.result c.selected-selected.ensures c.router_of.ensures) in
    let alike = none_alike c.args.self.now c.args.node c.args.prefix.now net in
    subst (λ (o : Option (List ℕ)). IsNone o ↔ IsNone (next_hop_in c.args.self.now.configs (world_of c.args.self.now) c.args.prefix.now c.args.node)) (sym is) (alike.1, alike.0)

pub returns-clause-one_origin : goal.returns-clause-one_origin
returns-clause-one_origin c =
    let net : IsNetwork c.args.self.now = subst IsNetwork c.self.view_is c.self.invariant.0 in
    λ prefix origin. c.sound_networks_have_no_loop.ensures.one_origin c.args.self.now.configs (world_of c.args.self.now) prefix origin net.sound
