use Rattle.std.proofs.Common.{◌≡◌, None, refl, sym, ap, ◌∙◌, subst}
use Rattle.babel_machine.specs.Acceptance.{net_fault}
use Rattle.babel_machine.specs.Owners.{owner_of}
use Rattle.babel_net.specs.Invariants.{IsNetwork}
use Rattle.babel_net.specs.Owned.{AreOwners}
use Rattle.babel_net.specs.Promises.{first_network}
use Rattle.babel_net.proofs.MakingFaults.{no_fault}
use Rattle.babel_net.proofs.network.Network.new.Goals as goal

pub invariant_of-result : goal.invariant_of-result
invariant_of-result c =
    let configs = c.args.configs.items in
    let free : net_fault configs ≡ None = no_fault (net_fault configs) (c.in_ok-nodes.ensures.valid refl) in
    let net : IsNetwork (first_network configs) = c.networks_begin.ensures configs free c.in_ok-nodes.ensures.words in
    let first : IsNetwork c.in_ok-nodes.nodes = subst IsNetwork (sym c.in_ok-nodes.ensures.ok) net in
    let owners : AreOwners c.in_ok-nodes.nodes.configs c.in-Ok.owners.nodes =
    λ addr. c.in-Ok.ensures addr ∙ ap (λ cs. owner_of cs addr) c.configs.ensures in
    (first, owners)
