use Rattle.std.proofs.Common.{◌≡◌, List, [], None, refl, sym, ap, ◌∙◌, subst}
use Rattle.babel_machine.specs.Acceptance.{net_fault}
use Rattle.babel_machine.specs.Owners.{owner_of}
use Rattle.babel_state.specs.Seen.{UpdateValue}
use Rattle.babel_net.specs.Networks.{NetworkState}
use Rattle.babel_net.specs.Owned.{AreOwners}
use Rattle.babel_net.proofs.MakingFaults.{no_fault}
use Rattle.babel_mixed.specs.Mixed.{IsMixed}
use Rattle.babel_mixed.specs.MixedNetworks.{first_mixed}
use Rattle.babel_mixed.proofs.HeardNetworks.{mixed}
use Rattle.babel_mixed.proofs.mixed.MixedNetwork.new.Goals as goal

pub invariant_of-result : goal.invariant_of-result
invariant_of-result c =
    let configs = c.args.configs.items in
    let free : net_fault configs ≡ None = no_fault (net_fault configs) (c.in_ok-nodes.ensures.valid refl) in
    let net : IsMixed (first_mixed configs) = c.mixed_begin.ensures configs free c.in_ok-nodes.ensures.words in
    let begun : IsMixed (mixed c.in_ok-nodes.nodes []) = subst (λ (n : NetworkState). IsMixed (mixed n [])) (sym c.in_ok-nodes.ensures.ok) net in
    let first : IsMixed (mixed c.in_ok-nodes.nodes c.new-3.result.items) = subst (λ (us : List UpdateValue). IsMixed (mixed c.in_ok-nodes.nodes us)) (sym c.new-3.ensures.items) begun in
    let owners : AreOwners c.in_ok-nodes.nodes.configs c.in-Ok.owners.nodes =
    λ addr. c.in-Ok.ensures addr ∙ ap (λ cs. owner_of cs addr) c.configs.ensures in
    (first, owners)
