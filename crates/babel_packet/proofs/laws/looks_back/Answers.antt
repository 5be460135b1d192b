-- Each look-back asks the places in turn.
use Rattle.std.proofs.Common.{None, refl}
use Rattle.babel_packet.specs.NextHops.{named_hop4, named_hop6}
use Rattle.babel_packet.specs.LookBack.{own_default, default_before, own_router, router_before, source4, source6, hop4_before, hop6_before}
use Rattle.babel_packet.proofs.Latests.{finds_latest}
use Rattle.babel_packet.proofs.laws.looks_back.Goals as goal

pub returns-clause-default_prefix : goal.returns-clause-default_prefix
returns-clause-default_prefix c =
    λ ae size. finds_latest (λ older t. own_default ae size (default_before ae size older) t.kind t.payload) None (default_before ae size) refl
    (λ t older. refl)

pub returns-clause-router_id : goal.returns-clause-router_id
returns-clause-router_id c =
    finds_latest (λ older t. own_router (default_before 1 4 older) (default_before 2 16 older) t.kind t.payload) None router_before refl
    (λ t older. refl)

pub returns-clause-next_hop : goal.returns-clause-next_hop
returns-clause-next_hop c =
    λ source. (
      finds_latest (λ older t. named_hop4 t.kind t.payload) (source4 source) (hop4_before source) refl (λ t older. refl),
      finds_latest (λ older t. named_hop6 t.kind t.payload) (source6 source) (hop6_before source) refl (λ t older. refl),
    )
