-- The order of the route table's entries (profile): by prefix, then neighbour.
use Rattle.std.proofs.Common.{ap}
use Rattle.std.specs.declared.cmp.Ordering.{Ordering}
use Rattle.std.specs.Ordering.{ordering_then}
use Rattle.std.specs.Cmp.{IsTotalOrder, on_total, then_total}
use Rattle.std.specs.FinMap.{IsAntisymmetric}
use Rattle.std.proofs.lemmas.Map.Lookups.{exact_pairs}
use Rattle.babel_value.specs.declared.keys.Peer.{Peer}
use Rattle.babel_value.specs.Prefixes.{PrefixValue}
use Rattle.babel_value.specs.Orders.{prefix_cmp, peer_cmp}
use Rattle.babel_value.proofs.OrderLaws.{prefix_total, peer_total, prefix_exact, peer_exact}
use Rattle.babel_choice.specs.declared.entries.RouteKey.{RouteKey}

abbrev pub route_cmp : RouteKey → RouteKey → Ordering
route_cmp a b = ordering_then (prefix_cmp a.prefix b.prefix) (peer_cmp a.peer b.peer)

pub route_total : IsTotalOrder route_cmp
route_total = then_total (on_total (λ k. k.prefix) prefix_total) (on_total (λ k. k.peer) peer_total)

pub route_exact : IsAntisymmetric route_cmp
route_exact a b tied =
    let pairs = exact_pairs prefix_cmp peer_cmp prefix_exact peer_exact (a.prefix, a.peer) (b.prefix, b.peer) tied in
    ap (λ (p : PrefixValue × Peer). record { prefix = p.0; peer = p.1 }) pairs
