-- The orders of the keys are total, and only equal keys compare as equal.
use Rattle.std.specs.Prelude.{ℕ, List}
use Rattle.std.proofs.Common.{ap}
use Rattle.std.specs.Ordering.{nat_cmp}
use Rattle.std.specs.Cmp.{IsTotalOrder, on_total, then_total, nat_cmp_total}
use Rattle.std.specs.Cmp.Lexicographic.{nat_list_cmp_total}
use Rattle.std.specs.FinMap.{IsAntisymmetric}
use Rattle.std.proofs.lemmas.Map.Lookups.{exact_bytes, exact_unsigned, exact_pairs}
use Rattle.babel_value.specs.declared.addresses.Addr.{Addr}
use Rattle.babel_value.specs.declared.addresses.Addr.TheVariants.{V4, V6}
use Rattle.babel_value.specs.Prefixes.{PrefixValue}
pub use Rattle.babel_value.specs.OrderLaws.{octets_total, addr_total}
use Rattle.babel_value.specs.Orders.{octets_cmp, addr_cmp, prefix_cmp, source_cmp, peer_cmp}

pub octets_exact : IsAntisymmetric octets_cmp
octets_exact = exact_bytes

pub prefix_total : IsTotalOrder prefix_cmp
prefix_total = then_total (on_total (λ p. p.addr) addr_total) (on_total (λ p. p.length) nat_cmp_total)

pub source_total : IsTotalOrder source_cmp
source_total = then_total (on_total (λ s. s.prefix) prefix_total) (on_total (λ s. s.router) nat_list_cmp_total)

pub peer_total : IsTotalOrder peer_cmp
peer_total = then_total (on_total (λ p. p.iface) nat_cmp_total) (on_total (λ p. p.addr) addr_total)

pub addr_exact : IsAntisymmetric addr_cmp
addr_exact (V4 a) (V4 b) tied = ap V4 (exact_bytes a b tied)
addr_exact (V4 a) (V6 b) tied = cc
addr_exact (V6 a) (V4 b) tied = cc
addr_exact (V6 a) (V6 b) tied = ap V6 (exact_bytes a b tied)

pub prefix_exact : IsAntisymmetric prefix_cmp
prefix_exact a b tied =
    let pairs = exact_pairs addr_cmp nat_cmp addr_exact exact_unsigned (a.addr, a.length) (b.addr, b.length) tied in
    ap (λ (p : Addr × ℕ). record { addr = p.0; length = p.1 }) pairs

pub source_exact : IsAntisymmetric source_cmp
source_exact a b tied =
    let pairs = exact_pairs prefix_cmp octets_cmp prefix_exact exact_bytes (a.prefix, a.router) (b.prefix, b.router) tied in
    ap (λ (p : PrefixValue × List ℕ). record { prefix = p.0; router = p.1 }) pairs

pub peer_exact : IsAntisymmetric peer_cmp
peer_exact a b tied =
    let pairs = exact_pairs nat_cmp addr_cmp exact_unsigned addr_exact (a.iface, a.addr) (b.iface, b.addr) tied in
    ap (λ (p : ℕ × Addr). record { iface = p.0; addr = p.1 }) pairs
