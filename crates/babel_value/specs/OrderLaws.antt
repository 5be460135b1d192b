-- The laws that `Ord` and `PartialOrd` ask for (profile): the orders of addresses and of octets are total, and values compare as equal exactly if they are equal.
use Rattle.std.specs.Prelude.{◌≡◌, ℕ, List, ◌∷◌}
use Rattle.std.proofs.Common.{refl, subst}
use Rattle.std.specs.Ordering.{eq_by_cmp, as_partial_cmp}
use Rattle.std.specs.Cmp.{IsTotalOrder, IsPartialOrder, on_total, partial_order_from_agreeing_total}
use Rattle.std.specs.Cmp.Lexicographic.{nat_list_cmp_total, texts_ties}
use Rattle.babel_value.specs.declared.addresses.Addr.{Addr}
use Rattle.babel_value.specs.declared.addresses.Addr.TheVariants.{V4, V6}
use Rattle.babel_value.specs.Orders.{octets_cmp, addr_cmp}
use Rattle.babel_value.specs.contracts.addresses.AddrPartialEq.TheImpl as addrs
use Rattle.babel_value.specs.contracts.router_ids.RouterIdPartialEq.TheImpl as routers

-- The octets of an address after the number of its family, which orders addresses as lists.
abbrev pub tagged : Addr → List ℕ
tagged (V4 octets) = 4 ∷ octets
tagged (V6 octets) = 6 ∷ octets

pub addr_cmp-tagged : (a b : Addr) → octets_cmp (tagged a) (tagged b) ≡ addr_cmp a b
addr_cmp-tagged (V4 a) (V4 b) = refl
addr_cmp-tagged (V4 a) (V6 b) = refl
addr_cmp-tagged (V6 a) (V4 b) = refl
addr_cmp-tagged (V6 a) (V6 b) = refl

pub octets_total : IsTotalOrder octets_cmp
octets_total = nat_list_cmp_total

pub addr_total : IsTotalOrder addr_cmp
addr_total = subst IsTotalOrder (λ i a b. addr_cmp-tagged a b i) (on_total tagged nat_list_cmp_total)

pub addr_ties : (a b : Addr) → (addrs.ghosts).eq a b ≡ eq_by_cmp addr_cmp a b
addr_ties (V4 a) (V4 b) = texts_ties a b
addr_ties (V4 a) (V6 b) = refl
addr_ties (V6 a) (V4 b) = refl
addr_ties (V6 a) (V6 b) = texts_ties a b

pub addr_partial_order : IsPartialOrder (addrs.ghosts).eq (as_partial_cmp addr_cmp)
addr_partial_order = partial_order_from_agreeing_total addr_cmp addr_total (λ a b. refl) addr_ties

pub router_ties : (a b : List ℕ) → (routers.ghosts).eq a b ≡ eq_by_cmp octets_cmp a b
router_ties a b = texts_ties a b

pub router_partial_order : IsPartialOrder (routers.ghosts).eq (as_partial_cmp octets_cmp)
router_partial_order = partial_order_from_agreeing_total octets_cmp octets_total (λ a b. refl) router_ties
