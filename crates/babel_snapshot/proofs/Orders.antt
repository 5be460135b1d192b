-- The octets of sources are in the order of the sources.
use Rattle.std.specs.Prelude.{◌≡◌, ℕ, List, [], ◌∷◌, ◌++◌, length, replicate}
use Rattle.std.specs.declared.cmp.Ordering.{Ordering}
use Rattle.std.specs.declared.cmp.Ordering.TheVariants.{Less, Equal, Greater}
use Rattle.std.specs.Ordering.{nat_cmp, ordering_then}
use Rattle.std.proofs.Common.{refl, sym, ap, ◌∙◌, arith}
use Rattle.babel_value.specs.declared.addresses.Addr.{Addr}
use Rattle.babel_value.specs.declared.addresses.Addr.TheVariants.{V4, V6}
use Rattle.babel_value.specs.Orders.{octets_cmp, addr_cmp}
use Rattle.babel_snapshot.specs.Octets.{addr_octets}
use Rattle.babel_snapshot.specs.SnapshotLaws.{addr_len, wanted_len, OctetsAreInOrder}
use Rattle.babel_snapshot.proofs.RecordsWritten.{addr_octets_len}

then_assoc : (a b c : Ordering) → ordering_then a (ordering_then b c) ≡ ordering_then (ordering_then a b) c
then_assoc Less b c = refl
then_assoc Equal b c = refl
then_assoc Greater b c = refl

then_equal : (r : Ordering) → ordering_then r Equal ≡ r
then_equal Less = refl
then_equal Equal = refl
then_equal Greater = refl

split : (xs ys us vs : List ℕ) → length xs ≡ length ys → octets_cmp (xs ++ us) (ys ++ vs) ≡ ordering_then (octets_cmp xs ys) (octets_cmp us vs)
split [] [] us vs e = refl
split [] (y ∷ ys) us vs e = absurd (omega (arith, e))
split (x ∷ xs) [] us vs e = absurd (omega (arith, e))
split (x ∷ xs) (y ∷ ys) us vs e =
    ap (ordering_then (nat_cmp x y)) (split xs ys us vs (omega (arith, e))) ∙ then_assoc (nat_cmp x y) (octets_cmp xs ys) (octets_cmp us vs)

addrs_in_order : (a b : Addr) → addr_len a ≡ wanted_len a → addr_len b ≡ wanted_len b → octets_cmp (addr_octets a) (addr_octets b) ≡ addr_cmp a b
addrs_in_order (V4 o) (V4 p) e f = split o p (replicate 12 0) (replicate 12 0) (e ∙ sym f) ∙ then_equal (octets_cmp o p)
addrs_in_order (V4 o) (V6 p) e f = refl
addrs_in_order (V6 o) (V4 p) e f = refl
addrs_in_order (V6 o) (V6 p) e f = refl

pub sources_in_order : OctetsAreInOrder
sources_in_order a b one other =
    split (addr_octets a.prefix.addr) (addr_octets b.prefix.addr) (a.prefix.length ∷ a.router) (b.prefix.length ∷ b.router) (addr_octets_len a.prefix.addr one.addr ∙ sym (addr_octets_len b.prefix.addr other.addr))
    ∙ ap (λ r. ordering_then r (ordering_then (nat_cmp a.prefix.length b.prefix.length) (octets_cmp a.router b.router))) (addrs_in_order a.prefix.addr b.prefix.addr one.addr other.addr)
    ∙ then_assoc (addr_cmp a.prefix.addr b.prefix.addr) (nat_cmp a.prefix.length b.prefix.length) (octets_cmp a.router b.router)
