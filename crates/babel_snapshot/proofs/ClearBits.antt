-- Four octets have no bits past a length if and only if none of them has.
use Rattle.std.specs.Prelude.{◌≡◌, ℕ, ◌-◌, ◌%◌, ◌^◌, Bool, true, false, ◌&&◌, ◌==◌, List, [], ◌∷◌, length, slice_index}
use Rattle.std.specs.Ordering.{is_eq}
use Rattle.std.specs.Cmp.{both_ways, Equal-is, tied_itself}
use Rattle.std.specs.Str.{bytes_eq}
use Rattle.std.specs.Cmp.Lexicographic.{bytes_decides}
use Rattle.std.proofs.Common.{refl, sym, ap, ◌∙◌, arith}
use Rattle.babel_value.specs.declared.addresses.Addr.{Addr}
use Rattle.babel_value.specs.declared.addresses.Addr.TheVariants.{V4}
use Rattle.babel_value.specs.Orders.{octets_cmp, addr_cmp}
use Rattle.babel_value.specs.Prefixes.{cleared, cleared_addr}
use Rattle.babel_value.proofs.OrderLaws.{octets_exact, octets_total, addr_exact}
use Rattle.babel_state.specs.Sameness.{is_same_addr}

same_octets : (xs ys : List ℕ) → bytes_eq xs ys ≡ is_eq (octets_cmp xs ys)
same_octets xs ys =
    both_ways (bytes_eq xs ys) (is_eq (octets_cmp xs ys))
    (λ same. ap is_eq (ap (octets_cmp xs) (sym ((bytes_decides xs ys).0 same)) ∙ tied_itself octets_total xs))
    (λ same. (bytes_decides xs ys).1 (octets_exact xs ys ((Equal-is (octets_cmp xs ys)).0 same)))

and_parts : (a b c d : Bool) → ((a && b) && c) && d ≡ a && (b && (c && (d && true)))
and_parts true true true true = refl
and_parts true true true false = refl
and_parts true true false d = refl
and_parts true false c d = refl
and_parts false b c d = refl

abbrev is_kept : ℕ → ℕ → Bool
is_kept bits octet = octet - octet % 2 ^ (8 - bits) == octet

pub four_clear : (n : ℕ) (xs : List ℕ) → length xs ≡ 4 →
    ((is_kept n (slice_index xs 0) && is_kept (n - 8) (slice_index xs 1)) && is_kept (n - 8 - 8) (slice_index xs 2)) && is_kept (n - 8 - 8 - 8) (slice_index xs 3)
    ≡ is_same_addr (cleared_addr n (V4 xs)) (V4 xs)
four_clear n [] len = absurd (omega arith)
four_clear n (a ∷ []) len = absurd (omega arith)
four_clear n (a ∷ b ∷ []) len = absurd (omega arith)
four_clear n (a ∷ b ∷ c ∷ []) len = absurd (omega arith)
four_clear n (a ∷ b ∷ c ∷ d ∷ []) len =
    and_parts (is_kept n a) (is_kept (n - 8) b) (is_kept (n - 8 - 8) c) (is_kept (n - 8 - 8 - 8) d)
    ∙ same_octets (cleared n (a ∷ b ∷ c ∷ d ∷ [])) (a ∷ b ∷ c ∷ d ∷ [])
four_clear n (a ∷ b ∷ c ∷ d ∷ e ∷ es) len = absurd (omega arith)

pub same_addr : (a b : Addr) → is_same_addr a b ≡ true → a ≡ b
same_addr a b same = addr_exact a b ((Equal-is (addr_cmp a b)).0 same)
