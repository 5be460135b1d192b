-- The first bits of an IPv4 address, octet by octet.
use Rattle.std.proofs.Common.{◌≡◌, ℕ, ◌-◌, ◌%◌, ◌^◌, ◌<◌, ◌≤◌, List, [], ◌∷◌, length, get_or, true, refl, sym, ap, subst, ◌∙◌, arith}
use Rattle.std.proofs.Math.Nat.{mod-eq_of_lt}
use Rattle.std.specs.Ordering.{is_eq}
use Rattle.std.specs.Cmp.{tied_itself}
use Rattle.babel_value.specs.declared.addresses.Addr.TheVariants.{V4}
use Rattle.babel_value.specs.Prefixes.{cleared}
use Rattle.babel_value.proofs.OrderLaws.{addr_total}
use Rattle.babel_state.specs.Sameness.{is_same_addr}
use Rattle.babel_state.specs.Addresses.{is_in_network}

pub cleared_four : (bits : ℕ) (xs : List ℕ) → length xs ≡ 4 →
    (get_or xs 0 0 - get_or xs 0 0 % 2 ^ (8 - bits)) ∷ (get_or xs 1 0 - get_or xs 1 0 % 2 ^ (8 - (bits - 8))) ∷ (get_or xs 2 0 - get_or xs 2 0 % 2 ^ (8 - (bits - 8 - 8))) ∷ (get_or xs 3 0 - get_or xs 3 0 % 2 ^ (8 - (bits - 8 - 8 - 8))) ∷ [] ≡ cleared bits xs
cleared_four bits [] four = cc
cleared_four bits (a ∷ []) four = cc
cleared_four bits (a ∷ b ∷ []) four = cc
cleared_four bits (a ∷ b ∷ c ∷ []) four = cc
cleared_four bits (a ∷ b ∷ c ∷ d ∷ []) four = refl
cleared_four bits (a ∷ b ∷ c ∷ d ∷ e ∷ es) four = cc

-- Of at most 24 bits none is in the last octet.
last_cleared : (bits x : ℕ) → bits ≤ 24 → x < 256 → x - x % 2 ^ (8 - (bits - 8 - 8 - 8)) ≡ 0
last_cleared bits x few small =
    let none : 8 - (bits - 8 - 8 - 8) ≡ 8 = omega (arith, few) in
    let whole : x % 2 ^ 8 ≡ x = mod-eq_of_lt small in
    let left : x - x % 2 ^ 8 ≡ 0 = omega (arith, whole) in
    ap (λ n. x - x % 2 ^ n) none ∙ left

-- Two addresses with the same first three octets have the same first bits, if those are at most 24.
pub share_three : (bits : ℕ) (xs ys : List ℕ) → length xs ≡ 4 → length ys ≡ 4 → bits ≤ 24 → get_or xs 3 0 < 256 → get_or ys 3 0 < 256 →
    get_or xs 0 0 ≡ get_or ys 0 0 → get_or xs 1 0 ≡ get_or ys 1 0 → get_or xs 2 0 ≡ get_or ys 2 0 → true ≡ is_in_network xs (ys, bits)
share_three bits xs ys four_x four_y few small_x small_y first second third =
    let last = last_cleared bits (get_or xs 3 0) few small_x ∙ sym (last_cleared bits (get_or ys 3 0) few small_y) in
    let same : cleared bits xs ≡ cleared bits ys =
    sym (cleared_four bits xs four_x)
    ∙ (λ i. (first i - first i % 2 ^ (8 - bits)) ∷ (second i - second i % 2 ^ (8 - (bits - 8))) ∷ (third i - third i % 2 ^ (8 - (bits - 8 - 8))) ∷ last i ∷ [])
    ∙ cleared_four bits ys four_y in
    sym (subst (λ l. is_same_addr (V4 (cleared bits xs)) (V4 l) ≡ true) same (ap is_eq (tied_itself addr_total (V4 (cleared bits xs)))))
