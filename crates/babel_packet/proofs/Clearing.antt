-- If only zeros follow a prefix, clearing the bits past its length changes one octet at most.
use Rattle.std.proofs.Common.{◌≡◌, ℕ, zero, suc, ◌+◌, ◌-◌, ◌*◌, ◌%◌, ◌^◌, ◌<◌, ◌≤◌, List, [], ◌∷◌, get_or, refl, ap, arith, ◌∙◌}
use Rattle.std.proofs.Math.ListN.{set}
use Rattle.std.proofs.Math.Nat.{mod-one}
use Rattle.babel_value.specs.Prefixes.{cleared}

-- there is nothing but zeros from n on
abbrev pub AreZeros : ℕ → List ℕ → Type 0
AreZeros n xs = (j : ℕ) → n ≤ j → get_or xs j 0 ≡ 0

later_zeros : (n x : ℕ) (xs : List ℕ) → AreZeros (suc n) (x ∷ xs) → AreZeros n xs
later_zeros n x xs h j le = h (suc j) (omega arith)

pub cleared-zeros : (xs : List ℕ) → AreZeros 0 xs → cleared 0 xs ≡ xs
cleared-zeros [] h = refl
cleared-zeros (x ∷ xs) h =
    let first : x ≡ 0 = h 0 (omega arith) in let rest = cleared-zeros xs (λ j le. h (suc j) (omega arith)) in
    let kept : x - x % 2 ^ 8 ≡ x = omega arith in cc

whole_octet : (n r : ℕ) (x : ℕ) (xs : List ℕ) → cleared (8 * suc n + r) (x ∷ xs) ≡ x ∷ cleared (8 * n + r) xs
whole_octet n r x xs =
    let none : 8 - (8 * suc n + r) ≡ 0 = omega arith in let rest : 8 * suc n + r - 8 ≡ 8 * n + r = omega arith in
    rw (none, rest) (ap (λ y. y ∷ cleared (8 * n + r) xs) (rw (mod-one x) (omega arith)))

pub cleared-whole : (n : ℕ) (xs : List ℕ) → AreZeros n xs → cleared (8 * n) xs ≡ xs
cleared-whole zero xs h = cleared-zeros xs h
cleared-whole (suc n) [] h = refl
cleared-whole (suc n) (x ∷ xs) h =
    let step = whole_octet n 0 x xs in let rest = cleared-whole n xs (later_zeros n x xs h) in
    let left : 8 * suc n + 0 ≡ 8 * suc n = omega arith in let right : 8 * n + 0 ≡ 8 * n = omega arith in cc

pub cleared-part : (n r : ℕ) (xs : List ℕ) → 0 < r → r < 8 → AreZeros (suc n) xs →
    cleared (8 * n + r) xs ≡ set xs n (get_or xs n 0 - get_or xs n 0 % 2 ^ (8 - r))
cleared-part n r [] some part h = refl
cleared-part zero r (x ∷ xs) some part h =
    let bits : 8 * 0 + r ≡ r = omega arith in let none : r - 8 ≡ 0 = omega arith in
    let rest = cleared-zeros xs (later_zeros 0 x xs h) in rw (bits, none, rest) refl
cleared-part (suc n) r (x ∷ xs) some part h =
    whole_octet n r x xs ∙ ap (λ ys. x ∷ ys) (cleared-part n r xs some part (later_zeros (suc n) x xs h))
