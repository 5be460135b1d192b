-- How the number of binary digits falls as a number is halved.
use Rattle.std.proofs.Common.{◌≡◌, ℕ, zero, suc, ◌+◌, ◌/◌, ◌<◌, ◌≤◌, Bool, true, false, cond, eqb, refl, ap, arith, eqb-true, ne_eqb}
use Rattle.std.proofs.lemmas.Bool.{eqb-false}
use Rattle.babel_table.specs.Digits.{halvings, binary_digits}

-- A limit that is no less than the number doesn't matter.
same_halvings : (a b n : ℕ) → n ≤ a → n ≤ b → halvings a n ≡ halvings b n
same_halvings zero zero n p q = refl
same_halvings zero (suc b) n p q = let none : n ≡ 0 = omega arith in rw none refl
same_halvings (suc a) zero n p q = let none : n ≡ 0 = omega arith in rw none refl
same_halvings (suc a) (suc b) n p q =
    by (eqb n 0) refl (λ some. same_halvings a b (n / 2) (omega arith) (omega arith))
  where
    by : (t : Bool) → eqb n 0 ≡ t → ((n ≡ 0 → ⊥) → halvings a (n / 2) ≡ halvings b (n / 2)) → cond t 0 (halvings a (n / 2) + 1) ≡ cond t 0 (halvings b (n / 2) + 1)
    by true e rest = refl
    by false e rest = ap (λ h. h + 1) (rest (eqb-false n 0 e))

halvings_rise : (a m n : ℕ) → m ≤ n → halvings a m ≤ halvings a n
halvings_rise zero m n p = omega arith
halvings_rise (suc a) m n p = by (eqb m 0) (eqb n 0) refl refl (halvings_rise a (m / 2) (n / 2) (omega arith))
  where
    by : (s t : Bool) → eqb m 0 ≡ s → eqb n 0 ≡ t → halvings a (m / 2) ≤ halvings a (n / 2) → cond s 0 (halvings a (m / 2) + 1) ≤ cond t 0 (halvings a (n / 2) + 1)
    by true t d e rest = omega arith
    by false true d e rest =
        let some : m ≡ 0 → ⊥ = eqb-false m 0 d in let none : n ≡ 0 = eqb-true n 0 e in absurd (omega arith)
    by false false d e rest = omega arith

-- What is left after a step of the search has a digit less.
pub binary_digits_halved : (n left : ℕ) → 0 < n → left ≤ n / 2 → binary_digits left + 1 ≤ binary_digits n
binary_digits_halved zero left some half = absurd (omega arith)
binary_digits_halved (suc n) left some half =
    let h = suc n / 2 in
    let whole : binary_digits (suc n) ≡ halvings n h + 1 = ap (λ t. cond t 0 (halvings n h + 1)) (ne_eqb (suc n) 0 (λ e. omega arith)) in
    let part : binary_digits left ≡ halvings left left = refl in
    omega (arith, same_halvings n h h (omega arith) (omega arith), same_halvings left h left (omega arith) half, halvings_rise h left h half)
