-- A number before the first blank, by the digits before it.
use Rattle.std.proofs.Common.{◌≡◌, ℕ, ◌^◌, ◌+◌, ◌*◌, ◌-◌, ◌<◌, ◌≤◌, ◌==◌, false, true, List, take, length, length-take-le, get_or, subst, arith, Bool, refl, sym, ap, eqb-true, inl, inr}
use Rattle.std.proofs.lemmas.Bool.{cases_lt}
use Rattle.std.proofs.lemmas.List.{get_or-take, take-take}
use Rattle.std.specs.List.{position_or_len}
use Rattle.std.specs.Int.{IsInRange}
use Rattle.std.specs.Str.Parse.{IsNumeral, digits_value}
use Rattle.babel_text.specs.Fields.{HasBlank, before_blank}
use Rattle.babel_text.specs.Numbers.{IsNumberText}
use Rattle.babel_text.proofs.Decimals.{all_are_digits, none_goes, not_spelled}
use Rattle.babel_text.proofs.FirstBlanks.{blank_follows}

other_octet : (octet : ℕ) → (octet ≡ 32 → ⊥) → (octet == 32) ≡ false
other_octet octet other = by (octet == 32) refl
  where
    by : (b : Bool) → (octet == 32) ≡ b → b ≡ false
    by false is = refl
    by true is = absurd (other (eqb-true octet 32 is))

-- A digit isn't a blank.
not_blank : (octet : ℕ) → IsInRange 48 57 octet → (octet == 32) ≡ false
not_blank octet digit = other_octet octet (λ same. omega (arith, same, digit))

pub no_blanks : (text : List ℕ) (i : ℕ) → ((k : ℕ) → k < i → IsInRange 48 57 (get_or text k 0)) → (k : ℕ) → k < i → (get_or text k 0 == 32) ≡ false
no_blanks text i digits k less = not_blank (get_or text k 0) (digits k less)

-- The first octets are a numeral.
pub front_is_numeral : (text : List ℕ) (i : ℕ) → 0 < i → i ≤ length text → ((k : ℕ) → k < i → IsInRange 48 57 (get_or text k 0)) → IsNumeral 10 (take i text)
front_is_numeral text i some within digits =
    let len = length-take-le i text within in
    all_are_digits (take i text) (omega (arith, len))
    (λ k less. let before : k < i = omega (arith, len) in subst (λ o. IsInRange 48 57 o) (sym (get_or-take i text k 0 before)) (digits k before))

-- An octet that is no blank ends them.
pub no_number_before : (text : List ℕ) (i value : ℕ) → i < length text → ((k : ℕ) → k < i → IsInRange 48 57 (get_or text k 0)) → (get_or text i 0 ≡ 32 → ⊥) → value ≡ digits_value 10 (take i text) →
    ¬ (IsInRange 48 57 (get_or text i 0) × (value * 10 + (get_or text i 0 - 48) < 2 ^ 64)) → (n : ℕ) → HasBlank text → ¬ (IsNumberText 64 (before_blank text) n)
no_number_before text i value within digits other so none n blank =
    let p = position_or_len (λ octet. octet == 32) text in
    let after : i + 1 ≤ p = blank_follows text (i + 1) before blank in
    let len = length-take-le p text (omega arith) in
    let here = get_or-take p text i 0 (omega arith) in
    not_spelled (before_blank text) (none_goes (before_blank text) i value (omega (arith, len)) (subst (λ l. value ≡ digits_value 10 l) (sym (take-take i p text (omega arith))) so) (rw here none)) n
  where
    before : (k : ℕ) → k < i + 1 → (get_or text k 0 == 32) ≡ false
    before k below = elim (cases_lt k i) [
      | inl less ↦ no_blanks text i digits k less
      | inr not_less ↦ let same : i ≡ k = omega arith in subst (λ j. (get_or text j 0 == 32) ≡ false) same (other_octet (get_or text i 0) other)
    ]

-- It is before the blank here.
pub no_number_here : (text : List ℕ) (i : ℕ) → position_or_len (λ octet. octet == 32) text ≡ i → ((n : ℕ) → ¬ (IsNumberText 64 (take i text) n)) → (n : ℕ) → HasBlank text → ¬ (IsNumberText 64 (before_blank text) n)
no_number_here text i is none n blank = subst (λ l. ¬ (IsNumberText 64 l n)) (ap (λ j. take j text) (sym is)) (none n)
