-- Which texts spell a number: those of digits alone that no zero begins.
use Rattle.std.proofs.Common.{◌≡◌, refl, ℕ, ◌^◌, ◌+◌, ◌*◌, ◌-◌, ◌<◌, ◌≤◌, ◌==◌, ◌&&◌, nat_lt, Bool, true, false, List, [], length, take, get_or, sym, ap, subst, ◌∙◌, lit≤, arith, inl, inr, eq-eqb, eqb-true, ltb-true, lt-ltb, Option, Some, None, MatchOption, Result, Ok, Err}
use Rattle.std.proofs.lemmas.Bool.{cases_lt, and_parts, both_ways, and_from, false_from_ne_true}
use Rattle.std.proofs.lemmas.Fmt.{decimal_is_IsNumeral, decimal_digit, first_decimal, decimal-digits_value, decimal_injective}
use Rattle.std.proofs.lemmas.Int.Digits.{digits_value_more}
use Rattle.std.proofs.lemmas.List.{take_all}
use Rattle.std.proofs.lemmas.Str.{digit_value_digit}
use Rattle.std.proofs.lemmas.Str.Parse.{IsNumeralModel, numerals_by_value, tells_digits, tells_by_index, digit_at, digits_value-take-le}
use Rattle.std.specs.Str.Parse.{IsNumeral, digits_value}
use Rattle.std.specs.Int.{IsInRange}
use Rattle.std.specs.Fmt.{decimal}
use Rattle.std.specs.Result.{result_ok, OkIff}
use Rattle.babel_text.specs.Readings.{Reads}
use Rattle.babel_text.specs.Numbers.{IsNumberText}

-- The text begins with a zero that more follows.
abbrev pub has_leading_zero : List ℕ → Bool
has_leading_zero text = get_or text 0 0 == 48 && nat_lt 1 (length text)

-- No decimal does.
no_leading_zero : (n : ℕ) → n < 2 ^ 64 → ¬ (has_leading_zero (decimal n) ≡ true)
no_leading_zero n small front =
    let (is_zero, is_long) = and_parts (get_or (decimal n) 0 0 == 48) _ front in
    let same = eqb-true (get_or (decimal n) 0 0) 48 is_zero in
    let long = ltb-true 1 (length (decimal n)) is_long in
    elim (cases_lt n 10) [
      | inl one ↦ let short = ap length (decimal_digit n one) in omega arith
      | inr more ↦ let first = first_decimal n (omega arith) small in omega arith
    ]

pub no_number : (text : List ℕ) → has_leading_zero text ≡ true → (n : ℕ) → ¬ (IsNumberText 64 text n)
no_number text front n spelled = no_leading_zero n spelled.0 (rw spelled.1 at front)

-- A text that is no numeral spells no number, and neither does one that is empty.
pub not_spelled : (text : List ℕ) → ¬ (IsNumeral 10 text × (digits_value 10 text < 2 ^ 64)) → (n : ℕ) → ¬ (IsNumberText 64 text n)
not_spelled text h n spelled =
    let (numeral, value) = decimal_is_IsNumeral n spelled.0 in
    h (rw spelled.1 (numeral, rw value spelled.0))

pub empty_spells_none : (n : ℕ) → ¬ (IsNumberText 64 [] n)
empty_spells_none = not_spelled [] (λ h. absurd (omega (arith, h.0.0)))

module _ (text : List ℕ) (front : has_leading_zero text ≡ false) where
  number_read : IsNumeral 10 text → digits_value 10 text < 2 ^ 64 → IsNumberText 64 text (digits_value 10 text)
  number_read numeral small =
      let alone : get_or text 0 0 ≡ 48 → length text ≡ 1 = λ e.
      elim (cases_lt 1 (length text)) [
        | inl more ↦ absurd (both_ways _ front (and_from _ _ (eq-eqb _ 48 e) (lt-ltb _ _ more)))
        | inr one ↦ let some = numeral.0 in omega arith
      ] in
      (small, sym (decimal-digits_value (numerals_by_value _ tells_digits) text numeral.1 numeral.0 alone small))

  pub number_reads : (r : Option ℕ) → MatchOption r (¬ (IsNumeral 10 text × (digits_value 10 text < 2 ^ 64))) (λ value. IsNumeral 10 text × (digits_value 10 text < 2 ^ 64) × (value ≡ digits_value 10 text)) → Reads (IsNumberText 64) text r
  number_reads (Some n) h = rw h.2 (number_read h.0 h.1)
  number_reads None h = not_spelled text h

-- ---- digits that are read one after another

by_index : IsNumeralModel (λ ds. (i : ℕ) → i < length ds → IsInRange 48 57 (get_or ds i 0)) (digits_value 10)
by_index = numerals_by_value _ tells_by_index

-- A digit more, which is the value's last one.
pub value_goes : (ds : List ℕ) (i value : ℕ) → i < length ds → IsInRange 48 57 (get_or ds i 0) → value ≡ digits_value 10 (take i ds) →
    value * 10 + (get_or ds i 0 - 48) ≡ digits_value 10 (take (i + 1) ds)
value_goes ds i value within digit so =
    omega (arith, ap (λ v. v * 10) so, digit_value_digit (get_or ds i 0) digit, digits_value_more 10 ds i within)

pub in_range_goes : (ds : List ℕ) (i : ℕ) → ((k : ℕ) → k < i → IsInRange 48 57 (get_or ds k 0)) → IsInRange 48 57 (get_or ds i 0) → (k : ℕ) → k < i + 1 → IsInRange 48 57 (get_or ds k 0)
in_range_goes ds i before here k below =
    elim (cases_lt k i) [
      | inl less ↦ before k less
      | inr not_less ↦ let same : i ≡ k = omega arith in subst (λ j. IsInRange 48 57 (get_or ds j 0)) same here
    ]

pub all_are_digits : (ds : List ℕ) → 0 < length ds → ((k : ℕ) → k < length ds → IsInRange 48 57 (get_or ds k 0)) → IsNumeral 10 ds
all_are_digits ds some digits = (some, by_index.to ds digits)

-- An octet that isn't a digit, or a value that is too large.
pub none_goes : (ds : List ℕ) (i value : ℕ) → i < length ds → value ≡ digits_value 10 (take i ds) →
    ¬ (IsInRange 48 57 (get_or ds i 0) × (value * 10 + (get_or ds i 0 - 48) < 2 ^ 64)) → ¬ (IsNumeral 10 ds × (digits_value 10 ds < 2 ^ 64))
none_goes ds i value within so none (numeral, small) =
    let digit = digit_at ds i numeral.1 within in
    none (digit, omega (arith, value_goes ds i value within digit so, digits_value-take-le 10 ds (i + 1) (lit≤ tt), small))

-- The last digit, of which the number of all digits is made.
pub last_goes : (ds : List ℕ) (i value : ℕ) → length ds ≡ i + 1 → ((k : ℕ) → k < i → IsInRange 48 57 (get_or ds k 0)) → value ≡ digits_value 10 (take i ds) → (r : Option ℕ) →
    MatchOption r (¬ (IsInRange 48 57 (get_or ds i 0) × (value * 10 + (get_or ds i 0 - 48) < 2 ^ 64))) (λ next. IsInRange 48 57 (get_or ds i 0) × (next ≡ value * 10 + (get_or ds i 0 - 48)) × (next < 2 ^ 64)) →
    MatchOption r (¬ (IsNumeral 10 ds × (digits_value 10 ds < 2 ^ 64))) (λ number. IsNumeral 10 ds × (digits_value 10 ds < 2 ^ 64) × (number ≡ digits_value 10 ds))
last_goes ds i value last before so None none = none_goes ds i value (omega arith) so none
last_goes ds i value last before so (Some number) (digit, is, small) =
    let whole = is ∙ value_goes ds i value (omega arith) digit so ∙ ap (digits_value 10) (take_all (i + 1) ds (omega arith)) in
    (all_are_digits ds (omega arith) (λ k below. in_range_goes ds i before digit k (omega arith)), subst (λ n. n < 2 ^ 64) whole small, whole)

-- Two digits, of which the first one is no zero.
pub two_spelled : (text : List ℕ) → length text ≡ 2 → (r : Option ℕ) →
    MatchOption r (¬ (IsInRange 49 57 (get_or text 0 0) × IsInRange 48 57 (get_or text 1 0))) (λ n. IsInRange 49 57 (get_or text 0 0) × IsInRange 48 57 (get_or text 1 0) × (n ≡ (get_or text 0 0 - 48) * 10 + (get_or text 1 0 - 48))) →
    Reads (IsNumberText 64) text r
two_spelled text two None none = λ n spelled.
    let is : IsNumeral 10 text = rw spelled.1 (decimal_is_IsNumeral n spelled.0).0 in
    let first = digit_at text 0 is.1 (omega (arith, two)) in
    let second = digit_at text 1 is.1 (omega (arith, two)) in
    elim (cases_lt (get_or text 0 0) 49) [
      | inl less ↦
          let zero : get_or text 0 0 ≡ 48 = omega (arith, less, first.0) in
          no_number text (and_from _ _ (eq-eqb _ 48 zero) (lt-ltb 1 (length text) (omega (arith, two)))) n spelled
      | inr not_less ↦ none ((not_less, first.1), second)
    ]
two_spelled text two (Some n) (first, second, is) =
    let ten : IsInRange 48 57 (get_or text 0 0) = (omega (arith, first.0), first.1) in
    let tens = value_goes text 0 0 (omega (arith, two)) ten refl in
    let whole = is ∙ value_goes text 1 (get_or text 0 0 - 48) (omega (arith, two)) second (omega (arith, tens)) ∙ ap (digits_value 10) (take_all 2 text (omega (arith, two))) in
    let numeral = all_are_digits text (omega (arith, two)) (λ k below. in_range_goes text 1 (in_range_goes text 0 (λ k below. absurd (omega (arith, below))) ten) second k (omega (arith, two, below))) in
    let front = false_from_ne_true (has_leading_zero text) (λ begins. let zero = eqb-true (get_or text 0 0) 48 (and_parts (get_or text 0 0 == 48) _ begins).0 in omega (arith, zero, first.0)) in
    let small : digits_value 10 text < 2 ^ 64 = omega (arith, whole, is, first.1, second.1) in
    rw whole (number_read text front numeral small)

-- A number that is read as one of fewer bits.
pub number_narrowed : {E : Type 0} (bits : ℕ) (text : List ℕ) (n : ℕ) (r : Result ℕ E) → 2 ^ bits ≤ 2 ^ 64 → IsNumberText 64 text n → OkIff r (n < 2 ^ bits) n → Reads (IsNumberText bits) text (result_ok r)
number_narrowed bits text n (Ok m) fits spelled h = rw h.1 (h.0, spelled.1)
number_narrowed bits text n (Err e) fits spelled h = λ m (small, same).
    let equal = decimal_injective m n (omega arith) spelled.0 (sym same ∙ spelled.1) in
    h (rw equal at small)
