-- The digits of a number: up to five decimal ones, and up to four hexadecimal ones.
use Rattle.std.proofs.Common.{◌≡◌, ℕ, suc, ⊎_elim, append-nil, ◌+◌, ◌/◌, ◌%◌, ◌^◌, ◌<◌, ◌≤◌, Bool, true, false, cond, eqb, List, [], ◌∷◌, ◌++◌, refl, sym, ap, ◌∙◌, arith, append_assoc}
use Rattle.std.proofs.lemmas.Fmt.{decimal_digit, decimal_step}
use Rattle.std.proofs.lemmas.Bool.{agree_below_at, cases_lt, eqb-true, lt-ltb, ne_eqb}
use Rattle.std.specs.Prelude.{nat_lt, slice_index, if◌then◌else◌}
use Rattle.hex.specs.Hex.{lower_digits}
use Rattle.babel_value.specs.Lines.{last_digit, last_hex_digit}
use Rattle.std.specs.Fmt.{decimal, digits, digits_onto, digit_glyph}

-- A number in decimal, and nothing for 0.
abbrev front : ℕ → List ℕ
front n = if nat_lt 0 n then decimal n else []

decimal_last : (n : ℕ) → n < 65536 → front (n / 10) ++ (48 + n % 10) ∷ [] ≡ decimal n
decimal_last n high = ⊎_elim
    (λ small.
    let none : n / 10 ≡ 0 = omega arith in
    let last : n % 10 ≡ n = omega arith in rw (none, last) (sym (decimal_digit n small)))
    (λ large.
    let some : 0 < n / 10 = omega arith in
    let fits : n < 2 ^ 64 = omega arith in rw (lt-ltb 0 (n / 10) some) (sym (decimal_step n large fits)))
    (cases_lt n 10)

front_last : (n : ℕ) → n < 65536 → front (n / 10) ++ last_digit n ≡ front n
front_last n high = ⊎_elim
    (λ some. rw (lt-ltb 0 n some) (decimal_last n high))
    (λ none. let nothing : n ≡ 0 = omega arith in rw nothing refl)
    (cases_lt 0 n)

module _ (xs ys : List ℕ) (n : ℕ) (high : n < 65536) (is : ys ≡ xs ++ front (n / 10)) where
  grows : ys ++ last_digit n ≡ xs ++ front n
  grows = ap (λ (t : List ℕ). t ++ last_digit n) is ∙ append_assoc xs (front (n / 10)) (last_digit n) ∙ ap (λ (t : List ℕ). xs ++ t) (front_last n high)

  ends : ys ++ (48 + n % 10) ∷ [] ≡ xs ++ decimal n
  ends = ap (λ (t : List ℕ). t ++ (48 + n % 10) ∷ []) is ∙ append_assoc xs (front (n / 10)) _ ∙ ap (λ (t : List ℕ). xs ++ t) (decimal_last n high)

begins : (xs : List ℕ) (n : ℕ) → n < 10 → xs ++ last_digit n ≡ xs ++ front n
begins xs n small =
    let none : n / 10 ≡ 0 = omega arith in grows xs xs n (omega arith) (sym (append-nil xs) ∙ ap (λ (m : ℕ). xs ++ front m) (sym none))

-- One digit more of the number's first ones.
next : (xs ys : List ℕ) (m n : ℕ) → n < 65536 → m ≡ n / 10 → ys ≡ xs ++ front m → ys ++ last_digit n ≡ xs ++ front n
next xs ys m n high same is = grows xs ys n high (is ∙ ap (λ (k : ℕ). xs ++ front k) same)

-- The last digit of a number that isn't 0.
has_last : (n : ℕ) → 0 < n → (48 + n % 10) ∷ [] ≡ last_digit n
has_last n some = rw (lt-ltb 0 n some) refl

pub decimal_of_one : (xs : List ℕ) (n : ℕ) → n < 10 → xs ++ (48 + n % 10) ∷ [] ≡ xs ++ decimal n
decimal_of_one xs n high =
    let last : n % 10 ≡ n = omega arith in rw last (ap (λ (t : List ℕ). xs ++ t) (sym (decimal_digit n high)))

pub decimal_of_two : (xs : List ℕ) (n : ℕ) → 10 ≤ n → n < 100
    → (xs ++ (48 + (n / 10) % 10) ∷ []) ++ (48 + n % 10) ∷ [] ≡ xs ++ decimal n
decimal_of_two xs n low high =
    let one = ap (λ (t : List ℕ). xs ++ t) (has_last (n / 10) (omega arith)) ∙ begins xs (n / 10) (omega arith) in
    ends xs _ n (omega arith) one

pub decimal_of_three : (xs : List ℕ) (n : ℕ) → 100 ≤ n → n < 1000
    → ((xs ++ (48 + (n / 100) % 10) ∷ []) ++ (48 + (n / 10) % 10) ∷ []) ++ (48 + n % 10) ∷ [] ≡ xs ++ decimal n
decimal_of_three xs n low high =
    let one = ap (λ (t : List ℕ). xs ++ t) (has_last (n / 100) (omega arith)) ∙ begins xs (n / 100) (omega arith) in
    let ys = xs ++ (48 + (n / 100) % 10) ∷ [] in
    let two = ap (λ (t : List ℕ). ys ++ t) (has_last (n / 10) (omega arith)) ∙ next xs ys (n / 100) (n / 10) (omega arith) (omega arith) one in
    ends xs _ n (omega arith) two

pub decimal_of_five : (xs : List ℕ) (n : ℕ) → n < 65536
    → ((((xs ++ last_digit (n / 10000)) ++ last_digit (n / 1000)) ++ last_digit (n / 100)) ++ last_digit (n / 10)) ++ (48 + n % 10) ∷ []
    ≡ xs ++ decimal n
decimal_of_five xs n high =
    let one = begins xs (n / 10000) (omega arith) in
    let two = next xs _ (n / 10000) (n / 1000) (omega arith) (omega arith) one in
    let three = next xs _ (n / 1000) (n / 100) (omega arith) (omega arith) two in
    let four = next xs _ (n / 100) (n / 10) (omega arith) (omega arith) three in ends xs _ n high four

from_onto : (n : ℕ) → digits 16 false n ≡ digits_onto 64 16 false n []
unfolding digits
from_onto n = refl

module _ (n : ℕ) (acc : List ℕ) where
  step : (k : ℕ) (b : Bool) → eqb (n / 16) 0 ≡ b →
      digits_onto (suc k) 16 false n acc ≡ cond b (digit_glyph false (n % 16) ∷ acc) (digits_onto k 16 false (n / 16) (digit_glyph false (n % 16) ∷ acc))
  step k b e = ap (λ (t : Bool). cond t (digit_glyph false (n % 16) ∷ acc) (digits_onto k 16 false (n / 16) (digit_glyph false (n % 16) ∷ acc))) e

  last : (k : ℕ) → n < 16 → digits_onto (suc k) 16 false n acc ≡ digit_glyph false (n % 16) ∷ acc
  last k small = let zero_left : n / 16 ≡ 0 = omega arith in step k true (ap (λ (m : ℕ). eqb m 0) zero_left)

  more : (k : ℕ) → 16 ≤ n → digits_onto (suc k) 16 false n acc ≡ digits_onto k 16 false (n / 16) (digit_glyph false (n % 16) ∷ acc)
  more k large = step k false (ne_eqb (n / 16) 0 (λ e. absurd (omega arith)))

pub hex_one : (n : ℕ) → n < 16 → digits 16 false n ≡ digit_glyph false (n % 16) ∷ []
hex_one n high = from_onto n ∙ last n [] 63 high

pub hex_two : (n : ℕ) → 16 ≤ n → n < 256 → digits 16 false n ≡ digit_glyph false (n / 16 % 16) ∷ digit_glyph false (n % 16) ∷ []
hex_two n low high = from_onto n ∙ more n [] 63 low ∙ last (n / 16) _ 62 (omega arith)

pub hex_three : (n : ℕ) → 256 ≤ n → n < 4096 →
    digits 16 false n ≡ digit_glyph false (n / 256 % 16) ∷ digit_glyph false (n / 16 % 16) ∷ digit_glyph false (n % 16) ∷ []
hex_three n low high =
    let e : n / 16 / 16 ≡ n / 256 = omega arith in
    from_onto n ∙ more n [] 63 (omega arith) ∙ more (n / 16) _ 62 (omega arith) ∙ last (n / 16 / 16) _ 61 (omega arith)
    ∙ ap (λ (m : ℕ). digit_glyph false (m % 16) ∷ digit_glyph false (n / 16 % 16) ∷ digit_glyph false (n % 16) ∷ []) e

pub hex_four : (n : ℕ) → 4096 ≤ n → n < 65536 →
    digits 16 false n ≡ digit_glyph false (n / 4096) ∷ digit_glyph false (n / 256 % 16) ∷ digit_glyph false (n / 16 % 16) ∷ digit_glyph false (n % 16) ∷ []
hex_four n low high =
    let e : n / 16 / 16 % 16 ≡ n / 256 % 16 = omega arith in
    let f : n / 16 / 16 / 16 % 16 ≡ n / 4096 = omega arith in
    from_onto n ∙ more n [] 63 (omega arith) ∙ more (n / 16) _ 62 (omega arith) ∙ more (n / 16 / 16) _ 61 (omega arith)
    ∙ last (n / 16 / 16 / 16) _ 60 (omega arith)
    ∙ ap (λ (d : ℕ). digit_glyph false d ∷ digit_glyph false (n / 16 / 16 % 16) ∷ digit_glyph false (n / 16 % 16) ∷ digit_glyph false (n % 16) ∷ []) f
    ∙ ap (λ (d : ℕ). digit_glyph false (n / 4096) ∷ digit_glyph false d ∷ digit_glyph false (n / 16 % 16) ∷ digit_glyph false (n % 16) ∷ []) e

-- ---- the digits before the last one

no_digit : (n : ℕ) → n ≡ 0 → last_hex_digit n ≡ []
no_digit n none = ap last_hex_digit none

a_digit : (n : ℕ) → 0 < n → last_hex_digit n ≡ digit_glyph false (n % 16) ∷ []
a_digit n some = ap (λ (b : Bool). if b then digit_glyph false (n % 16) ∷ [] else []) (lt-ltb 0 n some)

module _ (xs : List ℕ) (n : ℕ) where
  abbrev pushed : List ℕ
  pushed = ((xs ++ last_hex_digit (n / 4096)) ++ last_hex_digit (n / 256)) ++ last_hex_digit (n / 16)

  one_digit : n < 16 → pushed ++ digit_glyph false (n % 16) ∷ [] ≡ xs ++ digits 16 false n
  one_digit high =
      rw (no_digit (n / 4096) (omega arith), no_digit (n / 256) (omega arith), no_digit (n / 16) (omega arith), append-nil, append-nil, append-nil)
      (ap (λ (t : List ℕ). xs ++ t) (sym (hex_one n high)))

  two_digits : 16 ≤ n → n < 256 → pushed ++ digit_glyph false (n % 16) ∷ [] ≡ xs ++ digits 16 false n
  two_digits low high =
      rw (no_digit (n / 4096) (omega arith), no_digit (n / 256) (omega arith), a_digit (n / 16) (omega arith), append-nil, append-nil, append_assoc)
      (ap (λ (t : List ℕ). xs ++ t) (sym (hex_two n low high)))

  three_digits : 256 ≤ n → n < 4096 → pushed ++ digit_glyph false (n % 16) ∷ [] ≡ xs ++ digits 16 false n
  three_digits low high =
      rw (no_digit (n / 4096) (omega arith), a_digit (n / 256) (omega arith), a_digit (n / 16) (omega arith), append-nil, append_assoc, append_assoc)
      (ap (λ (t : List ℕ). xs ++ t) (sym (hex_three n low high)))

  four_digits : 4096 ≤ n → n < 65536 → pushed ++ digit_glyph false (n % 16) ∷ [] ≡ xs ++ digits 16 false n
  four_digits low high =
      let first : n / 4096 % 16 ≡ n / 4096 = omega arith in
      rw (a_digit (n / 4096) (omega arith), a_digit (n / 256) (omega arith), a_digit (n / 16) (omega arith), append_assoc, append_assoc, append_assoc, first)
      (ap (λ (t : List ℕ). xs ++ t) (sym (hex_four n low high)))

  pub hex_of_four : n < 65536 → pushed ++ digit_glyph false (n % 16) ∷ [] ≡ xs ++ digits 16 false n
  hex_of_four high = ⊎_elim one_digit
      (λ two. ⊎_elim (two_digits two) (λ three. ⊎_elim (three_digits three) (λ four. four_digits four high) (cases_lt n 4096)) (cases_lt n 256))
      (cases_lt n 16)

-- ---- the table of `hex`

pub glyph_is_lower : (digit : ℕ) → digit < 16 → digit_glyph false digit ≡ slice_index lower_digits digit
glyph_is_lower digit small = eqb-true _ _ (agree_below_at (λ d. eqb (digit_glyph false d) (slice_index lower_digits d)) (λ _. true) 16 digit refl small)
