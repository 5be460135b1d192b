-- Texts of digits, two for each octet, as `hex` reads them: digit by digit, in any order.
use Rattle.std.proofs.Common.{bit_or, slice_set, eqb, true, ◌%◌, ◌≡◌, ℕ, zero, suc, inl, inr, ◌+◌, ◌-◌, ◌*◌, ◌<◌, ◌≤◌, List, [], ◌∷◌, length, None, Some, Option, Result, Ok, Err, refl, sym, ap, ◌∙◌, arith}
use Rattle.std.specs.Prelude.{slice_index, nat_lt, if◌then◌else◌}
use Rattle.std.proofs.lemmas.Bool.{agree_below_at, cases_lt, eqb-true, le-ltb, lt-ltb}
use Rattle.std.proofs.lemmas.List.{get_or-set_other, get_or-set_same}
use Rattle.std.proofs.lemmas.Nat.{le_or_l, le_or_r, or_lt}
use Rattle.std.proofs.lemmas.Option.{none-some}
use Rattle.hex.specs.Hex.{decode_pairs, hex_digit_value, pair_value}
use Rattle.hex.specs.declared.error.FromHexError.{FromHexError}
use Rattle.hex.proofs.Pairs.{cons_byte, decode_pairs-ok_pair}
use Rattle.babel_text.specs.Octets.{digit_number, octets_or_none, value_or_255}

-- The octet of two digits.
abbrev pub joined_at : List ℕ → ℕ → ℕ
joined_at text i = 16 * digit_number (slice_index text (2 * i)) + digit_number (slice_index text (2 * i + 1))

-- The octets up to an index are those of the digits.
abbrev pub AreJoined : List ℕ → List ℕ → ℕ → Type 0
AreJoined text octets count = (i : ℕ) → i < count → slice_index octets i ≡ joined_at text i

abbrev pub AreDigits : List ℕ → ℕ → Type 0
AreDigits text count = (i : ℕ) → i < count → digit_number (slice_index text i) < 16

abbrev pub HasOther : List ℕ → ℕ → Type 0
HasOther text count = (i : ℕ) × (i < count) × (16 ≤ digit_number (slice_index text i))

-- As long as no number was out of range, the octets up to an index are those of the digits. Else one is no digit.
abbrev pub AreRead : List ℕ → List ℕ → ℕ → ℕ → Type 0
AreRead text octets count seen =
    (seen < 16 → AreJoined text octets count × AreDigits text (2 * count)) × (16 ≤ seen → HasOther text (2 * count))

-- ---- how a digit is read

-- Decimal digits are 208 less than 256 above; letters have the bit 32 in lower case, and may have it.
abbrev by_ranges : ℕ → ℕ
by_ranges octet =
    if nat_lt ((octet + 208) % 256) 10 then (octet + 208) % 256
    else if nat_lt ((bit_or octet 32 + 159) % 256) 6 then (bit_or octet 32 + 159) % 256 + 10
    else 255

ranges_are_digits : (octet : ℕ) → octet < 256 → by_ranges octet ≡ digit_number octet
ranges_are_digits octet small = eqb-true _ _ (agree_below_at (λ o. eqb (by_ranges o) (digit_number o)) (λ _. true) 256 octet refl small)

pub letters_are_digits : (octet : ℕ) → octet < 256 → 10 ≤ (octet + 208) % 256 → (bit_or octet 32 + 159) % 256 < 6
    → (bit_or octet 32 + 159) % 256 + 10 ≡ digit_number octet
letters_are_digits octet small other letter = (rw (le-ltb _ _ other, lt-ltb _ _ letter) refl) ∙ ranges_are_digits octet small

pub others_are_none : (octet : ℕ) → octet < 256 → 10 ≤ (octet + 208) % 256 → 6 ≤ (bit_or octet 32 + 159) % 256 → 255 ≡ digit_number octet
others_are_none octet small other neither = (rw (le-ltb _ _ other, le-ltb _ _ neither) refl) ∙ ranges_are_digits octet small

-- ---- the loops

-- The numbers of the digits from an index of the text on.
abbrev pub AreNumbers : List ℕ → ℕ → List ℕ → ℕ → Type 0
AreNumbers text start values count = (i : ℕ) → i < count → slice_index values i ≡ digit_number (slice_index text (start + i))

-- Whether all numbers up to an index are less than 16.
abbrev pub IsSeen : List ℕ → ℕ → ℕ → Type 0
IsSeen values count seen =
    (seen < 16 → (i : ℕ) → i < count → slice_index values i < 16)
    × (16 ≤ seen → (i : ℕ) × (i < count) × (16 ≤ slice_index values i))

pub numbers_more : (text values : List ℕ) (start count value : ℕ) → count < length values → value ≡ digit_number (slice_index text (start + count))
    → AreNumbers text start values count → AreNumbers text start (slice_set values count value) (count + 1)
numbers_more text values start count value room is before i below = elim (cases_lt i count) [
  | inl less ↦ get_or-set_other values count i value 0 (omega arith) ∙ before i less
  | inr not_less ↦
      let same : i ≡ count = omega arith in
      rw same (get_or-set_same values count value 0 room ∙ is)
]

pub seen_more : (values : List ℕ) (count seen value : ℕ) → count < length values → IsSeen values count seen
    → IsSeen (slice_set values count value) (count + 1) (bit_or seen value)
seen_more values count seen value room before =
    let left : seen ≤ bit_or seen value = le_or_l seen value in
    let right : value ≤ bit_or seen value = le_or_r seen value in
    let here : slice_index (slice_set values count value) count ≡ value = get_or-set_same values count value 0 room in (
      λ small i below. elim (cases_lt i count) [
        | inl less ↦ rw (get_or-set_other values count i value 0 (omega arith)) (before.0 (omega arith) i less)
        | inr not_less ↦
            let same : i ≡ count = omega arith in
            rw (same, here) (omega arith)
      ],
      λ large. elim (cases_lt seen 16) [
        | inr was ↦
            let other = before.1 was in
            (other.0, omega arith, rw (get_or-set_other values count other.0 value 0 (omega arith)) other.2)
        | inl fine ↦ elim (cases_lt value 16) [
          | inl is ↦ let both : bit_or seen value < 16 = or_lt 4 seen value fine is in absurd (omega arith)
          | inr bad ↦ (count, omega arith, rw here bad)
        ]
      ],
    )

-- Each two numbers are joined to an octet, which are written from an index on.
abbrev pub AreJoinedFrom : List ℕ → List ℕ → ℕ → ℕ → Type 0
AreJoinedFrom values octets start count =
    (i : ℕ) → i < count → slice_index values (2 * i) < 16 → slice_index values (2 * i + 1) < 16
    → slice_index octets (start + i) ≡ 16 * slice_index values (2 * i) + slice_index values (2 * i + 1)

-- ---- a block

-- Numbers of all digits of a block, and the octets that they are joined to.
abbrev pub IsBlock : List ℕ → List ℕ → List ℕ → List ℕ → ℕ → ℕ → Type 0
IsBlock text values octets after start seen =
    ((i : ℕ) → i < length values → slice_index values i ≡ digit_number (slice_index text (2 * start + i)))
    × IsSeen values (length values) seen
    × ((i : ℕ) → i < start → slice_index after i ≡ slice_index octets i)
    × ((i : ℕ) → 2 * i + 1 < length values → slice_index values (2 * i) < 16 → slice_index values (2 * i + 1) < 16
    → slice_index after (start + i) ≡ 16 * slice_index values (2 * i) + slice_index values (2 * i + 1))

block_joined : (text values octets after : List ℕ) (start count seen : ℕ) → length values ≡ 2 * count → seen < 16
    → IsBlock text values octets after start seen → AreJoined text octets start → AreJoined text after (start + count)
block_joined text values octets after start count seen twice small block before i below = elim (cases_lt i start) [
  | inl less ↦ block.2 i less ∙ before i less
  | inr not_less ↦
      let k = i - start in
      let one : 2 * k < length values = omega (arith, twice) in
      let two : 2 * k + 1 < length values = omega (arith, twice) in
      let at : i ≡ start + k = omega arith in
      let first_at : 2 * start + 2 * k ≡ 2 * i = omega arith in
      let second_at : 2 * start + (2 * k + 1) ≡ 2 * i + 1 = omega arith in
      let first = block.0 (2 * k) one ∙ ap (λ n. digit_number (slice_index text n)) first_at in
      let second = block.0 (2 * k + 1) two ∙ ap (λ n. digit_number (slice_index text n)) second_at in
      ap (λ n. slice_index after n) at ∙ block.3 k two (block.1.0 small (2 * k) one) (block.1.0 small (2 * k + 1) two)
      ∙ (rw (first, second) refl)
]

block_digits : (text values octets after : List ℕ) (start count seen : ℕ) → length values ≡ 2 * count → seen < 16
    → IsBlock text values octets after start seen → AreDigits text (2 * start) → AreDigits text (2 * (start + count))
block_digits text values octets after start count seen twice small block before i below = elim (cases_lt i (2 * start)) [
  | inl less ↦ before i less
  | inr not_less ↦
      let k = i - 2 * start in
      let within : k < length values = omega (arith, twice) in
      let at : i ≡ 2 * start + k = omega arith in
      rw (at, sym (block.0 k within)) (block.1.0 small k within)
]

-- A block more is read.
pub block_is_read : (text values octets after : List ℕ) (start count seen value : ℕ) → length values ≡ 2 * count
    → IsBlock text values octets after start value → AreRead text octets start seen → AreRead text after (start + count) (bit_or seen value)
block_is_read text values octets after start count seen value twice block before =
    let left : seen ≤ bit_or seen value = le_or_l seen value in
    let right : value ≤ bit_or seen value = le_or_r seen value in (
      λ small.
          let were = before.0 (omega arith) in
          let is : value < 16 = omega arith in (
            block_joined text values octets after start count value twice is block were.0,
            block_digits text values octets after start count value twice is block were.1,
          ),
      λ large. elim (cases_lt seen 16) [
        | inr was ↦ let other = before.1 was in (other.0, omega arith, other.2)
        | inl fine ↦ elim (cases_lt value 16) [
          | inl is ↦ let both : bit_or seen value < 16 = or_lt 4 seen value fine is in absurd (omega arith)
          | inr bad ↦
              let other = block.1.1 bad in
              (2 * start + other.0, omega (arith, twice), rw (sym (block.0 other.0 other.1)) other.2)
        ]
      ],
    )

-- ---- a digit

is_value : (digit : Option ℕ) → value_or_255 digit < 16 → digit ≡ Some (value_or_255 digit)
is_value (Some value) small = refl
is_value None small = absurd (omega arith)

no_value : (octet : ℕ) → 16 ≤ digit_number octet → hex_digit_value octet ≡ None
no_value octet large = grind (arith)

-- ---- the whole text

-- The octets after the first.
joined_later : (text : List ℕ) (high low i : ℕ) → joined_at (high ∷ low ∷ text) (suc i) ≡ joined_at text i
joined_later text high low i =
    let two : 2 * suc i ≡ suc (suc (2 * i)) = omega arith in
    let three : 2 * suc i + 1 ≡ suc (suc (2 * i + 1)) = omega arith in
    rw (three, two) refl

pair_of : (high low k : ℕ) → digit_number high < 16 → digit_number low < 16 → pair_value high low k ≡ Ok (digit_number high * 16 + digit_number low)
pair_of high low k first second = rw (is_value (hex_digit_value high) first, is_value (hex_digit_value low) second) refl

pub digits_are_read : (k : ℕ) (text octets : List ℕ) → length text ≡ 2 * length octets → AreDigits text (length text)
    → AreJoined text octets (length octets) → decode_pairs k text ≡ Ok octets
unfolding decode_pairs
digits_are_read k [] [] twice digits joined = refl
digits_are_read k [] (octet ∷ octets) twice digits joined = absurd (omega (arith, twice))
digits_are_read k (high ∷ []) octets twice digits joined = absurd (omega (arith, twice))
digits_are_read k (high ∷ low ∷ text) [] twice digits joined = absurd (omega (arith, twice))
digits_are_read k (high ∷ low ∷ text) (octet ∷ octets) twice digits joined =
    let pair = pair_of high low k (digits 0 (omega arith)) (digits 1 (omega arith)) in
    let first : octet ≡ digit_number high * 16 + digit_number low = joined 0 (omega arith) ∙ omega arith in
    let rest = digits_are_read (k + 2) text octets (omega (arith, twice)) (λ i below. digits (suc (suc i)) (omega arith))
    (λ i below. joined (suc i) (omega arith) ∙ joined_later text high low i) in
    decode_pairs-ok_pair k high low _ text pair ∙ rw (rest, first) refl

-- ---- a digit that is none

no_octet : (r : Result (List ℕ) FromHexError) (octet : ℕ) → octets_or_none r ≡ None → octets_or_none (cons_byte octet r) ≡ None
no_octet (Ok octets) octet none = absurd (none-some octets (sym none))
no_octet (Err fault) octet none = refl

pub other_is_refused : (k : ℕ) (text : List ℕ) (i : ℕ) → i < length text → 16 ≤ digit_number (slice_index text i) → octets_or_none (decode_pairs k text) ≡ None
unfolding decode_pairs
other_is_refused k [] i within other = absurd (omega arith)
other_is_refused k (high ∷ []) i within other = refl
other_is_refused k (high ∷ low ∷ text) zero within other = rw (no_value high other) refl
other_is_refused k (high ∷ low ∷ text) (suc zero) within other = elim (cases_lt (digit_number high) 16) [
  | inl small ↦ rw (is_value (hex_digit_value high) small, no_value low other) refl
  | inr large ↦ rw (no_value high large) refl
]
other_is_refused k (high ∷ low ∷ text) (suc (suc i)) within other =
    let rest = other_is_refused (k + 2) text i (omega arith) other in
    elim (cases_lt (digit_number high) 16) [
      | inl first ↦ elim (cases_lt (digit_number low) 16) [
        | inl second ↦ ap octets_or_none (decode_pairs-ok_pair k high low _ text (pair_of high low k first second)) ∙ no_octet _ _ rest
        | inr large ↦ rw (is_value (hex_digit_value high) first, no_value low large) refl
      ]
      | inr large ↦ rw (no_value high large) refl
    ]

-- ---- the end

pub all_are_read : (text octets : List ℕ) (count seen : ℕ) → length text ≡ 2 * length octets → length octets ≡ count → seen < 16
    → AreRead text octets count seen → octets_or_none (decode_pairs 0 text) ≡ Some octets
all_are_read text octets count seen twice all small read =
    let fine = read.0 small in
    ap octets_or_none (digits_are_read 0 text octets twice (λ i below. fine.1 i (omega (arith, twice, all))) (λ i below. fine.0 i (omega (arith, all))))

pub one_is_refused : (text octets : List ℕ) (count seen : ℕ) → length text ≡ 2 * length octets → length octets ≡ count → 16 ≤ seen
    → AreRead text octets count seen → octets_or_none (decode_pairs 0 text) ≡ None
one_is_refused text octets count seen twice all large read =
    let other = read.1 large in
    other_is_refused 0 text other.0 (omega (arith, twice, all)) other.2
