-- Marks in a word of bits: what shifts, masks and counts do to them.
use Rattle.std.proofs.Common.{◌≡◌, ℕ, zero, suc, ◌+◌, ◌*◌, ◌/◌, ◌%◌, ◌^◌, ◌<◌, ◌≤◌, eqb, not, Bool, true, false, cond, List, ◌∷◌, take, length, refl, sym, ap, ◌∙◌, arith, add-one, bit_and, bit_or, lit<, lit≤}
use Rattle.std.specs.Int.{from_bool}
use Rattle.std.specs.Int.RustNames.{count_ones}
use lib.Count.{ones_step}
use Rattle.std.specs.List.{list_any, count_by}
use Rattle.std.proofs.Math.Nat.{pow-le-pow_right}
use Rattle.std.proofs.lemmas.List.{take_all, take-take}
use Rattle.std.proofs.lemmas.Bool.Decides.{nat_tests}
use Rattle.std.proofs.lemmas.Nat.{or_shifted, and_mask, mod-pow-add, ones_le_self}
use Rattle.babel_link.specs.Histories.{newest}
use Rattle.babel_link.specs.Words.{marks_of, word_of}
use Rattle.babel_link.specs.WordLaws.{length-marks_of, halved_fits, word_of-marks_of}

-- The first marks of a word are those of its lowest bits.
pub take-marks_of : (k count bits : ℕ) → k ≤ count → take k (marks_of count bits) ≡ marks_of k bits
take-marks_of zero count bits le = refl
take-marks_of (suc k) zero bits le = absurd (omega arith)
take-marks_of (suc k) (suc count) bits le =
    ap (λ rest. eqb (bits % 2) 1 ∷ rest) (take-marks_of k count (bits / 2) (omega arith))

-- The higher bits make no mark.
pub marks_of-mod : (count bits : ℕ) → marks_of count (bits % 2 ^ count) ≡ marks_of count bits
marks_of-mod zero bits = refl
marks_of-mod (suc count) bits =
    let parts = rw add-one at (mod-pow-add bits count 1) in
    let lowest : bits % 2 ^ suc count % 2 ≡ bits % 2 = omega arith in
    let higher : bits % 2 ^ suc count / 2 ≡ bits / 2 % 2 ^ count = omega arith in
    rw (lowest, higher) (ap (λ rest. eqb (bits % 2) 1 ∷ rest) (marks_of-mod count (bits / 2)))

-- A bit put under the others is a mark put before the others.
pub marks_of-pushed : (count bits : ℕ) (mark : Bool) → marks_of (suc count) (2 * bits + from_bool mark) ≡ mark ∷ marks_of count bits
marks_of-pushed count bits true =
    let lowest : (2 * bits + 1) % 2 ≡ 1 = omega arith in let higher : (2 * bits + 1) / 2 ≡ bits = omega arith in rw (lowest, higher) refl
marks_of-pushed count bits false =
    let lowest : (2 * bits + 0) % 2 ≡ 0 = omega arith in let higher : (2 * bits + 0) / 2 ≡ bits = omega arith in rw (lowest, higher) refl

-- What a shift by one and an `or` do to the bits.
pub shifted-or : (bits : ℕ) (mark : Bool) → bit_or (bits * 2 % 65536) (from_bool mark) ≡ 2 * (bits % 32768) + from_bool mark
shifted-or bits mark =
    let kept : bits * 2 % 65536 ≡ bits % 32768 * 2 ^ 1 = omega arith in
    let low : from_bool mark < 2 ^ 1 = grind (arith, nat_tests) in
    rw (kept, or_shifted (bits % 32768) 1 (from_bool mark) low) (omega arith)

-- The number of ones of a number of three bits.
ones_of_three : (m : ℕ) → m < 8 → count_ones m ≡ m % 2 + m / 2 % 2 + m / 2 / 2 % 2
ones_of_three m below =
    let rest : m / 2 / 2 / 2 ≡ 0 = omega arith in
    omega (arith, ones_step m, ones_step (m / 2), ones_step (m / 2 / 2), ap count_ones rest, ones_le_self 0)

-- The ones among the lowest three bits.
ones_of_lowest : (bits : ℕ) → count_ones (bit_and bits 7) ≡ bits % 2 + bits / 2 % 2 + bits / 2 / 2 % 2
ones_of_lowest bits =
    let low : bit_and bits 7 ≡ bits % 8 = and_mask bits 3 in
    rw low (omega (arith, ones_of_three (bits % 8) (omega arith)))

counted-lowest : (bits : ℕ) → cond (eqb (bits % 2) 1) 1 0 ≡ bits % 2
counted-lowest bits = grind (arith, nat_tests)

-- How many of the newest three marks are true.
pub count_of_newest : (count bits : ℕ) → bits < 2 ^ count → count_by (λ mark. mark) (take 3 (marks_of count bits)) ≡ count_ones (bit_and bits 7)
count_of_newest zero bits fits = omega (arith, ones_of_lowest bits)
count_of_newest (suc zero) bits fits = omega (arith, ones_of_lowest bits, counted-lowest bits)
count_of_newest (suc (suc zero)) bits fits = omega (arith, ones_of_lowest bits, counted-lowest bits, counted-lowest (bits / 2))
count_of_newest (suc (suc (suc count))) bits fits =
    omega (arith, ones_of_lowest bits, counted-lowest bits, counted-lowest (bits / 2), counted-lowest (bits / 2 / 2))

-- A word has a true mark where it isn't 0.
pub any_of_word : (count bits : ℕ) → bits < 2 ^ count → list_any (λ mark. mark) (marks_of count bits) ≡ not (eqb bits 0)
any_of_word zero bits fits = grind (arith, nat_tests)
any_of_word (suc count) bits fits =
    let rest = any_of_word count (bits / 2) (halved_fits count bits fits) in grind (arith, nat_tests)

-- The word after a push where there is room.
pub marks_of-push : (count bits : ℕ) (mark : Bool) → count < 16 → bits < 2 ^ count → marks_of (count + 1) (bit_or (bits * 2 % 65536) (from_bool mark)) ≡ newest (mark ∷ marks_of count bits)
marks_of-push count bits mark room fits =
    let small : 2 ^ count ≤ 2 ^ 15 = pow-le-pow_right (lit< tt) {j = 15} (omega arith) in
    let low : bits % 32768 ≡ bits = omega arith in
    let all : take 15 (marks_of count bits) ≡ marks_of count bits = take_all 15 (marks_of count bits) (omega (arith, length-marks_of count bits)) in
    rw (shifted-or bits mark, low, add-one, marks_of-pushed count bits mark, all) refl

-- The word after a push where there is none: the oldest mark goes.
pub marks_of-push_full : (count bits : ℕ) (mark : Bool) → count ≡ 16 → marks_of count (bit_or (bits * 2 % 65536) (from_bool mark)) ≡ newest (mark ∷ marks_of count bits)
marks_of-push_full count bits mark full =
    rw (full, shifted-or bits mark) (marks_of-pushed 15 (bits % 32768) mark ∙ ap (λ marks. mark ∷ marks) (marks_of-mod 15 bits ∙ sym (take-marks_of 15 16 bits (lit≤ tt))))

from_bool_below : (mark : Bool) → from_bool mark < 2
from_bool_below true = lit< tt
from_bool_below false = lit< tt

-- And it fits.
pub pushed_fits : (bits : ℕ) (mark : Bool) → bit_or (bits * 2 % 65536) (from_bool mark) < 65536
pushed_fits bits mark = omega (arith, shifted-or bits mark, from_bool_below mark)

-- Marks that were cut are cut again with the next one.
pub newest_newest : (mark : Bool) (marks : List Bool) → newest (mark ∷ newest marks) ≡ newest (mark ∷ marks)
newest_newest mark marks = ap (λ rest. mark ∷ rest) (take-take 15 16 marks (lit≤ tt))

-- There are as many marks as are counted, and their word is the word.
pub count_of_marks : (count bits : ℕ) → length (marks_of count bits) ≡ count
count_of_marks count bits = length-marks_of count bits

pub word_of_marks : (count bits : ℕ) → bits < 2 ^ count → word_of (marks_of count bits) ≡ bits
word_of_marks count bits fits = word_of-marks_of count bits fits
