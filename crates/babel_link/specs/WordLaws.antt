-- The law of the model of a word (profile): its marks give the word back. A model's law is cited in the model itself, so it is kept with the definitions.
use Rattle.std.proofs.Common.{◌≡◌, ℕ, zero, suc, ◌/◌, ◌%◌, ◌^◌, ◌<◌, eqb, length, refl, ap, arith}
use Rattle.std.specs.Int.{from_bool}
use Rattle.std.proofs.Math.Nat.{pow-suc}
use Rattle.std.proofs.lemmas.Bool.Decides.{nat_tests}
use Rattle.babel_link.specs.Words.{marks_of, word_of}

pub length-marks_of : (count bits : ℕ) → length (marks_of count bits) ≡ count
length-marks_of zero bits = refl
length-marks_of (suc count) bits = ap suc (length-marks_of count (bits / 2))

-- The higher bits of a word of count + 1 bits.
pub halved_fits : (count bits : ℕ) → bits < 2 ^ suc count → bits / 2 < 2 ^ count
halved_fits count bits fits = omega (arith, pow-suc 2 count)

from_bool-lowest : (bits : ℕ) → from_bool (eqb (bits % 2) 1) ≡ bits % 2
from_bool-lowest bits = grind (arith, nat_tests)

-- The word of a word's marks is that word.
pub word_of-marks_of : (count bits : ℕ) → bits < 2 ^ count → word_of (marks_of count bits) ≡ bits
word_of-marks_of zero bits fits = omega arith
word_of-marks_of (suc count) bits fits =
    omega (arith, word_of-marks_of count (bits / 2) (halved_fits count bits fits), from_bool-lowest bits)
