-- A list of marks as a word of bits, of which the lowest is the newest mark (profile).
use Rattle.std.specs.Prelude.{ℕ, zero, suc, ◌+◌, ◌*◌, ◌/◌, ◌%◌, ◌==◌, Bool, true, false, List, [], ◌∷◌}
use Rattle.std.specs.Int.{from_bool}
use Rattle.babel_link.specs.declared.words.Mark.{Mark}
use Rattle.babel_link.specs.declared.words.Mark.TheVariants.{Received, Missed}

-- The mark of a Hello: true if it came (RFC 8966, appendix A.1).
abbrev pub is_received : Mark → Bool
is_received Received = true
is_received Missed = false

-- The marks of a word: its lowest `count` bits, from the lowest on (profile).
abbrev pub marks_of : ℕ → ℕ → List Bool
marks_of zero bits = []
marks_of (suc count) bits = (bits % 2 == 1) ∷ marks_of count (bits / 2)

-- The word of a list of marks.
abbrev pub word_of : List Bool → ℕ
word_of [] = 0
word_of (mark ∷ marks) = from_bool mark + 2 * word_of marks
