-- All octets so far are digits, and the value is theirs.
use Rattle.std.proofs.Common.{◌≡◌, ℕ, ◌^◌, ◌<◌, take, get_or}
use Rattle.std.specs.Int.{IsInRange}
use Rattle.std.specs.Str.Parse.{digits_value}
use Rattle.babel_text.proofs.numbers.split_number.Given as goal

abbrev pub invariant-loop-index : goal.invariant-loop-index
invariant-loop-index l = ((k : ℕ) → k < l.index → IsInRange 48 57 (get_or l.text k 0)) × (l.value ≡ digits_value 10 (take l.index l.text)) × (l.value < 2 ^ 64)
