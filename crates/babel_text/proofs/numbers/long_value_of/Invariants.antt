-- All octets so far are digits, and the value is theirs.
use Rattle.std.proofs.Common.{◌≡◌, ℕ, ◌^◌, ◌<◌, take, get_or}
use Rattle.std.specs.Int.{IsInRange}
use Rattle.std.specs.Str.Parse.{digits_value}
use Rattle.babel_text.proofs.numbers.long_value_of.Given as goal

abbrev pub invariant-loop-octet : goal.invariant-loop-octet
invariant-loop-octet l = ((k : ℕ) → k < l.octet-index → IsInRange 48 57 (get_or l.digits k 0)) × (l.value ≡ digits_value 10 (take l.octet-index l.digits)) × (l.value < 2 ^ 64)
