-- The digits of the octets so far.
use Rattle.std.proofs.Common.{◌≡◌, ◌*◌, ◌++◌, length, take, drop}
use Rattle.hex.specs.Hex.{encode_with, lower_digits}
use Rattle.babel_value.proofs.line_parts.put_hex_octets.Given as goal

abbrev pub invariant-loop-index : goal.invariant-loop-index
invariant-loop-index l =
    (take (2 * l.index) l.digits ++ encode_with lower_digits (drop l.index l.octets) ≡ encode_with lower_digits l.octets) × (length l.digits ≡ 16)
