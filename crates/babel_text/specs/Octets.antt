-- Octets as hexadecimal digits (profile): two digits each, of either case, the high one first.
use Rattle.std.specs.Prelude.{◌==◌, ◌||◌, ◌/◌, ℕ, List, [], Option, Some, None, Result, Ok, Err, length, codes, nat_eq, nat_lt, if◌then◌else◌}
use Rattle.std.specs.Cmp.Lexicographic.{pointwise}
use Rattle.hex.specs.Hex.{decode_sized, hex_digit_value}
use Rattle.hex.specs.declared.error.FromHexError.{FromHexError}

abbrev pub octets_or_none : Result (List ℕ) FromHexError → Option (List ℕ)
octets_or_none (Ok octets) = Some octets
octets_or_none (Err fault) = None

-- Octets as two digits each, if there is room for them. None are written as `-`, and the empty text has no octets.
abbrev pub hex_octets : ℕ → List ℕ → Option (List ℕ)
hex_octets room text =
    if pointwise nat_eq text (codes "-") then Some []
    else if length text / 2 == 0 || nat_lt room (length text / 2) then None
    else octets_or_none (decode_sized text (length text / 2))

-- The value of a digit, and 255 for what isn't one.
abbrev pub value_or_255 : Option ℕ → ℕ
value_or_255 (Some value) = value
value_or_255 None = 255

abbrev pub digit_number : ℕ → ℕ
digit_number octet = value_or_255 (hex_digit_value octet)
