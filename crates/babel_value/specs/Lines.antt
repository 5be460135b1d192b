-- Lines of text that are put together before they are written (profile).
use Rattle.std.specs.Prelude.{ℕ, ◌+◌, ◌/◌, ◌%◌, ◌^◌, List, [], ◌∷◌, ◌++◌, false, codes, nat_lt, if◌then◌else◌}
use Rattle.std.specs.Fmt.{digits, digit_glyph}

-- The most octets of such a line. The law `limits_are_those_of_the_code` ties it to the code's.
abbrev pub line_room : ℕ
line_room = 256

-- The last digit of a number, decimal or hexadecimal. The number 0 has none.
abbrev pub last_digit : ℕ → List ℕ
last_digit n = if nat_lt 0 n then (48 + n % 10) ∷ [] else []

abbrev pub last_hex_digit : ℕ → List ℕ
last_hex_digit n = if nat_lt 0 n then digit_glyph false (n % 16) ∷ [] else []

-- The four groups of half an IPv6 address, which is a number of 64 bits.
abbrev pub half_text : ℕ → List ℕ
half_text n =
    digits 16 false (n / 2 ^ 48) ++ codes ":" ++ digits 16 false (n / 2 ^ 32 % 65536) ++ codes ":" ++ digits 16 false (n / 2 ^ 16 % 65536) ++ codes ":" ++
    digits 16 false (n % 65536)
