-- Router-ids as text (profile).
use Rattle.std.specs.Prelude.{◌≡◌, ℕ, List, Ok}
use Rattle.hex.specs.Hex.{decode_sized}

-- The text is 16 hexadecimal digits of either case, two for each of the 8 octets.
abbrev pub IsRouterIdText : List ℕ → List ℕ → Type 0
IsRouterIdText text octets = decode_sized text 8 ≡ Ok octets
