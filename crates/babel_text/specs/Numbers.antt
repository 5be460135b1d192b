-- Numbers as text (profile).
use Rattle.std.specs.Prelude.{◌≡◌, ◌<◌, ◌^◌, ℕ, List}
use Rattle.std.specs.Fmt.{decimal}

-- The text is the number in decimal, as it is printed: without a sign and without a leading zero. The number fits in so many bits.
abbrev pub IsNumberText : ℕ → List ℕ → ℕ → Type 0
IsNumberText bits text number = (number < 2 ^ bits) × (text ≡ decimal number)
