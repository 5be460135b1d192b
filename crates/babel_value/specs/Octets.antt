-- Octets as numbers.
use Rattle.std.specs.Prelude.{ℕ, ◌<◌, List, slice_index}

-- Each is below 256.
abbrev pub AreOctets : List ℕ → Type 0
AreOctets octets = (k : ℕ) → slice_index octets k < 256
