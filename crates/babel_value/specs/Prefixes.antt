-- Prefixes (RFC 8966, section 4.1.5).
use Rattle.std.specs.Prelude.{ℕ, ◌-◌, ◌%◌, ◌^◌, List, [], ◌∷◌, Option, Some, None, nat_le, if◌then◌else◌}
use Rattle.babel_value.specs.declared.addresses.Addr.{Addr}
use Rattle.babel_value.specs.declared.addresses.Addr.TheVariants.{V4, V6}
use Rattle.babel_value.specs.Addresses.{width_of}

-- An address, and how many of its first bits count.
pub record PrefixValue : Type 0 where
  pub addr : Addr
  pub length : ℕ

-- The octets with the bits past the first `bits` cleared.
abbrev pub cleared : ℕ → List ℕ → List ℕ
cleared bits [] = []
cleared bits (octet ∷ octets) = (octet - octet % 2 ^ (8 - bits)) ∷ cleared (bits - 8) octets

abbrev pub cleared_addr : ℕ → Addr → Addr
cleared_addr bits (V4 octets) = V4 (cleared bits octets)
cleared_addr bits (V6 octets) = V6 (cleared bits octets)

-- The prefix of an address, unless the length is greater than the address is wide.
abbrev pub prefix_of : Addr → ℕ → Option PrefixValue
prefix_of addr length =
    if nat_le length (width_of addr) then Some (record { addr = cleared_addr length addr; length = length }) else None
