-- Prefixes in a payload, the first octets of which an Update may omit (RFC 8966, sections 4.1.5, 4.5 and 4.6.9).
use Rattle.std.specs.Prelude.{ℕ, ◌+◌, ◌-◌, ◌*◌, ◌/◌, List, Bool, ◌&&◌, length, map, nat_le, nat_lt, if◌then◌else◌}
use Rattle.std.specs.List.{range_with_len}
use Rattle.babel_value.specs.Prefixes.{cleared}
use Rattle.babel_packet.specs.Numbers.{octet}

-- how many octets a prefix of this length takes, of 8 bits each (section 4.1.5)
abbrev pub octets_of : ℕ → ℕ
octets_of bits = (bits + 7) / 8

-- how many bits so many octets have (section 4.1.5)
abbrev pub bits_of : ℕ → ℕ
bits_of octets = 8 * octets

-- Octet j of a prefix of `bits` bits, whose octets are in p from offset `at` on: the default prefix has the omitted ones, the others are written,
-- and zeros follow the prefix.
abbrev pub prefix_octet : List ℕ → ℕ → ℕ → ℕ → List ℕ → ℕ → ℕ
prefix_octet default omitted bits at p j =
    if nat_lt j (octets_of bits) then (if nat_lt j omitted then octet default j else octet p (at + j - omitted)) else 0

-- the octets of the prefix's address, of which there are `size`
unfoldable pub prefix_octets : ℕ → List ℕ → ℕ → ℕ → ℕ → List ℕ → List ℕ
prefix_octets size default omitted bits at p = cleared bits (map (prefix_octet default omitted bits at p) (range_with_len 0 size))

-- Plen isn't greater than an address of `size` octets is wide, and the octets that aren't omitted are in p from offset `at` on.
unfoldable pub is_whole : ℕ → ℕ → ℕ → ℕ → List ℕ → Bool
is_whole size omitted bits at p = nat_le bits (bits_of size) && nat_le (at + (octets_of bits - omitted)) (length p)
