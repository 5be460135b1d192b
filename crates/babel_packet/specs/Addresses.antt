-- The octets of an address in a payload, by its encoding (AE; RFC 8966, section 4.1.4).
use Rattle.std.specs.Prelude.{ℕ, List, [], ◌∷◌, ◌++◌, ◌+◌, slice_range}
use Rattle.babel_message.specs.Layout as layout

-- the octets of an IPv4 address at this offset
abbrev pub ipv4_at : List ℕ → ℕ → List ℕ
ipv4_at p at = slice_range p at (at + layout.ipv4_len)

abbrev pub ipv6_at : List ℕ → ℕ → List ℕ
ipv6_at p at = slice_range p at (at + layout.ipv6_len)

-- the prefix of link-local addresses: fe80::/64
abbrev pub link_local_prefix : List ℕ
link_local_prefix = 0xfe ∷ 0x80 ∷ 0 ∷ 0 ∷ 0 ∷ 0 ∷ 0 ∷ 0 ∷ []

-- a link-local address, whose last octets are at this offset
abbrev pub link_local_at : List ℕ → ℕ → List ℕ
link_local_at p at = link_local_prefix ++ slice_range p at (at + layout.link_local_len)
