-- Values as text (profile).
use Rattle.std.specs.Prelude.{◌≡◌, ℕ, ◌+◌, ◌*◌, List, ◌++◌, false, codes, slice_index, nat_eq}
use Rattle.std.specs.List.{list_any}
use Rattle.std.specs.Fmt.{decimal, digits}
use Rattle.hex.specs.Hex.{encode_lower}
use Rattle.std.specs.Net.Addr.{ipv4_octets, ipv6_octets}
use Rattle.std.specs.Net.Grammar.{IsIpv4Text, IsIpv6Text}
use Rattle.std.specs.declared.net.ipv4_addr.Ipv4Addr.{Ipv4Addr}
use Rattle.std.specs.declared.net.ipv6_addr.Ipv6Addr.{Ipv6Addr}
use Rattle.babel_value.specs.declared.addresses.Addr.{Addr}
use Rattle.babel_value.specs.declared.addresses.Addr.TheVariants.{V4, V6}
use Rattle.babel_value.specs.Prefixes.{PrefixValue}

-- four decimal numbers with points
abbrev pub ipv4_text : List ℕ → List ℕ
ipv4_text o =
    decimal (slice_index o 0) ++ codes "." ++ decimal (slice_index o 1) ++ codes "." ++ decimal (slice_index o 2) ++ codes "." ++ decimal (slice_index o 3)

-- two octets as a group: lower case hexadecimal digits without leading zeros
abbrev pub group_text : List ℕ → ℕ → List ℕ
group_text o index = digits 16 false (256 * slice_index o index + slice_index o (index + 1))

-- four groups with colons
abbrev pub groups_text : List ℕ → ℕ → List ℕ
groups_text o index =
    group_text o index ++ codes ":" ++ group_text o (index + 2) ++ codes ":" ++ group_text o (index + 4) ++ codes ":" ++ group_text o (index + 6)

-- eight groups with colons, none of them left out
abbrev pub ipv6_text : List ℕ → List ℕ
ipv6_text o = groups_text o 0 ++ codes ":" ++ groups_text o 8

abbrev pub addr_text : Addr → List ℕ
addr_text (V4 octets) = ipv4_text octets
addr_text (V6 octets) = ipv6_text octets

abbrev pub prefix_text : PrefixValue → List ℕ
prefix_text p = addr_text p.addr ++ codes "/" ++ decimal p.length

-- 16 lower case hexadecimal digits
abbrev pub router_text : List ℕ → List ℕ
router_text octets = encode_lower octets

-- The text spells the address: as std reads IPv4 addresses; or as it reads IPv6 addresses, without an IPv4 address inside, which would have a point.
abbrev pub IsAddrText : List ℕ → Addr → Type 0
IsAddrText text (V4 octets) = (ip : Ipv4Addr) × IsIpv4Text text ip × (octets ≡ ipv4_octets ip)
IsAddrText text (V6 octets) = (ip : Ipv6Addr) × IsIpv6Text text ip × (octets ≡ ipv6_octets ip) × (list_any (λ b. nat_eq b 46) text ≡ false)
