-- Addresses, prefixes and router-ids as babeld writes them (profile).
use Rattle.std.specs.Prelude.{ℕ, ◌^◌, ◌-◌, List, [], ◌++◌, false, codes, slice_index}
use Rattle.std.specs.Fmt.{decimal, digits, padded_integral, format_spec}
use Rattle.std.specs.Net.Addr.{segments_of}
use Rattle.std.specs.Net.Text as std
use Rattle.babel_value.specs.declared.addresses.Addr.{Addr}
use Rattle.babel_value.specs.declared.addresses.Addr.TheVariants.{V4, V6}
use Rattle.babel_value.specs.Prefixes.{PrefixValue}

-- An address as std writes it: one of IPv6 is in its short form (RFC 5952).
abbrev pub addr_text : Addr → List ℕ
addr_text (V4 octets) = std.ipv4_text octets
addr_text (V6 octets) = std.ipv6_text (segments_of octets)

abbrev pub prefix_text : PrefixValue → List ℕ
prefix_text p = addr_text p.addr ++ codes "/" ++ decimal p.length

-- The prefix of all sources, in the family of an address.
abbrev pub all_sources : Addr → List ℕ
all_sources (V4 octets) = codes "0.0.0.0/0"
all_sources (V6 octets) = codes "::/0"

-- A number as lower case hexadecimal digits, with zeros before them up to a width: what `{:04x}`
-- writes with width 4.
abbrev pub padded_hex : ℕ → ℕ → List ℕ
padded_hex width n = padded_integral (format_spec 32 0 4 width (2 ^ 64 - 1)) false [] (digits 16 false n)

-- An octet as two digits.
unfoldable pub octet_text : ℕ → List ℕ
octet_text octet = padded_hex 2 octet

-- Four octets with colons.
unfoldable pub four_text : ℕ → ℕ → ℕ → ℕ → List ℕ
four_text a b c d =
    octet_text a ++ (codes ":" ++ (octet_text b ++ (codes ":" ++ (octet_text c ++
    (codes ":" ++ octet_text d)))))

-- Eight octets with colons.
abbrev pub router_text : List ℕ → List ℕ
router_text octets =
    four_text (slice_index octets 0) (slice_index octets 1) (slice_index octets 2)
    (slice_index octets 3) ++
    (codes ":" ++
    four_text (slice_index octets 4) (slice_index octets 5) (slice_index octets 6)
    (slice_index octets 7))
