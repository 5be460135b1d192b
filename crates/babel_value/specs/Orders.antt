-- The orders of the keys (profile): what `cmp` returns on each.
use Rattle.std.specs.Prelude.{ℕ, List}
use Rattle.std.specs.declared.cmp.Ordering.{Ordering}
use Rattle.std.specs.declared.cmp.Ordering.TheVariants.{Less, Equal, Greater}
use Rattle.std.specs.Ordering.{nat_cmp, ordering_then}
use Rattle.std.specs.Cmp.Lexicographic.{slice_cmp}
use Rattle.babel_value.specs.declared.addresses.Addr.{Addr}
use Rattle.babel_value.specs.declared.addresses.Addr.TheVariants.{V4, V6}
use Rattle.babel_value.specs.declared.addresses.Family.{Family}
use Rattle.babel_value.specs.declared.addresses.Family.TheVariants.{Ipv4, Ipv6}
use Rattle.babel_value.specs.declared.keys.Source.{Source}
use Rattle.babel_value.specs.declared.keys.Peer.{Peer}
use Rattle.babel_value.specs.Prefixes.{PrefixValue}

-- Octet by octet.
abbrev pub octets_cmp : List ℕ → List ℕ → Ordering
octets_cmp = slice_cmp nat_cmp

-- IPv4 first.
abbrev pub family_cmp : Family → Family → Ordering
family_cmp Ipv4 Ipv4 = Equal
family_cmp Ipv4 Ipv6 = Less
family_cmp Ipv6 Ipv4 = Greater
family_cmp Ipv6 Ipv6 = Equal

-- IPv4 first, then octet by octet.
abbrev pub addr_cmp : Addr → Addr → Ordering
addr_cmp (V4 a) (V4 b) = octets_cmp a b
addr_cmp (V4 a) (V6 b) = Less
addr_cmp (V6 a) (V4 b) = Greater
addr_cmp (V6 a) (V6 b) = octets_cmp a b

-- By address, then length.
abbrev pub prefix_cmp : PrefixValue → PrefixValue → Ordering
prefix_cmp a b = ordering_then (addr_cmp a.addr b.addr) (nat_cmp a.length b.length)

-- By prefix, then router-id.
abbrev pub source_cmp : Source → Source → Ordering
source_cmp a b = ordering_then (prefix_cmp a.prefix b.prefix) (octets_cmp a.router b.router)

-- By interface, then address.
abbrev pub peer_cmp : Peer → Peer → Ordering
peer_cmp a b = ordering_then (nat_cmp a.iface b.iface) (addr_cmp a.addr b.addr)
