-- Whether two values are the same (profile).
use Rattle.std.specs.Prelude.{ℕ, Bool, true, false, List}
use Rattle.std.specs.List.{list_any}
use Rattle.std.specs.Ordering.{eq_by_cmp}
use Rattle.babel_value.specs.declared.addresses.Addr.{Addr}
use Rattle.babel_value.specs.declared.addresses.Family.{Family}
use Rattle.babel_value.specs.declared.addresses.Family.TheVariants.{Ipv4, Ipv6}
use Rattle.babel_value.specs.declared.keys.Peer.{Peer}
use Rattle.babel_value.specs.Prefixes.{PrefixValue}
use Rattle.babel_value.specs.Orders.{octets_cmp, addr_cmp, prefix_cmp, peer_cmp}

abbrev pub is_same_family : Family → Family → Bool
is_same_family Ipv4 Ipv4 = true
is_same_family Ipv4 Ipv6 = false
is_same_family Ipv6 Ipv4 = false
is_same_family Ipv6 Ipv6 = true

abbrev pub is_same_addr : Addr → Addr → Bool
is_same_addr = eq_by_cmp addr_cmp

abbrev pub is_same_peer : Peer → Peer → Bool
is_same_peer = eq_by_cmp peer_cmp

abbrev pub is_same_prefix : PrefixValue → PrefixValue → Bool
is_same_prefix = eq_by_cmp prefix_cmp

abbrev pub is_same_router : List ℕ → List ℕ → Bool
is_same_router = eq_by_cmp octets_cmp

-- The prefix is in the list.
abbrev pub has_prefix : PrefixValue → List PrefixValue → Bool
has_prefix prefix = list_any (is_same_prefix prefix)
