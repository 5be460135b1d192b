-- Which configurations no speaker can be made of (profile).
use Rattle.std.specs.Prelude.{ℕ, Bool, false, ◌||◌, ◌&&◌, not, nat_le, nat_lt, ◌==◌, ◌/◌, List, [], ◌∷◌, length, slice_index, Option, Some, None, is_some, if◌then◌else◌}
use Rattle.std.specs.List.{list_any}
use Rattle.std.specs.Option.{option_map_or}
use Rattle.babel_value.specs.declared.addresses.Family.TheVariants.{Ipv4}
use Rattle.babel_value.specs.Addresses.{family_of}
use Rattle.babel_value.specs.RouterIds.{is_reserved}
use Rattle.babel_value.specs.Prefixes.{PrefixValue}
use Rattle.babel_state.specs.Limits.{most_interfaces, most_peers, most_prefixes, greatest_cost, longest_hello}
use Rattle.babel_state.specs.Sameness.{is_same_family, has_prefix}
use Rattle.babel_state.specs.declared.configs.Config.{Config}
use Rattle.babel_state.specs.declared.configs.Interface.{Interface}
use Rattle.babel_state.specs.declared.errors.ConfigFault.{ConfigFault}
use Rattle.babel_state.specs.declared.errors.ConfigFault.TheVariants.{ReservedRouterId, InterfaceCount, NominalCost, HelloInterval, Prefixes, InterfaceAddresses, Memory}

-- A number from 1 up to a greatest one.
abbrev pub is_up_to : ℕ → ℕ → Bool
is_up_to greatest n = nat_le 1 n && nat_le n greatest

-- An IPv6 address in fe80::/10: its first ten bits are 1111 1110 10 (RFC 4291, section 2.5.6).
unfoldable pub is_link_local : List ℕ → Bool
is_link_local octets = (slice_index octets 0 == 254) && (slice_index octets 1 / 64 == 2)

-- A prefix is listed twice.
unfoldable pub repeats : List PrefixValue → Bool
repeats [] = false
repeats (p ∷ ps) = has_prefix p ps || repeats ps

-- The interface has no address of its transport's family.
abbrev pub lacks_transport : Interface → Bool
lacks_transport i = not (if is_same_family i.transport Ipv4 then is_some i.ipv4 else is_some i.ipv6)

-- Its IPv4 network's length is above 32.
abbrev pub has_long_network : Interface → Bool
has_long_network i = option_map_or (λ net. nat_lt 32 net.1) i.ipv4 false

-- Its IPv6 address is outside fe80::/10.
abbrev pub has_global_address : Interface → Bool
has_global_address i = option_map_or (λ octets. not (is_link_local octets)) i.ipv6 false

-- A peer is of another family than the transport.
abbrev pub has_foreign_peer : Interface → Bool
has_foreign_peer i = list_any (λ peer. not (is_same_family (family_of peer) i.transport)) i.peers.items

unfoldable pub has_bad_addresses : Interface → Bool
has_bad_addresses i =
    lacks_transport i || has_global_address i || has_long_network i || nat_lt most_peers (length i.peers.items) || has_foreign_peer i

unfoldable pub has_bad_cost : Interface → Bool
has_bad_cost i = not (is_up_to greatest_cost i.cost)

unfoldable pub has_bad_hello : Interface → Bool
has_bad_hello i = not (is_up_to longest_hello i.hello)

-- The cause of each fault; memory is none of the configuration's own.
abbrev pub has_cause : Config → ConfigFault → Bool
has_cause c ReservedRouterId = is_reserved c.router_id
has_cause c InterfaceCount = not (is_up_to most_interfaces (length c.interfaces.items))
has_cause c NominalCost = list_any has_bad_cost c.interfaces.items
has_cause c HelloInterval = list_any has_bad_hello c.interfaces.items
has_cause c Prefixes = nat_lt most_prefixes (length c.prefixes.items) || repeats c.prefixes.items
has_cause c InterfaceAddresses = list_any has_bad_addresses c.interfaces.items
has_cause c Memory = false

-- The first of some faults whose cause holds.
abbrev pub first_of_causes : (ConfigFault → Bool) → List ConfigFault → Option ConfigFault
first_of_causes current [] = None
first_of_causes current (fault ∷ faults) = if current fault then Some fault else first_of_causes current faults

-- The fault of a configuration: the first in the order of the codes, C1 to C6.
unfoldable pub config_fault : Config → Option ConfigFault
config_fault c =
    first_of_causes (has_cause c)
    (ReservedRouterId ∷ InterfaceCount ∷ NominalCost ∷ HelloInterval ∷ Prefixes ∷ InterfaceAddresses ∷ [])
