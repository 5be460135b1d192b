-- The addresses of interfaces, and from which addresses datagrams are taken.
use Rattle.std.specs.Prelude.{ℕ, Bool, false, ◌||◌, not, List, Option, Some, None, if◌then◌else◌}
use Rattle.std.specs.List.{list_any}
use Rattle.std.specs.Option.{option_map, option_map_or, option_and_then}
use Rattle.babel_value.specs.declared.addresses.Addr.{Addr}
use Rattle.babel_value.specs.declared.addresses.Addr.TheVariants.{V4, V6}
use Rattle.babel_value.specs.declared.addresses.Family.{Family}
use Rattle.babel_value.specs.declared.addresses.Family.TheVariants.{Ipv4, Ipv6}
use Rattle.babel_value.specs.Prefixes.{cleared_addr}
use Rattle.babel_state.specs.declared.interfaces.InterfaceEntry.{InterfaceEntry}
use Rattle.babel_state.specs.declared.errors.RecvFault.{RecvFault}
use Rattle.babel_state.specs.declared.errors.RecvFault.TheVariants.{NoInterface, ForeignSource, OwnSource}
use Rattle.babel_state.specs.Sameness.{is_same_addr}
use Rattle.babel_state.specs.Configs.{is_link_local}
use Rattle.babel_state.specs.State.{State, interface_at}

-- The interface's own address of a family, if it has one.
abbrev pub address_of : Family → InterfaceEntry → Option Addr
address_of Ipv4 i = option_map (λ net. V4 net.0) i.ipv4
address_of Ipv6 i = option_map V6 i.ipv6

-- The own address over which the interface's datagrams are sent.
abbrev pub transport_of : InterfaceEntry → Option Addr
transport_of i = address_of i.transport i

abbrev pub address_at : ℕ → Family → State → Option Addr
address_at iface family s = option_and_then (address_of family) (interface_at iface s)

abbrev pub transport_at : ℕ → State → Option Addr
transport_at iface s = option_and_then transport_of (interface_at iface s)

-- The address is one of the interface's own.
abbrev pub is_one_of : Addr → Option Addr → Bool
is_one_of addr own = option_map_or (is_same_addr addr) own false

unfoldable pub is_own_address : Addr → InterfaceEntry → Bool
is_own_address addr i = is_one_of addr (address_of Ipv4 i) || is_one_of addr (address_of Ipv6 i)

-- The address has the first bits of the interface's IPv4 address.
abbrev pub is_in_network : List ℕ → List ℕ × ℕ → Bool
is_in_network octets net = is_same_addr (cleared_addr net.1 (V4 octets)) (cleared_addr net.1 (V4 net.0))

-- A neighbour has a link-local address, or one in the interface's IPv4 network (RFC 8966, section 3.1; the network is the profile's).
unfoldable pub is_from_link : Addr → InterfaceEntry → Bool
is_from_link (V4 octets) i = option_map_or (is_in_network octets) i.ipv4 false
is_from_link (V6 octets) i = is_link_local octets

-- Why a datagram that came over an interface from an address isn't read at all: the first cause that holds (profile).
abbrev pub source_fault_on : Addr → Option InterfaceEntry → State → Option RecvFault
source_fault_on source None s = Some NoInterface
source_fault_on source (Some i) s =
    if not (is_from_link source i) then Some ForeignSource
    else if list_any (is_own_address source) s.interfaces then Some OwnSource
    else None

unfoldable pub source_fault : ℕ → Addr → State → Option RecvFault
source_fault iface source s = source_fault_on source (interface_at iface s) s
