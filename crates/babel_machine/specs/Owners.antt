-- Which node of a network has an address, and which configurations a network can be made of (profile).
use Rattle.std.specs.Prelude.{◌≡◌, ◌<◌, ℕ, ◌+◌, Bool, true, false, List, [], ◌∷◌, ◌++◌, All, flat_map, Option, Some, None, option_map, slice_get, if◌then◌else◌}
use Rattle.std.specs.List.{list_any}
use Rattle.babel_value.specs.declared.addresses.Addr.{Addr}
use Rattle.babel_value.specs.declared.addresses.Family.TheVariants.{Ipv4, Ipv6}
use Rattle.babel_value.specs.Prefixes.{PrefixValue}
use Rattle.babel_value.specs.Seqnos.{seqno_modulus}
use Rattle.babel_state.specs.declared.configs.Config.{Config}
use Rattle.babel_state.specs.declared.configs.Interface.{Interface}
use Rattle.babel_state.specs.Sameness.{is_same_addr, has_prefix}
use Rattle.babel_state.specs.Addresses.{address_of}
use Rattle.babel_state.specs.Calls.{new_interface}

abbrev pub listed : Option Addr → List Addr
listed None = []
listed (Some addr) = addr ∷ []

-- The own addresses of an interface: that of IPv4, then that of IPv6.
abbrev pub interface_addresses : Interface → List Addr
interface_addresses i = listed (address_of Ipv4 (new_interface i)) ++ listed (address_of Ipv6 (new_interface i))

-- The own addresses of a node, interface by interface.
abbrev pub addresses_of : Config → List Addr
addresses_of c = flat_map interface_addresses c.interfaces.items

-- The address is in the list.
abbrev pub has_addr : Addr → List Addr → Bool
has_addr addr = list_any (is_same_addr addr)

-- The first node that has the address, if any.
abbrev pub owner_of : List Config → Addr → Option ℕ
owner_of [] addr = None
owner_of (c ∷ cs) addr = if has_addr addr (addresses_of c) then Some 0 else option_map (λ node. node + 1) (owner_of cs addr)

-- The node's configuration lists the prefix.
abbrev pub Lists : List Config → ℕ → PrefixValue → Type 0
Lists configs node prefix = (c : Config) × (slice_get configs node ≡ Some c) × (has_prefix prefix c.prefixes.items ≡ true)

-- What a network needs of its configurations: no address of a node is another one's, no router-id is that of two
-- nodes, no node collects sources, and each first seqno has 16 bits.
pub record AreApart (configs : List Config) : Type 0 where
  pub addresses : (node : ℕ) (c : Config) → slice_get configs node ≡ Some c → All (λ addr. owner_of configs addr ≡ Some node) (addresses_of c)
  pub routers : (one other : ℕ) (c d : Config) → slice_get configs one ≡ Some c → slice_get configs other ≡ Some d → c.router_id ≡ d.router_id → one ≡ other
  pub collection : (node : ℕ) (c : Config) → slice_get configs node ≡ Some c → c.collect ≡ false
  pub seqnos : (node : ℕ) (c : Config) → slice_get configs node ≡ Some c → c.seqno < seqno_modulus
