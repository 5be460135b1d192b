-- Which lists of configurations no network can be made of (profile): the causes, in the order of test.
use Rattle.std.specs.Prelude.{◌≡◌, ◌<◌, ℕ, ◌+◌, Bool, false, ◌||◌, nat_lt, List, [], ◌∷◌, All, flat_map, length, Option, Some, None, if◌then◌else◌}
use Rattle.std.specs.List.{list_any}
use Rattle.babel_value.specs.declared.addresses.Addr.{Addr}
use Rattle.babel_value.specs.Seqnos.{seqno_modulus}
use Rattle.babel_state.specs.declared.configs.Config.{Config}
use Rattle.babel_state.specs.declared.errors.ConfigFault.{ConfigFault}
use Rattle.babel_state.specs.Sameness.{is_same_router}
use Rattle.babel_state.specs.Configs.{config_fault}
use Rattle.babel_machine.specs.declared.errors.NetFault.{NetFault}
use Rattle.babel_machine.specs.declared.errors.NetFault.TheVariants.{TooManyNodes, BadConfig, CollectsSources, AddressTwice, RouterIdTwice}
use Rattle.babel_machine.specs.Owners.{addresses_of, has_addr, AreApart}

-- This configuration's fault, if it has one, or a later one's.
abbrev pub bad_or : ℕ → Option ConfigFault → Option NetFault → Option NetFault
bad_or node None later = later
bad_or node (Some fault) later = Some (BadConfig node fault)

-- The first fault of the first configuration that has one, with the configuration's number.
abbrev pub first_bad_from : ℕ → List Config → Option NetFault
first_bad_from node [] = None
first_bad_from node (c ∷ cs) = bad_or node (config_fault c) (first_bad_from (node + 1) cs)

-- An address is twice in the list.
abbrev pub has_addr_twice : List Addr → Bool
has_addr_twice [] = false
has_addr_twice (addr ∷ rest) = has_addr addr rest || has_addr_twice rest

-- Two configurations have the same router-id.
abbrev pub has_router_twice : List Config → Bool
has_router_twice [] = false
has_router_twice (c ∷ cs) = list_any (λ (d : Config). is_same_router c.router_id d.router_id) cs || has_router_twice cs

-- What is wrong with configurations that are right each by itself.
abbrev pub fault_together : List Config → Option NetFault
fault_together configs =
    if list_any (λ (c : Config). c.collect) configs then Some CollectsSources
    else if has_addr_twice (flat_map addresses_of configs) then Some AddressTwice
    else if has_router_twice configs then Some RouterIdTwice
    else None

abbrev pub fault_or : Option NetFault → Option NetFault → Option NetFault
fault_or None later = later
fault_or (Some fault) later = Some fault

-- How many nodes a network has at most (profile).
abbrev pub max_nodes : ℕ
max_nodes = 64

-- Why no network can be made of the configurations: the first cause that holds.
abbrev pub net_fault : List Config → Option NetFault
net_fault configs =
    if nat_lt max_nodes (length configs) then Some TooManyNodes else fault_or (first_bad_from 0 configs) (fault_together configs)

-- Configurations that are accepted are apart, as far as their first seqnos have 16 bits.
abbrev pub AcceptedAreApart : Type 0
AcceptedAreApart =
    (configs : List Config) → net_fault configs ≡ None → All (λ (c : Config). c.seqno < seqno_modulus) configs → AreApart configs
