-- When a datagram of a router of others isn't heard (profile): the causes, in the order of test.
use Rattle.std.specs.Prelude.{◌≡◌, ℕ, List, slice_get, Option, Some, None, is_some, codes, if◌then◌else◌}
use Rattle.babel_state.specs.State.{State, interface_at}
use Rattle.babel_machine.specs.ForeignWorlds.{HearEvent}
use Rattle.babel_machine.specs.Owners.{owner_of}
use Rattle.babel_net.specs.declared.hearing.HearFault.{HearFault}
use Rattle.babel_net.specs.declared.hearing.HearFault.TheVariants.{OwnAddress, NoNode, NoInterface, Memory}
use Rattle.babel_net.specs.Networks.{NetworkState}

abbrev pub hear_code : HearFault → List ℕ
hear_code OwnAddress = codes "N8"
hear_code NoNode = codes "N1"
hear_code NoInterface = codes "N3"
hear_code Memory = codes "N6"

-- The speaker has no such interface.
abbrev pub iface_fault : ℕ → State → Option HearFault
iface_fault iface s = if is_some (interface_at iface s) then None else Some NoInterface

-- There is no such node, or its speaker has no such interface.
abbrev pub place_fault : ℕ → Option State → Option HearFault
place_fault iface None = Some NoNode
place_fault iface (Some s) = iface_fault iface s

-- Why the datagram isn't heard: the first cause that holds. Memory is none of its own.
abbrev pub hear_fault : HearEvent → NetworkState → Option HearFault
hear_fault event n =
    if is_some (owner_of n.configs event.source) then Some OwnAddress
    else place_fault event.iface (slice_get n.speakers event.node)

-- The first cause; or N6, if there is none and an allocation failed.
abbrev pub IsHearFault : Option HearFault → HearFault → Type 0
IsHearFault (Some cause) fault = fault ≡ cause
IsHearFault None fault = fault ≡ Memory
