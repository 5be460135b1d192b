-- When an event is refused (profile): the causes, in the order of test.
use Rattle.std.specs.Prelude.{◌≡◌, ℕ, nat_lt, length, slice_get, Option, Some, None, is_some, IsOk, if◌then◌else◌}
use Rattle.std.specs.Option.{option_map}
use Rattle.babel_packet.specs.Meaning.{meaning}
use Rattle.babel_state.specs.declared.configs.Config.{Config}
use Rattle.babel_state.specs.declared.errors.SetCostFault.{SetCostFault}
use Rattle.babel_state.specs.declared.errors.SetCostFault.TheVariants as costs
use Rattle.babel_state.specs.Calls.{set_cost_fault}
use Rattle.babel_state.specs.Sameness.{has_prefix}
use Rattle.babel_state.specs.State.{State, interface_at, announces}
use Rattle.babel_machine.specs.declared.events.Event.{Event}
use Rattle.babel_machine.specs.declared.events.Event.TheVariants as events
use Rattle.babel_machine.specs.declared.errors.StepFault.{StepFault}
use Rattle.babel_machine.specs.declared.errors.StepFault.TheVariants.{NoNode, NoDatagram, NoInterface, CostOutOfRange, NotListed, NotAnnounced, Memory}
use Rattle.babel_net.specs.Networks.{NetworkState, SentOctets}

-- The node that an event is of.
abbrev pub node_of : Event → ℕ
node_of (events.Tick node now) = node
node_of (events.Emit node now) = node
node_of (events.Deliver number node iface now) = node
node_of (events.SetCost node iface cost) = node
node_of (events.Raise node) = node
node_of (events.RequestSeqnos node now) = node
node_of (events.LoseLinks node iface now) = node
node_of (events.GroupItems node) = node
node_of (events.Announce node prefix) = node
node_of (events.Withdraw node prefix) = node
node_of (events.Restart node now) = node

abbrev pub interface_fault : ℕ → State → Option StepFault
interface_fault iface s = if is_some (interface_at iface s) then None else Some NoInterface

abbrev pub deliver_fault : ℕ → ℕ → State → NetworkState → Option StepFault
deliver_fault number iface s n = if nat_lt number (length n.sent) then interface_fault iface s else Some NoDatagram

abbrev pub cost_fault : SetCostFault → StepFault
cost_fault costs.NoInterface = NoInterface
cost_fault costs.CostOutOfRange = CostOutOfRange

-- What refuses a call without a datagram, of a node with this configuration and this speaker.
abbrev pub call_fault : Config → State → Event → Option StepFault
call_fault c s (events.SetCost node iface cost) = option_map cost_fault (set_cost_fault iface cost s)
call_fault c s (events.Announce node prefix) = if has_prefix prefix c.prefixes.items then None else Some NotListed
call_fault c s (events.Withdraw node prefix) =
    if has_prefix prefix c.prefixes.items then (if announces prefix s then None else Some NotAnnounced) else Some NotListed
call_fault c s event = None

-- What refuses an event of such a node.
abbrev pub event_fault : Config → State → Event → NetworkState → Option StepFault
event_fault c s (events.Deliver number node iface now) n = deliver_fault number iface s n
event_fault c s event n = call_fault c s event

abbrev pub fault_at : Option State → Option Config → Event → NetworkState → Option StepFault
fault_at None c event n = Some NoNode
fault_at (Some s) None event n = Some NoNode
fault_at (Some s) (Some c) event n = event_fault c s event n

-- Why an event is refused: the first cause that holds. Memory is none of the event's own.
unfoldable pub step_fault : Event → NetworkState → Option StepFault
step_fault event n = fault_at (slice_get n.speakers (node_of event)) (slice_get n.configs (node_of event)) event n

-- The first cause; or N6, if there is none and an allocation failed.
abbrev pub IsFaultOrMemory : Option StepFault → StepFault → Type 0
IsFaultOrMemory (Some cause) fault = fault ≡ cause
IsFaultOrMemory None fault = fault ≡ Memory

-- Only a restart, and a datagram that is sent or received, take memory. A datagram that is received can always be read.
abbrev pub TakesMemory : Event → NetworkState → Type 0
TakesMemory (events.Emit node now) n = Unit {0}
TakesMemory (events.Deliver number node iface now) n =
    (d : SentOctets) × (slice_get n.sent number ≡ Some d) × IsOk (meaning d.octets d.source)
TakesMemory (events.Restart node now) n = Unit {0}
TakesMemory event n = ⊥

-- The event's first cause; or N6, if it has none and an allocation failed.
abbrev pub IsStepFault : Option StepFault → Event → NetworkState → StepFault → Type 0
IsStepFault (Some cause) event n fault = fault ≡ cause
IsStepFault None event n fault = (fault ≡ Memory) × TakesMemory event n
