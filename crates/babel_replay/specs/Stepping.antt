-- The speaker's step for a line of a log (profile).
use Rattle.std.specs.Prelude.{◌≡◌, ◌≢◌, ℕ, Bool, true, false, List, Some, IsNone, nat_lt}
use Rattle.babel_value.specs.declared.addresses.Addr.{Addr}
use Rattle.babel_message.specs.declared.errors.Refusal.TheVariants as packets
use Rattle.babel_state.specs.declared.errors.RecvFault.TheVariants as refusals
use Rattle.babel_state.specs.declared.errors.SetCostFault.TheVariants as costs
use Rattle.babel_state.specs.Calls.{set_cost_fault, cost_set}
use Rattle.babel_state.specs.Messages.{arrival_of, Receives, IsRecvFault}
use Rattle.babel_state.specs.State.{State}
use Rattle.babel_state.specs.Ticks.{ticked}
use Rattle.babel_text.specs.declared.log_lines.Action.{Action}
use Rattle.babel_text.specs.declared.log_lines.Action.TheVariants as actions
use Rattle.babel_replay.specs.declared.stepping.Outcome.{Outcome}
use Rattle.babel_replay.specs.declared.stepping.Outcome.TheVariants as outcomes

-- A datagram is taken with a note for each TLV, or refused. Memory is no refusal.
abbrev pub TakesDatagram : ℕ → ℕ → Addr → List ℕ → State → State → Outcome → Type 0
TakesDatagram time iface source octets old new (outcomes.Notes notes) =
    Receives (arrival_of time (record { iface = iface; addr = source }) octets) old new notes.items
TakesDatagram time iface source octets old new (outcomes.Refused fault) =
    (new ≡ old) × IsRecvFault (arrival_of time (record { iface = iface; addr = source }) octets) old fault × (fault ≢ refusals.Refused packets.Memory)
TakesDatagram time iface source octets old new outcome = ⊥

-- A cost is set, or refused.
abbrev pub SetsCost : ℕ → ℕ → State → State → Outcome → Type 0
SetsCost iface cost old new outcomes.Silent = IsNone (set_cost_fault iface cost old) × (new ≡ cost_set iface cost old)
SetsCost iface cost old new (outcomes.CostRefused fault) = (set_cost_fault iface cost old ≡ Some fault) × (new ≡ old)
SetsCost iface cost old new outcome = ⊥

-- The number of an interface is below this one.
abbrev pub iface_bound : ℕ
iface_bound = 256

-- No interface has another number.
abbrev pub TakesAt : Bool → ℕ → ℕ → Addr → List ℕ → State → State → Outcome → Type 0
TakesAt true time iface source octets old new outcome = TakesDatagram time iface source octets old new outcome
TakesAt false time iface source octets old new outcome = (outcome ≡ outcomes.Refused refusals.NoInterface) × (new ≡ old)

abbrev pub SetsAt : Bool → ℕ → ℕ → State → State → Outcome → Type 0
SetsAt true iface cost old new outcome = SetsCost iface cost old new outcome
SetsAt false iface cost old new outcome = (outcome ≡ outcomes.CostRefused costs.NoInterface) × (new ≡ old)

-- What happened to the speaker is one of its steps, with this outcome.
abbrev pub Steps : ℕ → Action → State → State → Outcome → Type 0
Steps time (actions.Receive iface source octets) old new outcome = TakesAt (nat_lt iface iface_bound) time iface source octets.now old new outcome
Steps time actions.Tick old new outcome = (outcome ≡ outcomes.Silent) × (new ≡ ticked time old)
Steps time (actions.SetCost iface cost) old new outcome = SetsAt (nat_lt iface iface_bound) iface cost old new outcome
