-- When the machine's calls refuse a step (profile): the causes, in the order of test.
use Rattle.std.specs.Prelude.{◌≡◌, ℕ, ◌+◌, ◌^◌, ◌<◌, ◌==◌, ◌&&◌, List, Option, Some, None, MatchOption, length, slice_get, All, nat_lt, nat_le, if◌then◌else◌, codes}
use Rattle.babel_machine.specs.declared.machine.pair.Pair.{Pair}
use Rattle.babel_machine.specs.declared.machine.pick.Pick.{Pick}
use Rattle.babel_machine.specs.declared.errors.MachineFault.{MachineFault}
use Rattle.babel_machine.specs.declared.errors.MachineFault.TheVariants.{OutOfRange, CountAtGreatest, MayNotSend, MayNotPick, Memory}
use Rattle.babel_machine.specs.declared.machine.step.Step.{Step}
use Rattle.babel_machine.specs.declared.machine.step.Step.TheVariants.{Raise, Announce, Choose, Drop}
use Rattle.babel_machine.specs.Machine.{greatest_metric, SourceState, HasSent, node_at, beginning, MayPick}

-- The code of each refusal.
abbrev pub machine_code : MachineFault → List ℕ
machine_code OutOfRange = codes "A1"
machine_code CountAtGreatest = codes "A2"
machine_code MayNotSend = codes "A3"
machine_code MayNotPick = codes "A4"
machine_code Memory = codes "A5"

-- The numbers that a step names are those of nodes.
abbrev pub InRange : SourceState → Step → Type 0
InRange state Raise = Unit {0}
InRange state (Announce node metric) = node < length state.nodes
InRange state (Choose node from pair) = (node < length state.nodes) × (from < length state.nodes)
InRange state (Drop node) = node < length state.nodes

-- The pick's count under the metric, if that is greater than the pick's and finite.
abbrev pub passed_on : Option Pick → ℕ → Option Pair
passed_on None metric = None
passed_on (Some pick) metric =
    if nat_lt pick.pair.metric metric && nat_le metric greatest_metric
    then Some (record { raises = pick.pair.raises; metric = metric })
    else None

-- What a node announces under the metric, if it may: the owner its count under 0 alone, another node what it passes on.
abbrev pub announced : SourceState → ℕ → ℕ → Option Pair
announced state node metric =
    if node == state.owner
    then (if metric == 0 then Some (beginning state.raises) else None)
    else passed_on (node_at state node).pick metric

-- The source's count after the step fits 64 bits.
abbrev pub HasRoom : SourceState → Step → Type 0
HasRoom state Raise = state.raises + 1 < 2 ^ 64
HasRoom state step = Unit {0}

-- The step is refused for this fault. Each later cause is one only if no earlier one holds. The fault of memory comes only for
-- the announcement of a pair that the node hasn't sent before.
abbrev pub Refused : SourceState → Step → MachineFault → Type 0
Refused state step OutOfRange = ¬ InRange state step
Refused state Raise CountAtGreatest = ¬ HasRoom state Raise
Refused state (Announce node metric) MayNotSend =
    InRange state (Announce node metric) × (announced state node metric ≡ None)
Refused state (Choose node from pair) MayNotPick =
    InRange state (Choose node from pair) × ¬ MayPick state node from pair
Refused state (Announce node metric) Memory =
    InRange state (Announce node metric) × (pair : Pair) × (announced state node metric ≡ Some pair) × ¬ HasSent state node pair
Refused state step fault = ⊥

-- The call for this source is refused: there is no such source, or its step is refused.
abbrev pub RefusedAt : List SourceState → ℕ → Step → MachineFault → Type 0
RefusedAt machine source step fault =
    MatchOption (slice_get machine source) (fault ≡ OutOfRange) (λ state. Refused state step fault)

-- Only a failed allocation can refuse the call.
abbrev pub IsAllowedAt : List SourceState → ℕ → Step → Type 0
IsAllowedAt machine source step = (fault : MachineFault) → RefusedAt machine source step fault → fault ≡ Memory

-- A new machine is refused: an owner isn't a node; or all are, and an allocation fails.
abbrev pub NewRefused : ℕ → List ℕ → MachineFault → Type 0
NewRefused nodes owners OutOfRange = ¬ All (λ owner. owner < nodes) owners
NewRefused nodes owners Memory = All (λ owner. owner < nodes) owners
NewRefused nodes owners fault = ⊥
