-- Why no network is made (profile).
use Rattle.std.specs.Prelude.{◌≡◌, ◌<◌, ◌⊎◌, ℕ, List, length, Option, Some, None}
use Rattle.babel_state.specs.declared.configs.Config.{Config}
use Rattle.babel_state.specs.declared.errors.ConfigFault.TheVariants as faults
use Rattle.babel_machine.specs.declared.errors.NetFault.{NetFault}
use Rattle.babel_machine.specs.declared.errors.NetFault.TheVariants.{Memory, BadConfig}

-- An allocation failed: one of the network's own, or one of the speaker of a node that there is.
abbrev pub IsOutOfMemory : List Config → NetFault → Type 0
IsOutOfMemory configs fault = (fault ≡ Memory) ⊎ ((node : ℕ) × (node < length configs) × (fault ≡ BadConfig node faults.Memory))

-- It is the first fault of the configurations; or they have none, and an allocation failed.
abbrev pub IsMakingFault : List Config → Option NetFault → NetFault → Type 0
IsMakingFault configs (Some cause) fault = fault ≡ cause
IsMakingFault configs None fault = IsOutOfMemory configs fault
