-- Why no speaker is made (profile).
use Rattle.std.specs.Prelude.{◌≡◌, ℕ, List, Option, Some, None, if◌then◌else◌}
use Rattle.std.specs.Str.{bytes_eq}
use Rattle.babel_state.specs.declared.errors.ConfigFault.{ConfigFault}
use Rattle.babel_state.specs.declared.errors.ConfigFault.TheVariants.{Memory}
use Rattle.babel_state.specs.declared.errors.RestoreFault.{RestoreFault}
use Rattle.babel_state.specs.declared.errors.RestoreFault.TheVariants as restore_faults

-- It is the first fault of the configuration, or C7 if the configuration has none.
abbrev pub IsMakingFault : Option ConfigFault → ConfigFault → Type 0
IsMakingFault None fault = fault ≡ Memory
IsMakingFault (Some cause) fault = fault ≡ cause

-- Why no speaker is restored: it is the first fault of the configuration, then the first one of the octets, and C7 if there is none.
abbrev pub IsRestoreFault : Option ConfigFault → Option RestoreFault → RestoreFault → Type 0
IsRestoreFault (Some cause) octets fault = fault ≡ restore_faults.Config cause
IsRestoreFault None (Some cause) fault = fault ≡ cause
IsRestoreFault None None fault = fault ≡ restore_faults.Config Memory

-- A snapshot of a speaker with another router-id is no snapshot for the configuration.
abbrev pub router_fault : List ℕ → List ℕ → Option RestoreFault
router_fault router own = if bytes_eq own router then None else Some restore_faults.RouterId
