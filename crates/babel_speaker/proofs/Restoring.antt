-- The fault of a restart.
use Rattle.std.specs.Prelude.{Option, Some, None, IsNone}
use Rattle.std.proofs.Common.{ap}
use Rattle.babel_state.specs.declared.errors.ConfigFault.{ConfigFault}
use Rattle.babel_state.specs.declared.errors.RestoreFault.{RestoreFault}
use Rattle.babel_state.specs.declared.errors.RestoreFault.TheVariants as restore_faults
use Rattle.babel_speaker.specs.Making.{IsMakingFault, IsRestoreFault}

pub out_of_memory : (cause : Option ConfigFault) (k : Option RestoreFault) (fault : ConfigFault) → IsNone cause → IsNone k → IsMakingFault cause fault →
    IsRestoreFault cause k (restore_faults.Config fault)
out_of_memory None None fault free whole is = ap restore_faults.Config is
out_of_memory None (Some other) fault free whole is = cc
out_of_memory (Some other) k fault free whole is = cc
