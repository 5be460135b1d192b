-- If neither the configuration nor the octets have a fault, an allocation failed.
use Rattle.std.proofs.Common.{refl}
use Rattle.babel_state.specs.Configs.{config_fault}
use Rattle.babel_snapshot.specs.Reading.{restore_fault}
use Rattle.babel_speaker.proofs.Restoring.{out_of_memory}
use Rattle.babel_speaker.proofs.state.restarts.restore.Goals as goal

pub returns-in-Err-make-clause-refused : goal.returns-in-Err-make-clause-refused
returns-in-Err-make-clause-refused c =
    out_of_memory (config_fault c.args.config.now) (restore_fault c.args.config.now.router_id c.args.octets.now) c.in-Err-make.fault
    (c.in-Ok.ensures.valid refl) (c.in-Ok.ensures.whole refl) c.in-Err-make.ensures.refused
