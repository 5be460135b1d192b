use Rattle.babel_machine.proofs.Joining.{sources_together}
use Rattle.babel_machine.proofs.laws.sources_run_together.Goals as goal

pub returns : goal.returns
returns c = sources_together
