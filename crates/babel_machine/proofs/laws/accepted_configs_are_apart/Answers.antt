use Rattle.babel_machine.proofs.Accepting.{accepted_apart}
use Rattle.babel_machine.proofs.laws.accepted_configs_are_apart.Goals as goal

pub returns : goal.returns
returns c = accepted_apart
