use Rattle.babel_machine.proofs.Restarting.{restart_drops}
use Rattle.babel_machine.proofs.laws.restarts_are_drops.Goals as goal

pub returns : goal.returns
returns c = restart_drops
