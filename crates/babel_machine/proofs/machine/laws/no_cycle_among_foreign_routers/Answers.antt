use Rattle.babel_machine.proofs.MachineAmong.{no_cycle_among_any}
use Rattle.babel_machine.proofs.machine.laws.no_cycle_among_foreign_routers.Goals as goal

pub returns : goal.returns
returns c = no_cycle_among_any
