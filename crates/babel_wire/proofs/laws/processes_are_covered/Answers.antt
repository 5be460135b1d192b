use Rattle.babel_wire.proofs.Processes.{all_covered, stay_covered}
use Rattle.babel_wire.proofs.laws.processes_are_covered.Goals as goal

pub returns-clause-from_new : goal.returns-clause-from_new
returns-clause-from_new c = all_covered

pub returns-clause-go_on : goal.returns-clause-go_on
returns-clause-go_on c = stay_covered
