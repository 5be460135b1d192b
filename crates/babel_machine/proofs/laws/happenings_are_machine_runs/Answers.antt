use Rattle.babel_machine.proofs.ForeignKept.{happening_runs}
use Rattle.babel_machine.proofs.laws.happenings_are_machine_runs.Goals as goal

pub returns : goal.returns
returns c = happening_runs
