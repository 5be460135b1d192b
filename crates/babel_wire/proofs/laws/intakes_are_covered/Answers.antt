use Rattle.babel_wire.proofs.IntakeCovering.{turns_are_steps, steps_go_on, steps_cover, steps_restart}
use Rattle.babel_wire.proofs.laws.intakes_are_covered.Goals as goal

pub returns-clause-covers : goal.returns-clause-covers
returns-clause-covers c = steps_cover

pub returns-clause-restarts : goal.returns-clause-restarts
returns-clause-restarts c = steps_restart

pub returns-clause-turns : goal.returns-clause-turns
returns-clause-turns c = turns_are_steps

pub returns-clause-go_on : goal.returns-clause-go_on
returns-clause-go_on c = steps_go_on
