use Rattle.babel_state.proofs.CurrentLaws.{new_current, reselections_current, ticks_current}
use Rattle.babel_state.proofs.laws.selections_are_current.Goals as goal

pub returns-clause-new : goal.returns-clause-new
returns-clause-new c = new_current

pub returns-clause-all : goal.returns-clause-all
returns-clause-all c = reselections_current

pub returns-clause-tick : goal.returns-clause-tick
returns-clause-tick c = ticks_current
