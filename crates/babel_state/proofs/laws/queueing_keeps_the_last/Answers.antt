use Rattle.babel_state.proofs.Cutting.{queueing-cuts}
use Rattle.babel_state.proofs.Meanings.{queueing_appends}
use Rattle.babel_state.proofs.laws.queueing_keeps_the_last.Goals as goal

pub returns-clause-all : goal.returns-clause-all
returns-clause-all c = queueing-cuts

pub returns-clause-append : goal.returns-clause-append
returns-clause-append c = queueing_appends
