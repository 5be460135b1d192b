-- A current selection is what a reselection would leave.
use Rattle.babel_state.proofs.SettledLemmas.{nothing_reselected, hello_current, ihu_current, timers_settled}
use Rattle.babel_state.proofs.laws.settled_speakers_reselect_nothing.Goals as goal

pub returns-clause-settled : goal.returns-clause-settled
returns-clause-settled c now s sorted current = nothing_reselected now s sorted current

pub returns-clause-hello : goal.returns-clause-hello
returns-clause-hello c now peer unicast seqno interval s kept same current = hello_current now peer unicast seqno interval s kept same current

pub returns-clause-ihu : goal.returns-clause-ihu
returns-clause-ihu c now peer rxcost interval s same current = ihu_current now peer rxcost interval s same current

pub returns-clause-timers : goal.returns-clause-timers
returns-clause-timers c now s current = timers_settled now s current
