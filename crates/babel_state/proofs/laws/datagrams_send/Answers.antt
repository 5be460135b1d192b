use Rattle.babel_state.proofs.DatagramsSent.{datagrams_send, none_changes_nothing}
use Rattle.babel_state.proofs.laws.datagrams_send.Goals as goal

pub returns-clause-sent : goal.returns-clause-sent
returns-clause-sent c = datagrams_send

pub returns-clause-none : goal.returns-clause-none
returns-clause-none c = none_changes_nothing
