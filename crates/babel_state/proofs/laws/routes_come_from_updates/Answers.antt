use Rattle.babel_state.proofs.Hearing.{messages_heard, ticks_heard}
use Rattle.babel_state.proofs.laws.routes_come_from_updates.Goals as goal

pub returns-clause-messages : goal.returns-clause-messages
returns-clause-messages c = messages_heard

pub returns-clause-ticks : goal.returns-clause-ticks
returns-clause-ticks c = ticks_heard
