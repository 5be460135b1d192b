-- Each type of TLV is a case of its own.
use Rattle.babel_packet.proofs.FirstReasons.{reasons_are_first, states_are_of_two_types}
use Rattle.babel_packet.proofs.laws.reasons_are_the_first_that_apply.Goals as goal

pub returns-clause-reason : goal.returns-clause-reason
returns-clause-reason c = reasons_are_first

pub returns-clause-state : goal.returns-clause-state
returns-clause-state c = states_are_of_two_types
