use Rattle.babel_state.proofs.LostLinks.{losing_well}
use Rattle.babel_state.proofs.NewState.{new_well}
use Rattle.babel_state.proofs.Requesting.{requested_well}
use Rattle.babel_state.proofs.SendingTables.{sending_well}
use Rattle.babel_state.proofs.WellFormed.{message_well, tick_well, cost_well, announced_well, withdrawn_well, raised_well}
use Rattle.babel_state.proofs.laws.states_are_well_formed.Goals as goal

pub returns-clause-new : goal.returns-clause-new
returns-clause-new c = new_well

pub returns-clause-messages : goal.returns-clause-messages
returns-clause-messages c = message_well

pub returns-clause-tick : goal.returns-clause-tick
returns-clause-tick c = tick_well

pub returns-clause-next_datagram : goal.returns-clause-next_datagram
returns-clause-next_datagram c = sending_well

pub returns-clause-set_cost : goal.returns-clause-set_cost
returns-clause-set_cost c = cost_well

pub returns-clause-announce : goal.returns-clause-announce
returns-clause-announce c = announced_well

pub returns-clause-withdraw : goal.returns-clause-withdraw
returns-clause-withdraw c = withdrawn_well

pub returns-clause-raise : goal.returns-clause-raise
returns-clause-raise c = raised_well

pub returns-clause-request_seqnos : goal.returns-clause-request_seqnos
returns-clause-request_seqnos c = requested_well

pub returns-clause-lose_links : goal.returns-clause-lose_links
returns-clause-lose_links c = losing_well
