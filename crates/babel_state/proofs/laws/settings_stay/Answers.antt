use Rattle.babel_state.proofs.SettingsKept.{message_settings, tick_settings, sending_settings, announced_settings, withdrawn_settings, raised_settings, cost_settings}
use Rattle.babel_state.proofs.LostLinks.{losing_settings}
use Rattle.babel_state.proofs.Requesting.{requested_settings}
use Rattle.babel_state.proofs.laws.settings_stay.Goals as goal

pub returns-clause-messages : goal.returns-clause-messages
returns-clause-messages c = message_settings

pub returns-clause-tick : goal.returns-clause-tick
returns-clause-tick c = tick_settings

pub returns-clause-next_datagram : goal.returns-clause-next_datagram
returns-clause-next_datagram c = sending_settings

pub returns-clause-announce : goal.returns-clause-announce
returns-clause-announce c = announced_settings

pub returns-clause-withdraw : goal.returns-clause-withdraw
returns-clause-withdraw c = withdrawn_settings

pub returns-clause-raise : goal.returns-clause-raise
returns-clause-raise c = raised_settings

pub returns-clause-set_cost : goal.returns-clause-set_cost
returns-clause-set_cost c = cost_settings

pub returns-clause-request_seqnos : goal.returns-clause-request_seqnos
returns-clause-request_seqnos c = requested_settings

pub returns-clause-lose_links : goal.returns-clause-lose_links
returns-clause-lose_links c = losing_settings
