use Rattle.babel_state.proofs.WellFormed.{message_current, cost_current, cost_routes, announced_current, withdrawn_current, raised_current}
use Rattle.babel_state.proofs.DatagramsSent.{selected_stay}
use Rattle.babel_state.proofs.HalfCircle.{half_current, sending_selections}
use Rattle.babel_state.proofs.PlacesCurrent.{places_current}
use Rattle.babel_state.proofs.LostLinks.{losing_current}
use Rattle.babel_state.proofs.Requesting.{requested_current}
use Rattle.babel_state.proofs.laws.selections_stay_current.Goals as goal

pub returns-clause-messages : goal.returns-clause-messages
returns-clause-messages c = message_current

pub returns-clause-set_cost : goal.returns-clause-set_cost
returns-clause-set_cost c = cost_current

pub returns-clause-set_cost_routes : goal.returns-clause-set_cost_routes
returns-clause-set_cost_routes c = cost_routes

pub returns-clause-announce : goal.returns-clause-announce
returns-clause-announce c = announced_current

pub returns-clause-withdraw : goal.returns-clause-withdraw
returns-clause-withdraw c = withdrawn_current

pub returns-clause-raise : goal.returns-clause-raise
returns-clause-raise c = raised_current

pub returns-clause-next_datagram : goal.returns-clause-next_datagram
returns-clause-next_datagram c = selected_stay

pub returns-clause-sending : goal.returns-clause-sending
returns-clause-sending c = sending_selections

pub returns-clause-half : goal.returns-clause-half
returns-clause-half c = half_current

pub returns-clause-datagrams : goal.returns-clause-datagrams
returns-clause-datagrams c = places_current

pub returns-clause-request_seqnos : goal.returns-clause-request_seqnos
returns-clause-request_seqnos c = requested_current

pub returns-clause-lose_links : goal.returns-clause-lose_links
returns-clause-lose_links c = losing_current
