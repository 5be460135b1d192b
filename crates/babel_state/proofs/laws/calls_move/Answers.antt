use Rattle.babel_state.proofs.Moving.{places_move, tick_moves, cost_moves, announced_moves, withdrawn_moves, raised_moves}
use Rattle.babel_state.proofs.Requesting.{requested_moves}
use Rattle.babel_state.proofs.LostLinks.{losing_moves}
use Rattle.babel_state.proofs.laws.calls_move.Goals as goal

pub returns-clause-datagrams : goal.returns-clause-datagrams
returns-clause-datagrams c = places_move

pub returns-clause-tick : goal.returns-clause-tick
returns-clause-tick c = tick_moves

pub returns-clause-set_cost : goal.returns-clause-set_cost
returns-clause-set_cost c = cost_moves

pub returns-clause-announce : goal.returns-clause-announce
returns-clause-announce c = announced_moves

pub returns-clause-withdraw : goal.returns-clause-withdraw
returns-clause-withdraw c = withdrawn_moves

pub returns-clause-raise : goal.returns-clause-raise
returns-clause-raise c = raised_moves

pub returns-clause-request_seqnos : goal.returns-clause-request_seqnos
returns-clause-request_seqnos c = requested_moves

pub returns-clause-lose_links : goal.returns-clause-lose_links
returns-clause-lose_links c = losing_moves
