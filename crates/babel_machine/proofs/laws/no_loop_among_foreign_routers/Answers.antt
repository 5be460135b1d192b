use Rattle.babel_machine.proofs.ForeignLoops.{no_loop_of_neighbours, no_loop_of_next_hops}
use Rattle.babel_machine.proofs.laws.no_loop_among_foreign_routers.Goals as goal

pub returns-clause-neighbours : goal.returns-clause-neighbours
returns-clause-neighbours c = no_loop_of_neighbours

pub returns-clause-next_hops : goal.returns-clause-next_hops
returns-clause-next_hops c = no_loop_of_next_hops
