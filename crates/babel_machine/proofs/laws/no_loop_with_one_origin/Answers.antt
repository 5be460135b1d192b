use Rattle.babel_machine.proofs.Following.{no_loop_one_origin}
use Rattle.babel_machine.proofs.laws.no_loop_with_one_origin.Goals as goal

pub returns : goal.returns
returns c = no_loop_one_origin
