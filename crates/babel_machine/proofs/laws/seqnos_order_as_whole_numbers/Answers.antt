use Rattle.babel_machine.proofs.Following.{orders_agree}
use Rattle.babel_machine.proofs.laws.seqnos_order_as_whole_numbers.Goals as goal

pub returns : goal.returns
returns c = orders_agree
