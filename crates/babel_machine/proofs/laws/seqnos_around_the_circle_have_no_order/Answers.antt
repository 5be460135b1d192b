use Rattle.babel_machine.proofs.ForeignLoops.{seqnos_go_around}
use Rattle.babel_machine.proofs.laws.seqnos_around_the_circle_have_no_order.Goals as goal

pub returns : goal.returns
returns c = seqnos_go_around
