use Rattle.babel_machine.proofs.Following.{no_loop_after}
use Rattle.babel_machine.proofs.laws.no_loop_after_any_events.Goals as goal

pub returns : goal.returns
returns c = no_loop_after
