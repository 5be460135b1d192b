use Rattle.babel_wire.proofs.DurableTurns.{turns_go_on}
use Rattle.babel_wire.proofs.laws.durable_turns_go_on.Goals as goal

pub returns : goal.returns
returns c = turns_go_on
