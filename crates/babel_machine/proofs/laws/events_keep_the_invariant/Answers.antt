use Rattle.babel_machine.proofs.EventsKept.{event_invariant}
use Rattle.babel_machine.proofs.laws.events_keep_the_invariant.Goals as goal

pub returns : goal.returns
returns c = event_invariant
