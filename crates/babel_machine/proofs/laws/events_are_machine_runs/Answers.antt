use Rattle.babel_machine.proofs.EventsKept.{event_run}
use Rattle.babel_machine.proofs.laws.events_are_machine_runs.Goals as goal

pub returns : goal.returns
returns c = event_run
