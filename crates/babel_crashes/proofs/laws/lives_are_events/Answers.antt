use Rattle.babel_crashes.proofs.IntakeEvents.{lives_are_events}
use Rattle.babel_crashes.proofs.laws.lives_are_events.Goals as goal

pub returns : goal.returns
returns c = lives_are_events c.steps_are_events.ensures
