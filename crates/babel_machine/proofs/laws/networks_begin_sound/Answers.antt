use Rattle.babel_machine.proofs.Beginning.{IsInvariant-first, view_first}
use Rattle.babel_machine.proofs.laws.networks_begin_sound.Goals as goal

pub returns-clause-sound : goal.returns-clause-sound
returns-clause-sound c = IsInvariant-first

pub returns-clause-view : goal.returns-clause-view
returns-clause-view c = view_first
