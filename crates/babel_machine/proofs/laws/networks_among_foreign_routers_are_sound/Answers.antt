use Rattle.babel_machine.proofs.ForeignKept.{networks_sound}
use Rattle.babel_machine.proofs.laws.networks_among_foreign_routers_are_sound.Goals as goal

pub returns : goal.returns
returns c = networks_sound
