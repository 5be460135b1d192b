use Rattle.babel_machine.proofs.Following.{sound_no_loop, sound_no_loop_one_origin}
use Rattle.babel_machine.proofs.Joining.{sound_together}
use Rattle.babel_machine.proofs.laws.sound_networks_have_no_loop.Goals as goal

pub returns-clause-named : goal.returns-clause-named
returns-clause-named c = sound_no_loop

pub returns-clause-one_origin : goal.returns-clause-one_origin
returns-clause-one_origin c = sound_no_loop_one_origin

pub returns-clause-together : goal.returns-clause-together
returns-clause-together c = sound_together
