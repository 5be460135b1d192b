use Rattle.babel_state.proofs.Keeping.{tick_own}
use Rattle.babel_state.proofs.laws.ticks_keep_what_is_own.Goals as goal

pub returns : goal.returns
returns c = tick_own
