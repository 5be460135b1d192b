use Rattle.babel_state.proofs.LostLinks.{losing_own}
use Rattle.babel_state.proofs.laws.lost_links_keep_what_is_own.Goals as goal

pub returns : goal.returns
returns c = losing_own
