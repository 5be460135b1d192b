use Rattle.babel_machine.proofs.Following.{next_hop_is_pick}
use Rattle.babel_machine.proofs.laws.next_hops_are_picks.Goals as goal

pub returns : goal.returns
returns c = next_hop_is_pick
