use Rattle.babel_mixed.proofs.MixedNetworks.{mixed_no_loop}
use Rattle.babel_mixed.proofs.laws.mixed_networks_have_no_loop.Goals as goal

pub returns : goal.returns
returns c = mixed_no_loop c.no_loop_among_foreign_routers.ensures.neighbours c.no_loop_among_foreign_routers.ensures.next_hops
