-- There are no fewer prefixes than selections that are left.
use Rattle.std.proofs.Common.{ap, length, arith}
use Rattle.babel_speaker.proofs.Reaching.{no_fewer}
use Rattle.babel_speaker.proofs.tables.reachable.Reachable.at_least.Goals as goal

pub returns : goal.returns
returns c =
    let walk = c.self.inside in
    omega (arith, c.len.ensures, no_fewer walk.announced.now walk.routes.now.selections walk.own walk.selected c.self.invariant.1, ap length c.self.view_is)
