-- Before the least of the deadlines none of them is due.
use Rattle.std.proofs.Common.{arith}
use Rattle.babel_link.proofs.DueLemmas.{quiet_link}
use Rattle.babel_link.proofs.links.Link.due.Goals as goal

pub returns : goal.returns
returns c now early =
    quiet_link now c.args.self.now (c.hello_due.ensures now (omega arith)) (c.hello_due-2.ensures now (omega arith)) (c.txcost_due.ensures now (omega arith))
