-- If no deadline is due, a tick leaves the link as it is.
use Rattle.std.proofs.Common.{arith}
use Rattle.std.proofs.lemmas.Bool.{leb-false}
use Rattle.babel_link.proofs.DueLemmas.{quiet_link}
use Rattle.babel_link.proofs.links.Link.is_due.Goals as goal

pub returns : goal.returns
returns c early =
    quiet_link c.args.now c.args.self.now (c.hello_due.ensures c.args.now (omega arith)) (c.hello_due-2.ensures c.args.now (omega arith))
    (c.txcost_due.ensures c.args.now (leb-false c.txcost_due.result c.args.now early))
