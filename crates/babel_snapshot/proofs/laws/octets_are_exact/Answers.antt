use Rattle.babel_snapshot.proofs.Orders.{sources_in_order}
use Rattle.babel_snapshot.proofs.SnapshotsWritten.{octets_exact}
use Rattle.babel_snapshot.proofs.laws.octets_are_exact.Goals as goal

pub returns-clause-exact : goal.returns-clause-exact
returns-clause-exact c = octets_exact

pub returns-clause-order : goal.returns-clause-order
returns-clause-order c = sources_in_order
