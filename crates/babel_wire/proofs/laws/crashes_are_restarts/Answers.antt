use Rattle.babel_wire.proofs.Covering.{crash_restarts}
use Rattle.babel_wire.proofs.Restored.{same_snapshot}
use Rattle.babel_wire.proofs.laws.crashes_are_restarts.Goals as goal

pub returns-clause-restored : goal.returns-clause-restored
returns-clause-restored c = crash_restarts

pub returns-clause-same : goal.returns-clause-same
returns-clause-same c = same_snapshot
