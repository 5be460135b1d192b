use Rattle.babel_state.proofs.Grouping.{items_go, targets_keep}
use Rattle.babel_state.proofs.laws.groups_keep_the_order.Goals as goal

pub returns-clause-targets : goal.returns-clause-targets
returns-clause-targets c = items_go

pub returns-clause-same : goal.returns-clause-same
returns-clause-same c = targets_keep
