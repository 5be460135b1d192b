use Rattle.babel_state.proofs.Restarting.{restarts_seen, snapshots_seen, snapshots_whole, restored_well, restarts_well, restored_current}
use Rattle.babel_state.proofs.laws.restarts_are_seen.Goals as goal

pub returns-clause-restarted : goal.returns-clause-restarted
returns-clause-restarted c = restarts_seen

pub returns-clause-restored : goal.returns-clause-restored
returns-clause-restored c = snapshots_seen

pub returns-clause-whole : goal.returns-clause-whole
returns-clause-whole c = snapshots_whole

pub returns-clause-restored_well_formed : goal.returns-clause-restored_well_formed
returns-clause-restored_well_formed c = restored_well

pub returns-clause-restarted_well_formed : goal.returns-clause-restarted_well_formed
returns-clause-restarted_well_formed c = restarts_well

pub returns-clause-current : goal.returns-clause-current
returns-clause-current c = restored_current
