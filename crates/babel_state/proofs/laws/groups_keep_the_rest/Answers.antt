use Rattle.babel_state.proofs.Grouping.{grouped_well, grouped_moves, grouped_current, grouped_settings}
use Rattle.babel_state.proofs.laws.groups_keep_the_rest.Goals as goal

pub returns-clause-well_formed : goal.returns-clause-well_formed
returns-clause-well_formed c = grouped_well

pub returns-clause-moves : goal.returns-clause-moves
returns-clause-moves c = grouped_moves

pub returns-clause-current : goal.returns-clause-current
returns-clause-current c = grouped_current

pub returns-clause-settings : goal.returns-clause-settings
returns-clause-settings c = grouped_settings
