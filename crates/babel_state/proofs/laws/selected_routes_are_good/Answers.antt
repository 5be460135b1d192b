use Rattle.babel_state.proofs.SeeingLaws.{new_is_new, current_selecting}
use Rattle.babel_state.proofs.laws.selected_routes_are_good.Goals as goal

pub returns-clause-new : goal.returns-clause-new
returns-clause-new c = new_is_new

pub returns-clause-current : goal.returns-clause-current
returns-clause-current c = current_selecting
