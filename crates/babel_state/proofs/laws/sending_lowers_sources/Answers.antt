use Rattle.babel_state.proofs.SendingLaws.{sending_known, sending_lowers}
use Rattle.babel_state.proofs.laws.sending_lowers_sources.Goals as goal

pub returns-clause-known : goal.returns-clause-known
returns-clause-known c = sending_known

pub returns-clause-sources : goal.returns-clause-sources
returns-clause-sources c = sending_lowers
