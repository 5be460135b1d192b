use Rattle.babel_state.proofs.Requesting.{requests_kept_rest}
use Rattle.babel_state.proofs.Reselecting.{reselects_base, all_base}
use Rattle.babel_state.proofs.laws.reselections_keep_the_rest.Goals as goal

pub returns-clause-one : goal.returns-clause-one
returns-clause-one c = reselects_base

pub returns-clause-all : goal.returns-clause-all
returns-clause-all c = all_base

pub returns-clause-request_seqnos : goal.returns-clause-request_seqnos
returns-clause-request_seqnos c = requests_kept_rest
