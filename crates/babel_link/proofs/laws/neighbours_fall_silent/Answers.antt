-- The deadlines of Hellos decide who goes, that of the txcost what it is.
use Rattle.babel_link.proofs.DueLemmas.{quiet_tick, quiet_gone}
use Rattle.babel_link.proofs.SilenceLemmas.{gone_if_silent, ticked_from}
use Rattle.babel_link.proofs.laws.neighbours_fall_silent.Goals as goal

pub returns-clause-gone : goal.returns-clause-gone
returns-clause-gone c now link = gone_if_silent now link

pub returns-clause-txcost : goal.returns-clause-txcost
returns-clause-txcost c now link after ticked = (ticked_from now link after ticked).txcost

pub returns-clause-nothing_due : goal.returns-clause-nothing_due
returns-clause-nothing_due c now moment links quiet early = (quiet_tick now moment early links quiet, quiet_gone now moment early links quiet)
