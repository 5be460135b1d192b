-- The history fires at its deadline, and not before.
use Rattle.babel_link.proofs.DueLemmas.{not_fired, not_timed}
use Rattle.babel_link.proofs.links.hello_due.Goals as goal

pub returns-in-Some-timer : goal.returns-in-Some-timer
returns-in-Some-timer c now early = not_fired now c.args.history c.in-Some.history c.in-Some.is c.in-Some-timer.timer c.in-Some-timer.is early

pub returns-in-None-timer : goal.returns-in-None-timer
returns-in-None-timer c now early = not_timed now c.args.history c.in-Some.history c.in-Some.is c.in-None-timer.is
