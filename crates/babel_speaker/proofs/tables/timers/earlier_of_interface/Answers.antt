-- The interface is passed, or there is none of the number.
use Rattle.std.proofs.Common.{sym, ap, min, ◌∙◌}
use Rattle.babel_speaker.specs.Deadlines.{interface_due}
use Rattle.babel_speaker.proofs.Earliest.{one_passed, none_passed}
use Rattle.babel_speaker.proofs.tables.timers.earlier_of_interface.Goals as goal

pub returns-in-Some : goal.returns-in-Some
returns-in-Some c =
    one_passed interface_due c.args.interfaces.now c.args.iface c.in-Some.interface c.args.due c.min.result
    (sym c.get.ensures.interface ∙ c.in-Some.is) (c.min.ensures ∙ ap (λ due. min c.args.due due) c.interface_due.ensures)

pub returns-in-None : goal.returns-in-None
returns-in-None c = none_passed interface_due c.args.interfaces.now c.args.iface c.args.due (sym c.get.ensures.interface ∙ c.in-None.is)
