-- Before the least moment no timer is due.
use Rattle.std.proofs.Common.{◌≡◌, false, subst}
use Rattle.std.specs.List.{list_any}
use Rattle.std.proofs.lemmas.Bool.{leb-false}
use Rattle.babel_speaker.specs.DueTimers.{has_due_timer}
use Rattle.babel_speaker.proofs.TimerDues.{none_due}
use Rattle.babel_speaker.proofs.tables.interfaces.Interfaces.may_be_due.Goals as goal

pub returns : goal.returns
returns c = λ early.
    let inside = c.self.inside in
    subst (λ is. list_any (has_due_timer c.args.now) is ≡ false) c.self.view_is
    (none_due c.args.now inside.due inside.entries.items (leb-false inside.due c.args.now early) c.self.invariant.2)
