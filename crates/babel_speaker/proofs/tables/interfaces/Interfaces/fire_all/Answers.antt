-- No timer is due before the least moment of all.
use Rattle.std.proofs.Common.{ℕ, subst, sym, ◌∙◌, ap, map}
use Rattle.babel_speaker.specs.Deadlines.{never, earliest, interface_due}
use Rattle.babel_speaker.specs.DueTimers.{AreTimersDueFrom}
use Rattle.babel_speaker.proofs.TimerDues.{due_from_earliest}
use Rattle.babel_speaker.proofs.tables.interfaces.Interfaces.fire_all.Goals as goal

pub invariant_of-self : goal.invariant_of-self
invariant_of-self c =
    let items = c.self-2.inside.entries.items in
    let least = sym (c.earliest_interface-self-inside.ensures ∙ ap (λ is. earliest never (map interface_due is)) (sym c.self-2.view_is)) in (
      c.self-2.invariant.0,
      c.self-2.invariant.1,
      subst (λ (due : ℕ). AreTimersDueFrom due items) least (due_from_earliest never items),
    )
