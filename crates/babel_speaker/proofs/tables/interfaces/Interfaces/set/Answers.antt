use Rattle.std.proofs.Common.{◌≤◌, ℕ, subst, sym, arith}
use Rattle.babel_speaker.proofs.ShortHellos.{short_set, set_length}
use Rattle.babel_speaker.proofs.TimerDues.{due_set}
use Rattle.babel_speaker.proofs.tables.interfaces.Interfaces.set.Goals as goal

pub invariant_of-self : goal.invariant_of-self
invariant_of-self c =
    let old = c.self.inside in (
      (let P : ℕ → Type 0 = λ n. n ≤ 8 in subst P (sym (set_length old.entries.items c.from.result c.args.entry)) c.self.invariant.0),
      short_set old.entries.items c.from.result c.args.entry c.self.invariant.1 c.requires.hello,
      due_set old.due c.min-self-inside.result old.entries.items c.from.result c.args.entry (omega (arith, c.min-self-inside.ensures)) (omega (arith, c.min-self-inside.ensures, c.interface_due.ensures)) c.self.invariant.2,
    )
