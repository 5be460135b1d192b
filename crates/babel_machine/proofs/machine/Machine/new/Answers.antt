use Rattle.std.proofs.Common.{◌<◌, All, sym, subst, ◌∙◌, ap, rules}
use Rattle.babel_machine.specs.Machine.{first_states}
use Rattle.babel_machine.specs.Sound.{IsSound}
use Rattle.babel_machine.proofs.MachineSound.{AllSound-first_states}
use Rattle.babel_machine.proofs.machine.Machine.new.Goals as goal

pub invariant_of-result : goal.invariant_of-result
invariant_of-result c =
    let nodes = c.args.nodes in
    let inside : All (λ owner. owner < nodes) c.args.owners.items = search rules in
    let first = c.in_ok-sources.ensures ∙ ap (first_states nodes) c.deref-2.ensures.value in
    subst (All IsSound) (sym first) (AllSound-first_states nodes c.args.owners.items inside)
