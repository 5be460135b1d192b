use Rattle.std.proofs.lemmas.List.Elements.{All-weaker}
use Rattle.babel_machine.specs.Machine.{first_state, first_states}
use Rattle.babel_machine.proofs.MachineSound.{IsSound-first_state, IsSound-run, AllSound-first_states, AllSound-run}
use Rattle.babel_machine.proofs.MachineCycle.{no_cycle, owner_has_no_pick}
use Rattle.babel_machine.proofs.machine.laws.no_cycle_after_any_run.Goals as goal

pub returns-clause-machine : goal.returns-clause-machine
returns-clause-machine c = λ nodes owners steps last inside run. All-weaker _ _ no_cycle last (AllSound-run (first_states nodes owners) last steps (AllSound-first_states nodes owners inside) run)

pub returns-clause-source : goal.returns-clause-source
returns-clause-source c = λ nodes owner steps last inside run. no_cycle last (IsSound-run (first_state nodes owner) last steps (IsSound-first_state nodes owner inside) run)

pub returns-clause-owner : goal.returns-clause-owner
returns-clause-owner c = λ nodes owner steps last inside run. owner_has_no_pick last (IsSound-run (first_state nodes owner) last steps (IsSound-first_state nodes owner inside) run)
