-- The machine's calls refuse only what its steps forbid.
use Rattle.std.proofs.Common.{◌≡◌, ℕ, ◌<◌, Some, length, Contains, refl, sym, ◌∙◌, subst, inl, inr, arith}
use Rattle.std.proofs.lemmas.Bool.{cases_lt}
use Rattle.std.proofs.lemmas.Bool.Decides.{nat_tests}
use Rattle.std.proofs.lemmas.List.{get_or_past}
use Rattle.std.proofs.lemmas.Option.{none-some}
use Rattle.babel_machine.specs.declared.machine.pair.Pair.{Pair}
use Rattle.babel_machine.specs.declared.errors.MachineFault.{MachineFault}
use Rattle.babel_machine.specs.declared.errors.MachineFault.TheVariants.{OutOfRange, CountAtGreatest, MayNotSend, MayNotPick, Memory}
use Rattle.babel_machine.specs.declared.machine.step.Step.{Step}
use Rattle.babel_machine.specs.declared.machine.step.Step.TheVariants.{Raise, Announce, Choose, Drop}
use Rattle.babel_machine.specs.Machine.{HasSent, SourceState, NodeState, quiet, MaySend, Steps}
use Rattle.babel_machine.specs.MachineRefusals.{announced, Refused, HasRoom}
use Rattle.babel_machine.specs.Cycle.{OwnerHasNoPick}
use Rattle.babel_machine.specs.Sound.{IsSound}
use Rattle.babel_machine.proofs.MachineCycle.{owner_has_no_pick}

-- only a node that is there has sent something
sender_in_range : (s : SourceState) (b : ℕ) (pair : Pair) → HasSent s b pair → b < length s.nodes
sender_in_range s b pair h =
    elim (cases_lt b (length s.nodes)) [ inl inside ↦ inside | inr past ↦ let sent : Contains quiet.sent pair = subst (λ (n : NodeState). Contains n.sent pair) (get_or_past s.nodes b quiet past) h in absurd (omega arith) ]

announced-may_send : (s : SourceState) (a : ℕ) (pair : Pair) → OwnerHasNoPick s → MaySend s a pair → announced s a pair.metric ≡ Some pair
announced-may_send s a pair free may = grind (arith, nat_tests, may, free)

-- a step that can be made is refused for want of room or memory alone
pub allowed : (s t : SourceState) (step : Step) → IsSound s → Steps s step t → HasRoom s step → (fault : MachineFault) → Refused s step fault → fault ≡ Memory
allowed s t Raise sound h room OutOfRange refused = absurd (refused tt)
allowed s t (Announce a m) sound h room OutOfRange refused = absurd (refused h.inside)
allowed s t (Choose a b p) sound h room OutOfRange refused = absurd (refused (h.0, sender_in_range s b p h.1.sent))
allowed s t (Drop a) sound h room OutOfRange refused = absurd (refused h.0)
allowed s t Raise sound h room CountAtGreatest refused = absurd (refused room)
allowed s t (Announce a m) sound h room MayNotSend refused =
    absurd (none-some h.pair (sym refused.1 ∙ subst (λ k. announced s a k ≡ Some h.pair) h.under (announced-may_send s a h.pair (owner_has_no_pick s sound) h.may)))
allowed s t (Choose a b p) sound h room MayNotPick refused = absurd (refused.1 h.1)
allowed s t step sound h room Memory refused = refl
allowed s t step sound h room fault refused = absurd refused
