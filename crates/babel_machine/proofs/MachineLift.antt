-- A call on one source of the machine, read and written at its place.
use Rattle.std.proofs.Common.{◌≡◌, ℕ, ◌<◌, List, Result, Ok, Err, Some, length, get_or, set, slice_get, All, OnOk, OnErr, IfErr, MatchOption, refl, sym, ap, subst}
use Rattle.std.proofs.lemmas.Option.{slice_get_read}
use Rattle.std.proofs.lemmas.List.Elements.{All-set}
use Rattle.babel_machine.specs.declared.errors.MachineFault.{MachineFault}
use Rattle.babel_machine.specs.declared.errors.MachineFault.TheVariants.{OutOfRange}
use Rattle.babel_machine.specs.declared.machine.step.Step.{Step}
use Rattle.babel_machine.specs.Machine.{SourceState, Steps, StepsAt}
use Rattle.babel_machine.specs.MachineRefusals.{Refused, RefusedAt, HasRoom, IsAllowedAt}
use Rattle.babel_machine.specs.Sound.{IsSound}
use Rattle.babel_machine.proofs.MachineSound.{IsSound-step}
use Rattle.babel_machine.proofs.MachineAllowed.{allowed}

-- the source at this place of the machine, whose sources are all sound
pub record IsRead (machine sources : List SourceState) (i : ℕ) (source : SourceState) : Type 0 where
  pub is : sources ≡ machine
  pub inside : i < length sources
  pub read : source ≡ get_or sources i source
  pub sound : All IsSound sources

there : (machine sources : List SourceState) (i : ℕ) (old : SourceState) → IsRead machine sources i old → slice_get machine i ≡ Some old
there machine sources i old r = subst (λ all. slice_get all i ≡ Some old) r.is (slice_get_read sources (length sources) i old refl r.inside r.read)

sound_there : (machine sources : List SourceState) (i : ℕ) (old : SourceState) → IsRead machine sources i old → IsSound old
sound_there machine sources i old r = subst IsSound (sym r.read) (r.sound i old r.inside)

pub lifted_ok : (machine sources : List SourceState) (i : ℕ) (old new : SourceState) (step : Step) (result : Result Unit MachineFault) → IsRead machine sources i old → OnOk result (Steps old step new) → OnOk result (StepsAt machine i step (set sources i new))
lifted_ok machine sources i old new step (Ok _) r h =
    (old, new, there machine sources i old r, h, ap (λ all. set all i new) r.is)
lifted_ok machine sources i old new step (Err _) r h = tt

pub lifted_refused : (machine sources : List SourceState) (i : ℕ) (old : SourceState) (step : Step) (result : Result Unit MachineFault) → IsRead machine sources i old → IfErr result (Refused old step) → IfErr result (RefusedAt machine i step)
lifted_refused machine sources i old step (Ok _) r h = tt
lifted_refused machine sources i old step (Err fault) r h =
    subst (λ o. MatchOption o (fault ≡ OutOfRange) (λ source. Refused source step fault)) (sym (there machine sources i old r)) h

pub lifted_allowed : (machine sources : List SourceState) (i : ℕ) (old new : SourceState) (step : Step) (result : Result Unit MachineFault) → IsRead machine sources i old → OnOk result (Steps old step new) → OnOk result (HasRoom old step) → OnOk result (IsAllowedAt machine i step)
lifted_allowed machine sources i old new step (Ok _) r h room = λ fault refused. allowed old new step (sound_there machine sources i old r) h room fault (subst (λ o. MatchOption o (fault ≡ OutOfRange) (λ source. Refused source step fault)) (there machine sources i old r) refused)
lifted_allowed machine sources i old new step (Err _) r h room = tt

pub lifted_sound : (machine sources : List SourceState) (i : ℕ) (old new : SourceState) (step : Step) (result : Result Unit MachineFault) → IsRead machine sources i old → OnOk result (Steps old step new) → OnErr result (new ≡ old) → All IsSound (set sources i new)
lifted_sound machine sources i old new step (Ok _) r h same =
    All-set IsSound sources i new (IsSound-step old new step (sound_there machine sources i old r) h) r.sound
lifted_sound machine sources i old new step (Err _) r h same =
    All-set IsSound sources i new (subst IsSound (sym same) (sound_there machine sources i old r)) r.sound
