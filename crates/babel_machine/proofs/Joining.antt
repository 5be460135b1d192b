-- Runs of several sources are one run of the machine.
use Rattle.std.proofs.Common.{◌≡◌, ℕ, List, [], ◌∷◌, ◌++◌, Some, length, map, set, slice_get, All, refl, sym, ap, subst}
use Rattle.std.proofs.lemmas.List.{append_assoc}
use Rattle.std.proofs.lemmas.List.Elements.{All-weaker, All-head, All-tail, All-map}
use Rattle.babel_state.specs.declared.configs.Config.{Config}
use Rattle.babel_machine.specs.declared.events.Event.{Event}
use Rattle.babel_machine.specs.declared.machine.step.Step.{Step}
use Rattle.babel_machine.specs.Machine.{SourceState, Run, MachineRun}
use Rattle.babel_machine.specs.Cycle.{NoCycle}
use Rattle.babel_machine.specs.Owners.{AreApart}
use Rattle.babel_machine.specs.Worlds.{World}
use Rattle.babel_machine.specs.Happenings.{Happens, HappenAll, last_world}
use Rattle.babel_machine.specs.Views.{NetSource, IsSource, IsCounted, view}
use Rattle.babel_machine.specs.Invariants.{IsInvariant}
use Rattle.babel_machine.specs.NetworkLaws.{RunTogether, RunTogetherThrough, SourcesRunTogether, SoundRunsTogether}
use Rattle.babel_machine.proofs.Beginning.{IsInvariant-first}
use Rattle.babel_machine.proofs.EventsKept.{event_invariant, event_run}
use Rattle.babel_machine.proofs.Following.{counted_before, invariant_after}
use Rattle.babel_machine.proofs.MachineCycle.{no_cycle}

-- what is at the end of the first part of a list, and what is written there
get_between : (done : List SourceState) (x : SourceState) (rest : List SourceState) → slice_get (done ++ x ∷ rest) (length done) ≡ Some x
get_between [] x rest = refl
get_between (d ∷ done) x rest = get_between done x rest

set_between : (done : List SourceState) (x y : SourceState) (rest : List SourceState) → set (done ++ x ∷ rest) (length done) y ≡ done ++ y ∷ rest
set_between [] x y rest = refl
set_between (d ∷ done) x y rest = ap (λ xs. d ∷ xs) (set_between done x y rest)

-- a run of one source is a run of the machine
run_between : (done : List SourceState) (s t : SourceState) (rest : List SourceState) (steps : List Step) → Run s steps t → MachineRun (done ++ s ∷ rest) (map (λ step. (length done, step)) steps) (done ++ t ∷ rest)
run_between done s t rest [] h = ap (λ x. done ++ x ∷ rest) h
run_between done s t rest (step ∷ steps) h =
    (done ++ h.0 ∷ rest, (s, h.0, get_between done s rest, h.1, sym (set_between done s h.0 rest)), run_between done h.0 t rest steps h.2)

machine_join : (a b c : List SourceState) (one other : List (ℕ × Step)) → MachineRun a one b → MachineRun b other c → MachineRun a (one ++ other) c
machine_join a b c [] other h g = subst (λ z. MachineRun z other c) h g
machine_join a b c (step ∷ steps) other h g = (h.0, h.1, machine_join h.0 b c steps other h.2 g)

-- runs of all sources of a list, one source after the other
run_all : (f g : NetSource → SourceState) (done : List SourceState) (sources : List NetSource) → All (λ s. (steps : List Step) × Run (f s) steps (g s)) sources → (steps : List (ℕ × Step)) × MachineRun (done ++ map f sources) steps (done ++ map g sources)
run_all f g done [] h = ([], refl)
run_all f g done (s ∷ ss) h =
    let first = All-head (λ s. (steps : List Step) × Run (f s) steps (g s)) s ss h in
    let rest = run_all f g (done ++ g s ∷ []) ss (All-tail (λ s. (steps : List Step) × Run (f s) steps (g s)) s ss h) in
    let later = subst (λ z. MachineRun z rest.0 (done ++ g s ∷ map g ss)) (append_assoc done (g s ∷ []) (map f ss)) (subst (λ z. MachineRun ((done ++ g s ∷ []) ++ map f ss) rest.0 z) (append_assoc done (g s ∷ []) (map g ss)) rest.1) in
    (map (λ step. (length done, step)) first.0 ++ rest.0, machine_join _ _ _ (map (λ step. (length done, step)) first.0) rest.0 (run_between done (f s) (g s) (map f ss) first.0 first.1) later)

together : (configs : List Config) (event : Event) (old new : World) (sources : List NetSource) → AreApart configs → IsInvariant configs old → Happens configs event old new → All (λ s. IsSource configs s × IsCounted s new) sources → RunTogether configs sources old new
together configs event old new sources apart inv h all =
    run_all (λ s. view configs s old) (λ s. view configs s new) [] sources (All-weaker (λ s. IsSource configs s × IsCounted s new) (λ s. (steps : List Step) × Run (view configs s old) steps (view configs s new)) (λ s is. let run = event_run configs event old new s apart inv h is.0 is.1 in (run.steps, run.run)) sources all)

through : (configs : List Config) (w : World) (events : List Event) (worlds : List World) (sources : List NetSource) → AreApart configs → IsInvariant configs w → HappenAll configs events w worlds → All (λ s. IsSource configs s × IsCounted s (last_world w worlds)) sources → RunTogetherThrough configs sources w worlds
through configs w [] [] sources apart inv h all = tt
through configs w [] (v ∷ vs) sources apart inv h all = absurd h
through configs w (event ∷ events) [] sources apart inv h all = absurd h
through configs w (event ∷ events) (v ∷ vs) sources apart inv h all =
    let next = event_invariant configs event w v apart inv h.0 in
    (together configs event w v sources apart inv h.0 (All-weaker (λ s. IsSource configs s × IsCounted s (last_world v vs)) (λ s. IsSource configs s × IsCounted s v) (λ s is. (is.0, counted_before configs v events vs s apart next h.1 is.0 is.1)) sources all), through configs v events vs sources apart next h.1 all)

pub sound_together : SoundRunsTogether
sound_together configs first events worlds sources apart inv h all =
    (through configs first events worlds sources apart inv h all, All-map NoCycle (λ s. view configs s (last_world first worlds)) sources (All-weaker (λ s. IsSource configs s × IsCounted s (last_world first worlds)) (λ s. NoCycle (view configs s (last_world first worlds))) (λ s each. no_cycle _ ((invariant_after configs first events worlds apart inv h).counted s each.0 each.1).sound) sources all))

pub sources_together : SourcesRunTogether
sources_together configs first events worlds sources apart is h all =
    sound_together configs first events worlds sources apart (IsInvariant-first configs first apart is) h all
