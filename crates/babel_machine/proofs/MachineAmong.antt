-- Among routers of others: the first state is sound, every step keeps it so, and a sound state has no cycle of our nodes.
use Rattle.std.proofs.Common.{◌≡◌, ◌≢◌, ℕ, ◌<◌, List, [], ◌∷◌, Option, Some, None, length, map, refl, sym, ap, ◌∙◌, subst, inl, inr, arith}
use Rattle.std.proofs.lemmas.Bool.{cases_lt}
use Rattle.std.proofs.lemmas.List.{get_or_past, length-set, length-replicate}
use Rattle.std.proofs.lemmas.Option.{same_Some, none-some}
use Rattle.babel_machine.specs.declared.machine.pair.Pair.{Pair}
use Rattle.babel_machine.specs.declared.machine.pick.Pick.{Pick}
use Rattle.babel_machine.specs.declared.machine.step.Step.{Step}
use Rattle.babel_machine.specs.declared.machine.step.Step.TheVariants.{Raise, Announce, Choose, Drop}
use Rattle.babel_machine.specs.Machine.{SourceState, NodeState, quiet, HasPicked, IsBetterPair, MaySend, Run, first_state, with_pick}
use Rattle.babel_machine.specs.Cycle.{NoCycle}
use Rattle.babel_machine.specs.ForeignMachine.{MayPickAmong, StepsAmong, RunAmong, IsSoundAmong, NoCycleAmongForeignRouters}
use Rattle.babel_machine.proofs.MachineNodes.{each_pick, pick-with_sent}
use Rattle.babel_machine.proofs.MachineRising.{nothing_picked, better_than_passed, IsRising-sent, IsRising-with_pick}
use Rattle.babel_machine.proofs.MachineCycle.{no_cycle_rising, no_pick}

pub IsSoundAmong-first_state : (nodes owner : ℕ) → IsSoundAmong nodes (first_state nodes owner)
IsSoundAmong-first_state nodes owner = record {
  size = length-replicate nodes quiet;
  rising = record {
    was_sent = λ node k h _. absurd (nothing_picked nodes owner node k h);
    is_better = λ node k own h _. absurd (nothing_picked nodes owner node k h);
  };
  owner = λ k h. nothing_picked nodes owner owner k h;
}

-- what a node may send is worse than its own pick
worse_than_pick : (nodes : ℕ) (s : SourceState) → IsSoundAmong nodes s → (a : ℕ) (pair : Pair) → MaySend s a pair → (k : Pick) → HasPicked s a k → IsBetterPair k.pair pair
worse_than_pick nodes s sound a pair (inl own) k picked = absurd (sound.owner k (subst (λ b. HasPicked s b k) own.0 picked))
worse_than_pick nodes s sound a pair (inr passed) k picked = better_than_passed s a pair passed k picked

IsSoundAmong-with_pick : (nodes : ℕ) (s : SourceState) → IsSoundAmong nodes s → (a : ℕ) (pick : Option Pick) → a < length s.nodes → ((k : Pick) → pick ≡ Some k → MayPickAmong s a k.from k.pair) → IsSoundAmong nodes (with_pick s a pick)
IsSoundAmong-with_pick nodes s sound a pick inside may = record {
  size = rw length-set sound.size;
  rising = IsRising-with_pick (λ node. node < nodes) s sound.rising a pick inside (λ k new known. (may k new).sent (omega (arith, known, sound.size))) (λ k new. (may k new).better);
  owner = λ k h. each_pick (λ b _. b ≢ s.owner) s a pick inside (λ b j picked is. sound.owner j (subst (λ n. HasPicked s n j) is picked)) (λ j new. (may j new).other) s.owner k h refl;
}

pub IsSoundAmong-step : (nodes : ℕ) (s t : SourceState) (step : Step) → IsSoundAmong nodes s → StepsAmong s step t → IsSoundAmong nodes t
IsSoundAmong-step nodes s t Raise sound h = subst (IsSoundAmong nodes) (sym h.1) (record {
  size = sound.size;
  rising = record { was_sent = sound.rising.was_sent; is_better = sound.rising.is_better };
  owner = sound.owner;
})
IsSoundAmong-step nodes s t (Announce a m) sound h = subst (IsSoundAmong nodes) (sym h.next) (record {
  size = rw length-set sound.size;
  rising = IsRising-sent (λ node. node < nodes) s sound.rising a h.pair h.sent h.adds h.inside (worse_than_pick nodes s sound a h.pair h.may);
  owner = λ k picked. sound.owner k (sym (pick-with_sent s a h.sent h.inside s.owner) ∙ picked);
})
IsSoundAmong-step nodes s t (Choose a b p) sound h =
    subst (IsSoundAmong nodes) (sym h.2) (IsSoundAmong-with_pick nodes s sound a _ h.0 (λ k e. subst (λ (j : Pick). MayPickAmong s a j.from j.pair) (same_Some _ _ e) h.1))
IsSoundAmong-step nodes s t (Drop a) sound h =
    subst (IsSoundAmong nodes) (sym h.1) (IsSoundAmong-with_pick nodes s sound a None h.0 (λ k e. absurd (none-some k e)))

pub IsSoundAmong-run : (nodes : ℕ) (s t : SourceState) (steps : List Step) → IsSoundAmong nodes s → RunAmong s steps t → IsSoundAmong nodes t
IsSoundAmong-run nodes s t [] sound h = subst (IsSoundAmong nodes) (sym h) sound
IsSoundAmong-run nodes s t (step ∷ steps) sound h =
    IsSoundAmong-run nodes h.0 t steps (IsSoundAmong-step nodes s h.0 step sound h.1) h.2

pub no_cycle_among : (nodes : ℕ) (s : SourceState) → IsSoundAmong nodes s → NoCycle s
no_cycle_among nodes s sound = no_cycle_rising (λ node. node < nodes) s sound.rising within
  where
    -- only a node has a pick
    within : (b : ℕ) (j : Pick) → HasPicked s b j → b < nodes
    within b j picked =
        elim (cases_lt b (length s.nodes)) [ inl inside ↦ omega (arith, inside, sound.size) | inr past ↦ absurd (none-some j (sym (ap (λ (n : NodeState). n.pick) (get_or_past s.nodes b quiet past)) ∙ picked)) ]

pub no_cycle_among_any : NoCycleAmongForeignRouters
no_cycle_among_any nodes owner steps last run =
    let sound = IsSoundAmong-run nodes (first_state nodes owner) last steps (IsSoundAmong-first_state nodes owner) run in
    (no_cycle_among nodes last sound, no_pick last sound.owner)

-- announcements are steps among routers of others too
pub announced_among : (node : ℕ) (ps : List Pair) (s t : SourceState) → Run s (map (λ (p : Pair). Announce node p.metric) ps) t → RunAmong s (map (λ (p : Pair). Announce node p.metric) ps) t
announced_among node [] s t h = h
announced_among node (p ∷ ps) s t h = (h.0, h.1, announced_among node ps h.0 t h.2)
