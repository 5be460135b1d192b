-- The first state is sound, and every step keeps it so.
use Rattle.std.proofs.Common.{◌≡◌, ℕ, ◌+◌, ◌<◌, ◌≤◌, List, [], ◌∷◌, Option, Some, None, length, All, sym, ap, ◌∙◌, subst, inl, inr, arith}
use Rattle.std.proofs.lemmas.List.{length-set, length-replicate}
use Rattle.std.proofs.lemmas.List.Elements.{All-set, All-map, All-weaker}
use Rattle.std.proofs.lemmas.Option.{get_or_from_slice_get, same_Some, none-some, slice_get_within}
use Rattle.babel_machine.specs.declared.machine.pair.Pair.{Pair}
use Rattle.babel_machine.specs.declared.machine.pick.Pick.{Pick}
use Rattle.babel_machine.specs.declared.machine.step.Step.{Step}
use Rattle.babel_machine.specs.declared.machine.step.Step.TheVariants.{Raise, Announce, Choose, Drop}
use Rattle.babel_machine.specs.Machine.{SourceState, node_at, HasSent, HasPicked, beginning, first_state, first_states, with_sent, with_pick, IsBetterPair, MaySend, MayPick, Adds, Steps, StepsAt, Run, MachineRun}
use Rattle.babel_machine.specs.Sound.{IsSound}
use Rattle.babel_machine.specs.ForeignMachine.{IsRising}
use Rattle.babel_machine.proofs.MachineNodes.{sent_stays, sent_now, each_sent}
use Rattle.babel_machine.proofs.MachineRising.{nothing_sent, nothing_picked, better_than_passed, had_sent, has_sent, IsRising-sent, IsRising-with_pick}

pub IsSound-first_state : (nodes owner : ℕ) → owner < nodes → IsSound (first_state nodes owner)
IsSound-first_state nodes owner inside = record {
  owner_in_range = rw length-replicate inside;
  counted = λ node pair h. absurd (nothing_sent nodes owner node pair h);
  begun = λ node pair h. absurd (nothing_sent nodes owner node pair h);
  was_sent = λ node k h. absurd (nothing_picked nodes owner node k h);
  is_better = λ node k own h _. absurd (nothing_picked nodes owner node k h);
}

-- an owner has no pick: whatever it could pick began with what it sent itself
pub owner_free : (s : SourceState) → IsSound s → (k : Pick) → HasPicked s s.owner k → ⊥
owner_free s sound k picked =
    let own = sound.begun k.from k.pair (sound.was_sent s.owner k picked) in
    elim (sound.is_better s.owner k (beginning k.pair.raises) picked own) [ inl more ↦ omega arith | inr less ↦ omega arith ]

IsSound-raised : (s : SourceState) → IsSound s → IsSound (record s { raises = s.raises + 1 })
IsSound-raised s sound = record {
  owner_in_range = sound.owner_in_range;
  counted = λ node pair h. omega (arith, sound.counted node pair h);
  begun = sound.begun;
  was_sent = sound.was_sent;
  is_better = sound.is_better;
}

-- its picks are better than what their holders sent, and each one was sent
pub rising_of : (s : SourceState) → IsSound s → IsRising (λ _. Unit {0}) s
rising_of s sound = record { was_sent = λ node k h _. sound.was_sent node k h; is_better = sound.is_better }

-- what a node may send has a count that the source has reached
pub counted_to_send : (s : SourceState) → IsSound s → (a : ℕ) (pair : Pair) → MaySend s a pair → pair.raises ≤ s.raises
counted_to_send s sound a pair (inl own) = omega (arith, ap (λ (p : Pair). p.raises) own.1)
counted_to_send s sound a pair (inr passed) =
    omega (arith, passed.same_count, sound.counted passed.pick.from passed.pick.pair (sound.was_sent a passed.pick passed.picked))

-- and one that the owner began, once it is sent
begun_when_sent : (s : SourceState) → IsSound s → (a : ℕ) (pair : Pair) (sent : List Pair) → Adds pair (node_at s a).sent sent → a < length s.nodes → MaySend s a pair → HasSent (with_sent s a sent) s.owner (beginning pair.raises)
begun_when_sent s sound a pair sent adds inside (inl own) =
    subst (λ b. HasSent (with_sent s a sent) b (beginning pair.raises)) own.0 (subst (λ (p : Pair). HasSent (with_sent s a sent) a p) (own.1 ∙ ap (λ (p : Pair). beginning p.raises) (sym own.1)) (sent_now s a pair sent adds inside))
begun_when_sent s sound a pair sent adds inside (inr passed) =
    subst (λ n. HasSent (with_sent s a sent) s.owner (beginning n)) (sym passed.same_count) (sent_stays s a pair sent adds inside s.owner _ (sound.begun passed.pick.from passed.pick.pair (sound.was_sent a passed.pick passed.picked)))

-- and is worse than the node's own pick
better_than_sent : (s : SourceState) → IsSound s → (a : ℕ) (pair : Pair) → MaySend s a pair → (k : Pick) → HasPicked s a k → IsBetterPair k.pair pair
better_than_sent s sound a pair (inl own) k picked = absurd (owner_free s sound k (subst (λ b. HasPicked s b k) own.0 picked))
better_than_sent s sound a pair (inr passed) k picked = better_than_passed s a pair passed k picked

IsSound-sent : (s : SourceState) → IsSound s → (a : ℕ) (pair : Pair) (sent : List Pair) → Adds pair (node_at s a).sent sent → a < length s.nodes → MaySend s a pair → IsSound (with_sent s a sent)
IsSound-sent s sound a pair sent adds inside may = record {
  owner_in_range = rw length-set sound.owner_in_range;
  counted = each_sent (λ _ q. q.raises ≤ s.raises) s a pair sent adds inside sound.counted (counted_to_send s sound a pair may);
  begun = each_sent (λ _ q. HasSent (with_sent s a sent) s.owner (beginning q.raises)) s a pair sent adds inside (λ b q h. sent_stays s a pair sent adds inside s.owner _ (sound.begun b q h)) (begun_when_sent s sound a pair sent adds inside may);
  was_sent = λ node k h. rising.was_sent node k h tt;
  is_better = rising.is_better;
}
  where
    rising : IsRising (λ _. Unit {0}) (with_sent s a sent)
    rising = IsRising-sent (λ _. Unit {0}) s (rising_of s sound) a pair sent adds inside (better_than_sent s sound a pair may)

IsSound-with_pick : (s : SourceState) → IsSound s → (a : ℕ) (pick : Option Pick) → a < length s.nodes → ((k : Pick) → pick ≡ Some k → MayPick s a k.from k.pair) → IsSound (with_pick s a pick)
IsSound-with_pick s sound a pick inside may = record {
  owner_in_range = rw length-set sound.owner_in_range;
  counted = λ node q h. sound.counted node q (had_sent s a pick inside node q h);
  begun = λ node q h. has_sent s a pick inside s.owner _ (sound.begun node q (had_sent s a pick inside node q h));
  was_sent = λ node k h. rising.was_sent node k h tt;
  is_better = rising.is_better;
}
  where
    rising : IsRising (λ _. Unit {0}) (with_pick s a pick)
    rising = IsRising-with_pick (λ _. Unit {0}) s (rising_of s sound) a pick inside (λ k new _. (may k new).sent) (λ k new. (may k new).better)

pub IsSound-step : (s t : SourceState) (step : Step) → IsSound s → Steps s step t → IsSound t
IsSound-step s t Raise sound h = subst IsSound (sym h) (IsSound-raised s sound)
IsSound-step s t (Announce a m) sound h = subst IsSound (sym h.next) (IsSound-sent s sound a h.pair h.sent h.adds h.inside h.may)
IsSound-step s t (Choose a b p) sound h =
    subst IsSound (sym h.2) (IsSound-with_pick s sound a _ h.0 (λ k e. subst (λ (j : Pick). MayPick s a j.from j.pair) (same_Some _ _ e) h.1))
IsSound-step s t (Drop a) sound h = subst IsSound (sym h.1) (IsSound-with_pick s sound a None h.0 (λ k e. absurd (none-some k e)))

pub IsSound-run : (s t : SourceState) (steps : List Step) → IsSound s → Run s steps t → IsSound t
IsSound-run s t [] sound h = subst IsSound (sym h) sound
IsSound-run s t (step ∷ steps) sound h = IsSound-run h.0 t steps (IsSound-step s h.0 step sound h.1) h.2

AllSound-step : (old new : List SourceState) (i : ℕ) (step : Step) → All IsSound old → StepsAt old i step new → All IsSound new
AllSound-step old new i step sound h =
    let before : IsSound h.0 = subst IsSound (get_or_from_slice_get old i h.0 h.0 h.2) (sound i h.0 (slice_get_within old i h.0 h.2)) in
    subst (All IsSound) (sym h.4) (All-set IsSound old i h.1 (IsSound-step h.0 h.1 step before h.3) sound)

pub AllSound-run : (old new : List SourceState) (steps : List (ℕ × Step)) → All IsSound old → MachineRun old steps new → All IsSound new
AllSound-run old new [] sound h = subst (All IsSound) (sym h) sound
AllSound-run old new (step ∷ steps) sound h = AllSound-run h.0 new steps (AllSound-step old h.0 step.0 step.1 sound h.1) h.2

pub AllSound-first_states : (nodes : ℕ) (owners : List ℕ) → All (λ owner. owner < nodes) owners → All IsSound (first_states nodes owners)
AllSound-first_states nodes owners inside =
    All-map IsSound (first_state nodes) owners (All-weaker _ _ (λ owner h. IsSound-first_state nodes owner h) owners inside)
