-- What a source entry bounds: what is feasible against it is better than all that was sent, and it stays so when
-- updates are sent.
use Rattle.std.proofs.Common.{◌≡◌, ◌<◌, ◌≤◌, ℕ, Bool, true, false, List, [], ◌∷◌, ◌++◌, map, All, Option, Some, None, refl, sym, ◌∙◌, subst, arith, if◌then◌else◌}
use Rattle.std.proofs.lemmas.Bool.{false≢true}
use Rattle.std.proofs.lemmas.Bool.Decides.{nat_tests}
use Rattle.std.proofs.lemmas.List.{append-nil, append_assoc}
use Rattle.std.proofs.lemmas.List.Elements.{All-weaker, All-append, All-nil, All-cons, All-head, All-tail}
use Rattle.babel_value.specs.declared.distances.Distance.{Distance}
use Rattle.babel_value.specs.Distances.{is_better}
use Rattle.babel_sources.specs.Distances.{is_feasible, better_pair}
use Rattle.babel_state.specs.Seen.{UpdateValue, all_lowered}
use Rattle.babel_machine.specs.declared.machine.pair.Pair.{Pair}
use Rattle.babel_machine.specs.Machine.{IsBetterPair}
use Rattle.babel_machine.specs.Views.{NetSource, lifted}
use Rattle.babel_machine.specs.Invariants.{Bounds}
use Rattle.babel_machine.proofs.Circular.{IsReached, better_lifted, lifted_better, better_through}
use Rattle.babel_machine.proofs.MachineCycle.{not_better_than_itself, better_than_better}

-- a feasible finite distance is better than all that was sent
pub feasible_better : (s : NetSource) (raises : ℕ) (o : Option Distance) (sent : List Pair) (d : Distance) → s.start < 65536 → raises ≤ 32767 → IsReached s raises d → d.metric < 65535 → is_feasible o d ≡ true → Bounds s raises o sent → All (λ own. IsBetterPair (lifted s d) own) sent
feasible_better s raises None sent d s0 r0 hd finite feasible bounds = subst (All (λ own. IsBetterPair (lifted s d) own)) (sym bounds) (All-nil (λ own. IsBetterPair (lifted s d) own))
feasible_better s raises (Some e) sent d s0 r0 hd finite feasible bounds =
    All-weaker (λ own. ¬ IsBetterPair own (lifted s e)) (λ own. IsBetterPair (lifted s d) own) (λ own worse. better_through (lifted s d) (lifted s e) own better worse) sent bounds.2
  where
    is : is_better d e ≡ true
    is = grind (arith, nat_tests, feasible, finite)

    better : IsBetterPair (lifted s d) (lifted s e)
    better = better_lifted s raises d e s0 r0 hd (record { word = bounds.0; reached = bounds.1 }) is

-- one pair in the list
All-one : {X : Type 0} (P : X → Type 0) → (x : X) → P x → All P (x ∷ [])
All-one P x h = All-cons P x [] h (All-nil P)

-- an update that is sent lowers its source
lowered_once : (s : NetSource) (raises : ℕ) (o : Option Distance) (sent : List Pair) (d : Distance) → s.start < 65536 → raises ≤ 32767 → IsReached s raises d → Bounds s raises o sent → Bounds s raises (Some (better_pair o d)) (sent ++ lifted s d ∷ [])
lowered_once s raises None sent d s0 r0 hd bounds =
    (hd.word, hd.reached, subst (λ all. All (λ own. ¬ IsBetterPair own (lifted s d)) (all ++ lifted s d ∷ [])) (sym bounds) (All-one (λ own. ¬ IsBetterPair own (lifted s d)) (lifted s d) (not_better_than_itself (lifted s d))))
lowered_once s raises (Some e) sent d s0 r0 hd bounds = by (is_better d e) refl
  where
    he : IsReached s raises e
    he = record { word = bounds.0; reached = bounds.1 }

    by : (b : Bool) → is_better d e ≡ b → Bounds s raises (Some (if b then d else e)) (sent ++ lifted s d ∷ [])
    by true is = (hd.word, hd.reached, All-append (λ own. ¬ IsBetterPair own (lifted s d)) sent (lifted s d ∷ []) (All-weaker (λ own. ¬ IsBetterPair own (lifted s e)) (λ own. ¬ IsBetterPair own (lifted s d)) (λ own worse better. worse (better_than_better own (lifted s d) (lifted s e) better (better_lifted s raises d e s0 r0 hd he is))) sent bounds.2) (All-one (λ own. ¬ IsBetterPair own (lifted s d)) (lifted s d) (not_better_than_itself (lifted s d))))
    by false is = (bounds.0, bounds.1, All-append (λ own. ¬ IsBetterPair own (lifted s e)) sent (lifted s d ∷ []) bounds.2 (All-one (λ own. ¬ IsBetterPair own (lifted s e)) (lifted s d) (λ better. false≢true (sym is ∙ lifted_better s raises d e s0 r0 hd he better))))

-- so do all updates of a list, one after the other
pub lowered_by_all : (s : NetSource) (raises : ℕ) (us : List UpdateValue) (o : Option Distance) (sent : List Pair) → s.start < 65536 → raises ≤ 32767 → All (λ u. IsReached s raises u.distance) us → Bounds s raises o sent → Bounds s raises (all_lowered us o) (sent ++ map (λ (u : UpdateValue). lifted s u.distance) us)
lowered_by_all s raises [] o sent s0 r0 h bounds = subst (Bounds s raises o) (sym (append-nil sent)) bounds
lowered_by_all s raises (u ∷ us) o sent s0 r0 h bounds =
    subst (Bounds s raises (all_lowered us (Some (better_pair o u.distance)))) (append_assoc sent (lifted s u.distance ∷ []) (map (λ (u : UpdateValue). lifted s u.distance) us)) (lowered_by_all s raises us (Some (better_pair o u.distance)) (sent ++ lifted s u.distance ∷ []) s0 r0 (All-tail (λ (u : UpdateValue). IsReached s raises u.distance) u us h) (lowered_once s raises o sent u.distance s0 r0 (All-head (λ (u : UpdateValue). IsReached s raises u.distance) u us h) bounds))

-- a greater count bounds as well
pub Bounds-raised : (s : NetSource) (raises more : ℕ) (o : Option Distance) (sent : List Pair) → raises ≤ more → Bounds s raises o sent → Bounds s more o sent
Bounds-raised s raises more None sent le bounds = bounds
Bounds-raised s raises more (Some d) sent le bounds = (bounds.0, omega (arith, bounds.1, le), bounds.2)
