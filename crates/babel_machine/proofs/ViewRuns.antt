-- Runs of the machine that raise, and that send some pairs one after the other.
use Rattle.std.proofs.Common.{◌≡◌, ◌<◌, ℕ, zero, suc, ◌+◌, List, [], ◌∷◌, ◌++◌, map, All, length, set, refl, sym, ap, ◌∙◌, subst, inl, inr, arith}
use Rattle.std.proofs.lemmas.List.{append-nil, append_assoc, get_or-set_same, length-set, set-get_or}
use Rattle.std.proofs.lemmas.List.Elements.{All-head, All-tail}
use Rattle.babel_machine.specs.declared.machine.pair.Pair.{Pair}
use Rattle.babel_machine.specs.declared.machine.step.Step.{Step}
use Rattle.babel_machine.specs.declared.machine.step.Step.TheVariants.{Raise, Announce}
use Rattle.babel_machine.specs.Machine.{SourceState, NodeState, node_at, quiet, with_sent, MaySend, Adds, Announces, Run}
use Rattle.babel_machine.proofs.MachineNodes.{Adds-push, pick-with_sent}

abbrev pub raised : SourceState → ℕ → SourceState
raised s j = record s { raises = s.raises + j }

pub Run-join : (s t u : SourceState) (one other : List Step) → Run s one t → Run t other u → Run s (one ++ other) u
Run-join s t u [] other h g = subst (λ z. Run z other u) h g
Run-join s t u (step ∷ steps) other h g = (h.0, h.1, Run-join h.0 t u steps other h.2 g)

-- so many raises, one after the other
pub raise_run : (s : SourceState) (j : ℕ) → (steps : List Step) × Run s steps (raised s j)
raise_run s zero = ([], ap (λ n. record s { raises = n }) (omega arith))
raise_run s (suc j) =
    let rest = raise_run (record s { raises = s.raises + 1 }) j in
    (Raise ∷ rest.0, (record s { raises = s.raises + 1 }, refl, subst (Run (record s { raises = s.raises + 1 }) rest.0) (ap (λ n. record s { raises = n }) (omega arith)) rest.1))

-- written twice, a node is what was written last
set-set : {X : Type 0} → (xs : List X) (i : ℕ) (x y : X) → set (set xs i x) i y ≡ set xs i y
set-set [] i x y = refl
set-set (z ∷ zs) zero x y = refl
set-set (z ∷ zs) (suc i) x y = ap (λ rest. z ∷ rest) (set-set zs i x y)

-- what it may send doesn't depend on what it sent
MaySend-with_sent : (s : SourceState) (a : ℕ) (xs : List Pair) (p : Pair) → a < length s.nodes → MaySend s a p → MaySend (with_sent s a xs) a p
MaySend-with_sent s a xs p inside (inl own) = inl own
MaySend-with_sent s a xs p inside (inr passed) = inr (record {
  pick = passed.pick;
  picked = pick-with_sent s a xs inside a ∙ passed.picked;
  same_count = passed.same_count;
  greater = passed.greater;
  finite = passed.finite;
})

announce_more : (s : SourceState) (a : ℕ) (xs ps : List Pair) → a < length s.nodes → All (MaySend s a) ps → Run (with_sent s a xs) (map (λ (p : Pair). Announce a p.metric) ps) (with_sent s a (xs ++ ps))
announce_more s a xs [] inside may = ap (with_sent s a) (append-nil xs)
announce_more s a xs (p ∷ ps) inside may =
    (with_sent s a (xs ++ p ∷ []), first, subst (λ all. Run (with_sent s a (xs ++ p ∷ [])) (map (λ (p : Pair). Announce a p.metric) ps) (with_sent s a all)) (append_assoc xs (p ∷ []) ps) (announce_more s a (xs ++ p ∷ []) ps inside (All-tail (MaySend s a) p ps may)))
  where
    now : NodeState
    now = record (node_at s a) { sent = xs }

    here : node_at (with_sent s a xs) a ≡ now
    here = get_or-set_same s.nodes a now quiet inside

    first : Announces (with_sent s a xs) a p.metric (with_sent s a (xs ++ p ∷ []))
    first = record {
      inside = rw length-set inside;
      pair = p;
      under = refl;
      may = MaySend-with_sent s a xs p inside (All-head (MaySend s a) p ps may);
      sent = xs ++ p ∷ [];
      adds = subst (λ (n : NodeState). Adds p n.sent (xs ++ p ∷ [])) (sym here) (Adds-push p xs);
      next = sym (ap (λ nodes. record s { nodes = nodes }) (ap (λ (n : NodeState). set (set s.nodes a now) a (record n { sent = xs ++ p ∷ [] })) here ∙ set-set s.nodes a now (record now { sent = xs ++ p ∷ [] })));
    }

-- a node sends pairs that it may send, one after the other
pub announce_run : (s : SourceState) (a : ℕ) (ps : List Pair) → a < length s.nodes → All (MaySend s a) ps → Run s (map (λ (p : Pair). Announce a p.metric) ps) (with_sent s a ((node_at s a).sent ++ ps))
announce_run s a ps inside may =
    subst (λ z. Run z (map (λ (p : Pair). Announce a p.metric) ps) (with_sent s a ((node_at s a).sent ++ ps))) (ap (λ nodes. record s { nodes = nodes }) (set-get_or s.nodes a quiet)) (announce_more s a (node_at s a).sent ps inside may)
