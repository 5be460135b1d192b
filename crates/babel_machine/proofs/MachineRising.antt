-- What every step keeps of picks, whoever they are from.
use Rattle.std.proofs.Common.{◌≡◌, ℕ, ◌<◌, List, Option, Some, length, replicate, Contains, All, sym, ap, ◌∙◌, subst, inl, inr, arith}
use Rattle.std.proofs.lemmas.List.{get_or-replicate, get_or_past, length-replicate}
use Rattle.std.proofs.lemmas.List.Elements.{All-contains}
use Rattle.std.proofs.lemmas.Option.{same_Some, none-some}
use Rattle.std.proofs.lemmas.Bool.{cases_lt}
use Rattle.babel_machine.specs.declared.machine.pair.Pair.{Pair}
use Rattle.babel_machine.specs.declared.machine.pick.Pick.{Pick}
use Rattle.babel_machine.specs.Machine.{SourceState, NodeState, node_at, quiet, HasSent, HasPicked, PassesOn, first_state, with_sent, with_pick, IsBetterPair, Adds}
use Rattle.babel_machine.specs.ForeignMachine.{IsRising}
use Rattle.babel_machine.proofs.MachineNodes.{sent-with_pick, pick-with_sent, each_pick, sent_stays, each_sent}

-- at first each node is quiet
node_at-first_state : (nodes owner node : ℕ) → node_at (first_state nodes owner) node ≡ quiet
node_at-first_state nodes owner node =
    elim (cases_lt node nodes) [ inl inside ↦ get_or-replicate nodes node quiet quiet inside | inr past ↦ get_or_past (replicate nodes quiet) node quiet (rw length-replicate past) ]

pub nothing_sent : (nodes owner node : ℕ) (pair : Pair) → HasSent (first_state nodes owner) node pair → ⊥
nothing_sent nodes owner node pair h =
    let sent : Contains quiet.sent pair = subst (λ (n : NodeState). Contains n.sent pair) (node_at-first_state nodes owner node) h in omega arith

pub nothing_picked : (nodes owner node : ℕ) (k : Pick) → HasPicked (first_state nodes owner) node k → ⊥
nothing_picked nodes owner node k h = none-some k (sym (ap (λ (n : NodeState). n.pick) (node_at-first_state nodes owner node)) ∙ h)

-- what a node passes on is worse than its pick
pub better_than_passed : (s : SourceState) (a : ℕ) (pair : Pair) → PassesOn s a pair → (k : Pick) → HasPicked s a k → IsBetterPair k.pair pair
better_than_passed s a pair passed k picked =
    subst (λ (j : Pick). IsBetterPair j.pair pair) (same_Some _ _ (sym passed.picked ∙ picked)) (inr (sym passed.same_count, passed.greater))

-- a pick changes nothing that was sent
pub had_sent : (s : SourceState) (a : ℕ) (pick : Option Pick) → a < length s.nodes → (node : ℕ) (q : Pair) → HasSent (with_pick s a pick) node q → HasSent s node q
had_sent s a pick inside node q h = subst (λ (sent : List Pair). Contains sent q) (sent-with_pick s a pick inside node) h

pub has_sent : (s : SourceState) (a : ℕ) (pick : Option Pick) → a < length s.nodes → (node : ℕ) (q : Pair) → HasSent s node q → HasSent (with_pick s a pick) node q
has_sent s a pick inside node q h = subst (λ (sent : List Pair). Contains sent q) (sym (sent-with_pick s a pick inside node)) h

pub IsRising-sent : (is_known : ℕ → Type 0) (s : SourceState) → IsRising is_known s → (a : ℕ) (pair : Pair) (sent : List Pair) → Adds pair (node_at s a).sent sent → a < length s.nodes → ((k : Pick) → HasPicked s a k → IsBetterPair k.pair pair) → IsRising is_known (with_sent s a sent)
IsRising-sent is_known s rising a pair sent adds inside better = record {
  was_sent = λ node k h known. sent_stays s a pair sent adds inside k.from k.pair (rising.was_sent node k (had node k h) known);
  is_better = λ node k own h is_sent. each_sent (λ b q. HasPicked s b k → IsBetterPair k.pair q) s a pair sent adds inside (λ b q h picked. rising.is_better b k q picked h) (better k) node own is_sent (had node k h);
}
  where
    had : (node : ℕ) (k : Pick) → HasPicked (with_sent s a sent) node k → HasPicked s node k
    had node k h = sym (pick-with_sent s a sent inside node) ∙ h

pub IsRising-with_pick : (is_known : ℕ → Type 0) (s : SourceState) → IsRising is_known s → (a : ℕ) (pick : Option Pick) → a < length s.nodes → ((k : Pick) → pick ≡ Some k → is_known k.from → HasSent s k.from k.pair) → ((k : Pick) → pick ≡ Some k → All (λ own. IsBetterPair k.pair own) (node_at s a).sent) → IsRising is_known (with_pick s a pick)
IsRising-with_pick is_known s rising a pick inside sent better = record {
  was_sent = each_pick (λ _ k. is_known k.from → HasSent (with_pick s a pick) k.from k.pair) s a pick inside (λ b k h known. has_sent s a pick inside k.from k.pair (rising.was_sent b k h known)) (λ k new known. has_sent s a pick inside k.from k.pair (sent k new known));
  is_better = λ node k own h is_sent. each_pick (λ b j. HasSent s b own → IsBetterPair j.pair own) s a pick inside (λ b j h is_sent. rising.is_better b j own h is_sent) (λ j new is_sent. All-contains (λ o. IsBetterPair j.pair o) _ own (better j new) is_sent) node k h (had_sent s a pick inside node own is_sent);
}
