-- What a node has done after a step of its own or of another node.
use Rattle.std.proofs.Common.{◌≡◌, ◌≢◌, ℕ, ◌<◌, ◌⊎◌, List, [], ◌∷◌, ◌++◌, Some, Option, length, Contains, refl, sym, subst, inl, inr}
use Rattle.std.proofs.lemmas.List.{get_or-set_same, get_or-set_other}
use Rattle.std.proofs.lemmas.List.Elements.{Contains-push_cases, Contains-append_left, Contains-push}
use Rattle.std.proofs.lemmas.Bool.{cases_eq}
use Rattle.babel_machine.specs.declared.machine.pair.Pair.{Pair}
use Rattle.babel_machine.specs.declared.machine.pick.Pick.{Pick}
use Rattle.babel_machine.specs.Machine.{HasSent, HasPicked, SourceState, NodeState, node_at, with_node, with_sent, with_pick, quiet, Adds}

-- what holds of the node's new state, and of each other node's old one, holds of each
each_node : (P : ℕ → NodeState → Type 0) (s : SourceState) (a : ℕ) (now : NodeState) → a < length s.nodes → P a now → ((b : ℕ) → b ≢ a → P b (node_at s b)) → (b : ℕ) → P b (node_at (with_node s a now) b)
each_node P s a now inside here others b =
    elim (cases_eq b a) [ inl same ↦ subst (λ c. P c (node_at (with_node s a now) c)) (sym same) (subst (P a) (sym (get_or-set_same s.nodes a now quiet inside)) here) | inr other ↦ subst (P b) (sym (get_or-set_other s.nodes a b now quiet other)) (others b other) ]

-- a pick changes nothing that was sent
pub sent-with_pick : (s : SourceState) (a : ℕ) (pick : Option Pick) → a < length s.nodes → (b : ℕ) → (node_at (with_pick s a pick) b).sent ≡ (node_at s b).sent
sent-with_pick s a pick inside = each_node (λ b n. n.sent ≡ (node_at s b).sent) s a _ inside refl (λ b _. refl)

-- what holds of each old pick, and of the new one, holds of each pick afterwards
pub each_pick : (P : ℕ → Pick → Type 0) (s : SourceState) (a : ℕ) (pick : Option Pick) → a < length s.nodes → ((b : ℕ) (k : Pick) → HasPicked s b k → P b k) → ((k : Pick) → pick ≡ Some k → P a k) → (b : ℕ) (k : Pick) → HasPicked (with_pick s a pick) b k → P b k
each_pick P s a pick inside old new = each_node (λ b n. (k : Pick) → n.pick ≡ Some k → P b k) s a _ inside new (λ b _. old b)

-- sending changes no pick
pub pick-with_sent : (s : SourceState) (a : ℕ) (sent : List Pair) → a < length s.nodes → (b : ℕ) → (node_at (with_sent s a sent) b).pick ≡ (node_at s b).pick
pick-with_sent s a sent inside = each_node (λ b n. n.pick ≡ (node_at s b).pick) s a _ inside refl (λ b _. refl)

-- a pair pushed is a pair added, and so is one that was there
pub Adds-push : (pair : Pair) (sent : List Pair) → Adds pair sent (sent ++ pair ∷ [])
Adds-push pair sent each = (Contains-push_cases sent pair each, joined)
  where
    joined : (Contains sent each ⊎ (pair ≡ each)) → Contains (sent ++ pair ∷ []) each
    joined (inl was) = Contains-append_left sent (pair ∷ []) each was
    joined (inr is) = subst (Contains (sent ++ pair ∷ [])) is (Contains-push sent pair)

-- what was sent stays so
pub sent_stays : (s : SourceState) (a : ℕ) (pair : Pair) (sent : List Pair) → Adds pair (node_at s a).sent sent → a < length s.nodes → (b : ℕ) (q : Pair) → HasSent s b q → HasSent (with_sent s a sent) b q
sent_stays s a pair sent adds inside =
    each_node (λ b n. (q : Pair) → HasSent s b q → Contains n.sent q) s a _ inside (λ q h. (adds q).1 (inl h)) (λ b _ q h. h)

-- what is sent now was sent
pub sent_now : (s : SourceState) (a : ℕ) (pair : Pair) (sent : List Pair) → Adds pair (node_at s a).sent sent → a < length s.nodes → HasSent (with_sent s a sent) a pair
sent_now s a pair sent adds inside =
    subst (λ (n : NodeState). Contains n.sent pair) (sym (get_or-set_same s.nodes a _ quiet inside)) ((adds pair).1 (inr refl))

-- what holds of all that was sent, and of what is sent now, holds of all that was sent afterwards
pub each_sent : (P : ℕ → Pair → Type 0) (s : SourceState) (a : ℕ) (pair : Pair) (sent : List Pair) → Adds pair (node_at s a).sent sent → a < length s.nodes → ((b : ℕ) (q : Pair) → HasSent s b q → P b q) → P a pair → (b : ℕ) (q : Pair) → HasSent (with_sent s a sent) b q → P b q
each_sent P s a pair sent adds inside old new =
    each_node (λ b n. (q : Pair) → Contains n.sent q → P b q) s a _ inside (λ q h. elim ((adds q).0 h) [ inl was ↦ old a q was | inr is ↦ subst (P a) is new ]) (λ b _. old b)
