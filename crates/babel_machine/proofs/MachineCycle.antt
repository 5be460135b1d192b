-- Why a state has no cycle: along picks, what was picked gets strictly better.
use Rattle.std.proofs.Common.{◌≡◌, ℕ, List, [], ◌∷◌, Option, Some, None, option_map, All, refl, sym, ◌∙◌, subst, inl, inr, arith}
use Rattle.std.proofs.lemmas.List.Elements.{All-weaker}
use Rattle.std.proofs.lemmas.Option.{same_Some, none-some}
use Rattle.babel_machine.specs.declared.machine.pair.Pair.{Pair}
use Rattle.babel_machine.specs.declared.machine.pick.Pick.{Pick}
use Rattle.babel_machine.specs.Machine.{HasSent, HasPicked, SourceState, node_at, IsBetterPair}
use Rattle.babel_machine.specs.Cycle.{LeadsThrough, NoCycle, OwnerHasNoPick}
use Rattle.babel_machine.specs.Sound.{IsSound}
use Rattle.babel_machine.specs.ForeignMachine.{IsRising}
use Rattle.babel_machine.proofs.MachineSound.{owner_free, rising_of}

pub better_than_better : (p q r : Pair) → IsBetterPair p q → IsBetterPair q r → IsBetterPair p r
better_than_better p q r (inl a) (inl b) = inl (omega arith)
better_than_better p q r (inl a) (inr b) = inl (omega arith)
better_than_better p q r (inr a) (inl b) = inl (omega arith)
better_than_better p q r (inr a) (inr b) = inr (omega arith, omega arith)

pub not_better_than_itself : (p : Pair) → IsBetterPair p p → ⊥
not_better_than_itself p (inl a) = omega arith
not_better_than_itself p (inr a) = omega arith

-- a next hop is that of a pick
pick_to : (o : Option Pick) (b : ℕ) → option_map (λ (k : Pick). k.from) o ≡ Some b → (k : Pick) × (o ≡ Some k) × (k.from ≡ b)
pick_to None b h = absurd (none-some b h)
pick_to (Some k) b h = (k, refl, same_Some _ _ h)

-- the node that a pick is from has picked something better, if anything
better_ahead : (is_known : ℕ → Type 0) (s : SourceState) → IsRising is_known s → (a b : ℕ) (k j : Pick) → HasPicked s a k → k.from ≡ b → is_known b → HasPicked s b j → IsBetterPair j.pair k.pair
better_ahead is_known s rising a b k j picked from known ahead =
    rising.is_better b j k.pair ahead (subst (λ c. HasSent s c k.pair) from (rising.was_sent a k picked (subst is_known (sym from) known)))

-- so has the end of a list of picks
better_at_end : (is_known : ℕ → Type 0) (s : SourceState) → IsRising is_known s → ((b : ℕ) (j : Pick) → HasPicked s b j → is_known b) → (a : ℕ) (nodes : List ℕ) (end : ℕ) (j : Pick) → LeadsThrough s a nodes end → HasPicked s end j → (k : Pick) × (HasPicked s a k) × IsBetterPair j.pair k.pair
better_at_end is_known s rising known a [] end j leads ahead =
    let k = pick_to (node_at s a).pick end leads in
    (k.0, k.1, better_ahead is_known s rising a end k.0 j k.1 k.2 (known end j ahead) ahead)
better_at_end is_known s rising known a (b ∷ nodes) end j leads ahead =
    let k = pick_to (node_at s a).pick b leads.0 in
    let i = better_at_end is_known s rising known b nodes end j leads.1 ahead in
    (k.0, k.1, better_than_better j.pair i.0.pair k.0.pair i.2 (better_ahead is_known s rising a b k.0 i.0 k.1 k.2 (known b i.0 i.1) i.1))

-- a node that leads somewhere has a pick
has_pick : (s : SourceState) (a : ℕ) (nodes : List ℕ) (end : ℕ) → LeadsThrough s a nodes end → (k : Pick) × (HasPicked s a k)
has_pick s a [] end leads = let k = pick_to (node_at s a).pick end leads in (k.0, k.1)
has_pick s a (b ∷ nodes) end leads = let k = pick_to (node_at s a).pick b leads.0 in (k.0, k.1)

pub no_cycle_rising : (is_known : ℕ → Type 0) (s : SourceState) → IsRising is_known s → ((b : ℕ) (j : Pick) → HasPicked s b j → is_known b) → NoCycle s
no_cycle_rising is_known s rising known [] h = h
no_cycle_rising is_known s rising known (a ∷ nodes) h =
    let j = has_pick s a nodes a h in
    let k = better_at_end is_known s rising known a nodes a j.0 h j.1 in
    not_better_than_itself j.0.pair (subst (λ (i : Pick). IsBetterPair j.0.pair i.pair) (same_Some _ _ (sym k.1 ∙ j.1)) k.2)

pub no_cycle : (s : SourceState) → IsSound s → NoCycle s
no_cycle s sound = no_cycle_rising (λ _. Unit {0}) s (rising_of s sound) (λ _ _ _. tt)

pub no_pick : (s : SourceState) → ((k : Pick) → HasPicked s s.owner k → ⊥) → OwnerHasNoPick s
no_pick s free = none_of (node_at s s.owner).pick free
  where
    none_of : (o : Option Pick) → ((k : Pick) → o ≡ Some k → ⊥) → o ≡ None
    none_of None h = refl
    none_of (Some k) h = absurd (h k refl)

pub owner_has_no_pick : (s : SourceState) → IsSound s → OwnerHasNoPick s
owner_has_no_pick s sound = no_pick s (owner_free s sound)

pub AllSound-no_cycle : (sources machine : List SourceState) → sources ≡ machine → All IsSound sources → All NoCycle machine
AllSound-no_cycle sources machine is sound = subst (All NoCycle) is (All-weaker IsSound NoCycle no_cycle sources sound)

pub AllSound-owner_has_no_pick : (sources machine : List SourceState) → sources ≡ machine → All IsSound sources → All OwnerHasNoPick machine
AllSound-owner_has_no_pick sources machine is sound =
    subst (All OwnerHasNoPick) is (All-weaker IsSound OwnerHasNoPick owner_has_no_pick sources sound)
