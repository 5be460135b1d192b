-- What a bound implies for all entries on its side, since the keys rise.
use Rattle.std.proofs.Common.{◌≡◌, ℕ, zero, suc, Bool, true, false, not, List, [], ◌∷◌, take, drop, slice_get, Some, refl, sym, ap, subst, ◌∙◌, true≢false}
use Rattle.std.specs.List.{list_all}
use Rattle.std.proofs.lemmas.Bool.{and_from}
use Rattle.std.proofs.lemmas.Option.{same_Some, none-some}
use Rattle.std.specs.declared.cmp.Ordering.{Ordering}
use Rattle.std.specs.declared.cmp.Ordering.TheVariants.{Less}
use Rattle.std.specs.Ordering.{is_gt}
use Rattle.std.specs.FinMap.{is_sorted}
use Rattle.babel_table.specs.Places.{are_greater}
use Rattle.babel_table.proofs.PlaceLemmas.{head_greater, tail_greater, others_greater, tail_sorted, greater_at}

module _ {K V : Type 0} (R : K → K → Ordering) (p : K → Bool) (falls : (x y : K) → is_gt (R x y) ≡ false → p y ≡ true → p x ≡ true) where
  -- up to a key below the bound all are below it
  pub below_through : (es : List (K × V)) (i : ℕ) (e : K × V) → is_sorted R es ≡ true → slice_get es i ≡ Some e → p e.0 ≡ true → list_all (λ f. p f.0) (take (suc i) es) ≡ true
  below_through [] i e sorted at below = absurd (none-some e at)
  below_through (f ∷ es) zero e sorted at below =
      and_from (p f.0) true (subst (λ (g : K × V). p g.0 ≡ true) (sym (same_Some f e at)) below) refl
  below_through (f ∷ es) (suc i) e sorted at below =
      let upwards : R f.0 e.0 ≡ Less = greater_at R f.0 es i e (others_greater R f es sorted) at in
      and_from (p f.0) (list_all (λ g. p g.0) (take (suc i) es)) (falls f.0 e.0 (ap is_gt upwards) below) (below_through es i e (tail_sorted R f es sorted) at below)

  -- what is greater than a key that isn't below the bound isn't either
  above_greater : (k : K) (es : List (K × V)) → are_greater R k es ≡ true → p k ≡ false → list_all (λ f. not (p f.0)) es ≡ true
  above_greater k [] all above = refl
  above_greater k (e ∷ es) all above =
      and_from (not (p e.0)) (list_all (λ f. not (p f.0)) es) (ap not (by (p e.0) refl)) (above_greater k es (tail_greater R k e es all) above)
    where
      by : (b : Bool) → p e.0 ≡ b → p e.0 ≡ false
      by true here = absurd (true≢false (sym (falls k e.0 (ap is_gt (head_greater R k e es all)) here) ∙ above))
      by false here = here

  -- from a key on that isn't below the bound none is
  pub above_from : (es : List (K × V)) (i : ℕ) (e : K × V) → is_sorted R es ≡ true → slice_get es i ≡ Some e → p e.0 ≡ false → list_all (λ f. not (p f.0)) (drop i es) ≡ true
  above_from [] i e sorted at above = absurd (none-some e at)
  above_from (f ∷ es) zero e sorted at above =
      let here : p f.0 ≡ false = subst (λ (g : K × V). p g.0 ≡ false) (sym (same_Some f e at)) above in
      and_from (not (p f.0)) (list_all (λ g. not (p g.0)) es) (ap not here) (above_greater f.0 es (others_greater R f es sorted) here)
  above_from (f ∷ es) (suc i) e sorted at above = above_from es i e (tail_sorted R f es sorted) at above
