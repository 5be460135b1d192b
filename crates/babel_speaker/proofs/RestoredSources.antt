-- Sources that are put into a table in their order come one after the other.
use Rattle.std.specs.Prelude.{◌≡◌, ℕ, zero, suc, ◌+◌, ◌<◌, true, List, [], ◌∷◌, ◌++◌, take, length, slice_get, ◌&&◌, Some, None, option_map}
use Rattle.std.specs.declared.cmp.Ordering.{Ordering}
use Rattle.std.specs.declared.cmp.Ordering.TheVariants.{Greater}
use Rattle.std.specs.Ordering.{is_gt}
use Rattle.std.specs.Cmp.{IsTotalOrder}
use Rattle.std.specs.FinMap.{find, put, is_sorted}
use Rattle.std.proofs.Common.{refl, sym, ap, ◌∙◌, arith, add-one}
use Rattle.std.proofs.lemmas.Bool.{and_parts, and_from}
use Rattle.std.proofs.lemmas.List.{map-append}
use Rattle.std.proofs.lemmas.Option.{none-some}
use Rattle.babel_value.specs.declared.distances.Distance.{Distance}
use Rattle.babel_value.specs.declared.keys.Source.{Source}
use Rattle.babel_value.specs.Orders.{source_cmp}
use Rattle.babel_value.proofs.OrderLaws.{source_total}
use Rattle.babel_table.specs.Places.{are_lesser}
use Rattle.babel_table.proofs.PlaceLemmas.{greater, turned, greater_at, others_greater, tail_sorted}
use Rattle.babel_sources.specs.Sources.{Sources, pair_of, lowered, source_entry_after}
use Rattle.babel_state.specs.Restarts.{restored_source, restored_sources}
use Rattle.babel_snapshot.proofs.Appending.{take_next}

-- ---- entries after lesser ones

module _ {K V : Type 0} (R : K → K → Ordering) where
  find_last : (k : K) (es : List (K × V)) → are_lesser R k es ≡ true → find R k es ≡ None
  find_last k [] all = refl
  find_last k (e ∷ es) all =
      let parts = and_parts (is_gt (R k e.0)) (are_lesser R k es) all in
      let here : R k e.0 ≡ Greater = greater (R k e.0) parts.0 in
      rw here (find_last k es parts.1)

  put_last : (k : K) (v : V) (es : List (K × V)) → are_lesser R k es ≡ true → put R k v es ≡ es ++ (k, v) ∷ []
  put_last k v [] all = refl
  put_last k v (e ∷ es) all =
      let parts = and_parts (is_gt (R k e.0)) (are_lesser R k es) all in
      let here : R k e.0 ≡ Greater = greater (R k e.0) parts.0 in
      rw here (ap (λ fs. e ∷ fs) (put_last k v es parts.1))

  -- in a list in order, those before an entry are lesser
  lesser_before : IsTotalOrder R → (es : List (K × V)) (i : ℕ) (e : K × V) → is_sorted R es ≡ true → slice_get es i ≡ Some e → are_lesser R e.0 (take i es) ≡ true
  lesser_before o [] i e sorted at = absurd (none-some e at)
  lesser_before o (f ∷ es) zero e sorted at = refl
  lesser_before o (f ∷ es) (suc i) e sorted at =
      let here : R e.0 f.0 ≡ Greater = turned o f.0 e.0 (greater_at R f.0 es i e (others_greater R f es sorted) at) in
      and_from (is_gt (R e.0 f.0)) (are_lesser R e.0 (take i es)) (ap is_gt here) (lesser_before o es i e (tail_sorted R f es sorted) at)

lesser_restored : (now : ℕ) (k : Source) (es : List (Source × Distance)) → are_lesser source_cmp k (restored_sources now es) ≡ are_lesser source_cmp k es
lesser_restored now k [] = refl
lesser_restored now k (e ∷ es) = λ i. is_gt (source_cmp k e.0) && lesser_restored now k es i

pub lesser_sources : (now : ℕ) (es : List (Source × Distance)) (i : ℕ) (e : Source × Distance) → is_sorted source_cmp es ≡ true → slice_get es i ≡ Some e →
    are_lesser source_cmp e.0 (restored_sources now (take i es)) ≡ true
lesser_sources now es i e sorted at = lesser_restored now e.0 (take i es) ∙ lesser_before source_cmp source_total es i e sorted at

absent_source : (now : ℕ) (es : List (Source × Distance)) (i : ℕ) (e : Source × Distance) → is_sorted source_cmp es ≡ true → slice_get es i ≡ Some e →
    pair_of e.0 (restored_sources now (take i es)) ≡ None
absent_source now es i e sorted at =
    ap (option_map (λ s. s.distance)) (find_last source_cmp e.0 (restored_sources now (take i es)) (lesser_sources now es i e sorted at))

pub next_source : (now : ℕ) (es : List (Source × Distance)) (i : ℕ) (e : Source × Distance) → is_sorted source_cmp es ≡ true → slice_get es i ≡ Some e →
    lowered now e.0 e.1 (restored_sources now (take i es)) ≡ restored_sources now (take (i + 1) es)
next_source now es i e sorted at =
    let before : Sources = restored_sources now (take i es) in
    let lesser : are_lesser source_cmp e.0 before ≡ true = lesser_sources now es i e sorted at in
    let entry : source_entry_after now (pair_of e.0 before) e.1 ≡ (restored_source now e).1 =
    ap (λ pair. source_entry_after now pair e.1) (absent_source now es i e sorted at) in
    let longer : take (i + 1) es ≡ take i es ++ e ∷ [] = ap (λ n. take n es) (add-one i) ∙ take_next es i e at in
    ap (λ v. put source_cmp e.0 v before) entry
    ∙ put_last source_cmp e.0 (restored_source now e).1 before lesser
    ∙ sym (ap (restored_sources now) longer ∙ map-append (restored_source now) (take i es) (e ∷ []))

pub none_within : {A : Type 0} (xs : List A) (i : ℕ) → i < length xs → slice_get xs i ≡ None → ⊥
none_within [] i below none = omega (arith, below)
none_within (x ∷ xs) zero below none = none-some x (sym none)
none_within (x ∷ xs) (suc i) below none = none_within xs i (omega (arith, below)) none
