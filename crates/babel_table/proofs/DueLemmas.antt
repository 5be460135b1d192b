-- What storing, writing or sorting entries leaves of the moment before which none is due.
use Rattle.std.proofs.Common.{All, ◌≡◌, ℕ, ◌+◌, ◌≤◌, ◌<◌, List, [], ◌∷◌, length, take, set, ◌++◌, slice_get, true, Some, None, cond, refl, sym, ◌∙◌, subst, arith}
use Rattle.std.specs.declared.cmp.Ordering.{Ordering}
use Rattle.std.specs.declared.cmp.Ordering.TheVariants.{Less, Equal, Greater}
use Rattle.std.specs.Ordering.{is_eq}
use Rattle.std.specs.Cmp.{IsTotalOrder}
use Rattle.std.specs.FinMap.{find, put}
use Rattle.std.specs.FinMap.Entries.{by_order}
use Rattle.std.proofs.lemmas.List.Elements.{All-nil, All-cons, All-head, All-tail, All-weaker, All-append, All-more}
use Rattle.std.proofs.lemmas.List.{take_more_set}
use Rattle.std.proofs.lemmas.Option.{get_or_from_slice_get, none-some}
use Rattle.babel_table.specs.Dues.{AreDueFrom, IsLastQuiet}
use Rattle.babel_table.specs.Insertions.{in_order, are_distinct}
use Rattle.babel_table.proofs.InsertionLemmas.{find_in_order, head_apart, tail_distinct}

module _ {K V : Type 0} (due : V → ℕ) where
  pub due_earlier : (moment earlier : ℕ) (es : List (K × V)) → earlier ≤ moment → AreDueFrom due moment es → AreDueFrom due earlier es
  due_earlier moment earlier es before all =
      All-weaker (λ e. moment ≤ due e.1) (λ e. earlier ≤ due e.1) (λ e later. omega arith) es all

  pub due_put : (R : K → K → Ordering) (moment : ℕ) (k : K) (v : V) (es : List (K × V)) → moment ≤ due v → AreDueFrom due moment es → AreDueFrom due moment (put R k v es)
  due_put R moment k v [] one all = All-cons (λ e. moment ≤ due e.1) (k, v) [] one (All-nil (λ e. moment ≤ due e.1))
  due_put R moment k v (e ∷ es) one all = by (R k e.0) (due_put R moment k v es one (All-tail (λ e. moment ≤ due e.1) e es all))
    where
      by : (r : Ordering) → AreDueFrom due moment (put R k v es) → AreDueFrom due moment (by_order r ((k, v) ∷ e ∷ es) ((e.0, v) ∷ es) (e ∷ put R k v es))
      by Less rest = All-cons (λ e. moment ≤ due e.1) (k, v) (e ∷ es) one all
      by Equal rest = All-cons (λ e. moment ≤ due e.1) (e.0, v) es one (All-tail (λ e. moment ≤ due e.1) e es all)
      by Greater rest = All-cons (λ e. moment ≤ due e.1) e (put R k v es) (All-head (λ e. moment ≤ due e.1) e es all) rest

  -- One more entry of a walk.
  pub due_more : (moment : ℕ) (es : List (K × V)) (i : ℕ) (e : K × V) → i < length es → slice_get es i ≡ Some e → moment ≤ due e.1 → AreDueFrom due moment (take i es) → AreDueFrom due moment (take (i + 1) es)
  due_more moment es i e within at one all =
      All-more (λ x. moment ≤ due x.1) es i e within all (subst (λ (x : K × V). moment ≤ due x.1) (sym (get_or_from_slice_get es i e e at)) one)

  pub due_there : (moment : ℕ) (es : List (K × V)) (i : ℕ) (e : K × V) → i < length es → slice_get es i ≡ Some e → AreDueFrom due moment es → moment ≤ due e.1
  due_there moment es i e within at all = subst (λ (x : K × V). moment ≤ due x.1) (get_or_from_slice_get es i e e at) (all i e within)

  -- An entry is written after those that are left.
  pub due_written : (moment earlier : ℕ) (es : List (K × V)) (i : ℕ) (e : K × V) → i < length es → earlier ≤ moment → earlier ≤ due e.1 → AreDueFrom due moment (take i es) → AreDueFrom due earlier (take (i + 1) (set es i e))
  due_written moment earlier es i e within before one all =
      let P = λ (x : K × V). earlier ≤ due x.1 in
      subst (AreDueFrom due earlier) (sym (take_more_set es i e within))
      (All-append P (take i es) (e ∷ []) (due_earlier moment earlier (take i es) before all) (All-cons P e [] one (All-nil P)))

  pub due_in_order : (R : K → K → Ordering) (moment : ℕ) (es : List (K × V)) → AreDueFrom due moment es → AreDueFrom due moment (in_order R es)
  due_in_order R moment [] all = all
  due_in_order R moment (e ∷ es) all =
      due_put R moment e.0 e.1 (in_order R es) (All-head (λ x. moment ≤ due x.1) e es all) (due_in_order R moment es (All-tail (λ x. moment ≤ due x.1) e es all))

  -- ---- the last such moment
  -- What is due from the moment was so before the last entry was added.
  due_before : (moment : ℕ) (xs : List (K × V)) (e : K × V) → AreDueFrom due moment (xs ++ e ∷ []) → AreDueFrom due moment xs × (moment ≤ due e.1)
  due_before moment [] e all = (All-nil (λ x. moment ≤ due x.1), All-head (λ x. moment ≤ due x.1) e [] all)
  due_before moment (x ∷ xs) e all =
      let P = λ (y : K × V). moment ≤ due y.1 in
      let rest = due_before moment xs e (All-tail P x (xs ++ e ∷ []) all) in
      (All-cons P x xs (All-head P x (xs ++ e ∷ []) all) rest.0, rest.1)

  pub last_written : (last earlier : ℕ) (es : List (K × V)) (i : ℕ) (e : K × V) → i < length es → ((moment : ℕ) → moment ≤ last → moment ≤ due e.1 → moment ≤ earlier) → IsLastQuiet due last (take i es) → IsLastQuiet due earlier (take (i + 1) (set es i e))
  last_written last earlier es i e within least before = λ moment fits all.
      let parts = due_before moment (take i es) e (subst (AreDueFrom due moment) (take_more_set es i e within) all) in
      least moment (before moment fits parts.0) parts.1

  -- What is due from the moment after a new key was stored was so before.
  due_stored : (R : K → K → Ordering) (moment : ℕ) (k : K) (v : V) (es : List (K × V)) → find R k es ≡ None → AreDueFrom due moment (put R k v es) → AreDueFrom due moment es × (moment ≤ due v)
  due_stored R moment k v [] none all = (All-nil (λ e. moment ≤ due e.1), All-head (λ e. moment ≤ due e.1) (k, v) [] all)
  due_stored R moment k v (e ∷ es) none all = by (R k e.0) refl none all (due_stored R moment k v es)
    where
      P : K × V → Type 0
      P x = moment ≤ due x.1

      by : (r : Ordering) → R k e.0 ≡ r → cond (is_eq r) (Some e.1) (find R k es) ≡ None → All P (by_order r ((k, v) ∷ e ∷ es) ((e.0, v) ∷ es) (e ∷ put R k v es)) →
          (find R k es ≡ None → All P (put R k v es) → All P es × (moment ≤ due v)) → All P (e ∷ es) × (moment ≤ due v)
      by Less is none all rest = (All-tail P (k, v) (e ∷ es) all, All-head P (k, v) (e ∷ es) all)
      by Equal is none all rest = absurd (none-some e.1 (sym none))
      by Greater is none all rest =
          let parts = rest none (All-tail P e (put R k v es) all) in
          (All-cons P e es (All-head P e (put R k v es) all) parts.0, parts.1)

  due_unordered : (R : K → K → Ordering) → IsTotalOrder R → (moment : ℕ) (es : List (K × V)) → are_distinct R es ≡ true → AreDueFrom due moment (in_order R es) → AreDueFrom due moment es
  due_unordered R total moment [] distinct all = all
  due_unordered R total moment (e ∷ es) distinct all =
      let parts = due_stored R moment e.0 e.1 (in_order R es) (find_in_order R total e.0 es ∙ head_apart R total e es distinct) all in
      All-cons (λ x. moment ≤ due x.1) e es parts.1 (due_unordered R total moment es (tail_distinct R total e es distinct) parts.0)

  pub last_in_order : (R : K → K → Ordering) → IsTotalOrder R → (last : ℕ) (es : List (K × V)) → are_distinct R es ≡ true → IsLastQuiet due last es → IsLastQuiet due last (in_order R es)
  last_in_order R total last es distinct before = λ moment fits all. before moment fits (due_unordered R total moment es distinct all)
