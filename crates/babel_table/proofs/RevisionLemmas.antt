-- What a revision leaves of the order of the keys, and a step of its pass.
use Rattle.std.proofs.Common.{◌≡◌, ℕ, ◌+◌, ◌<◌, ◌≤◌, true, cond, List, [], ◌∷◌, ◌++◌, length, get_or, set, take, drop, option_map, option_and_then, is_none, Option, Some, None, refl, sym, ap, subst, ◌∙◌, arith, add-one, append_assoc}
use Rattle.std.specs.List.{cons_option}
use Rattle.std.proofs.Math.Seq.{drop-cons}
use Rattle.std.proofs.lemmas.List.{drop-set-lt, take_more_set}
use Rattle.std.proofs.lemmas.Bool.{and_parts, and_from}
use Rattle.std.proofs.lemmas.Option.{none-some}
use Rattle.std.specs.declared.cmp.Ordering.{Ordering}
use Rattle.std.specs.declared.cmp.Ordering.TheVariants.{Less, Equal, Greater}
use Rattle.std.specs.Ordering.{is_lt, is_eq}
use Rattle.std.specs.Cmp.{IsTotalOrder}
use Rattle.std.specs.FinMap.{find, is_sorted, IsAntisymmetric}
use Rattle.std.specs.FinMap.Entries.{below_all, same_entries}
use Rattle.babel_table.specs.Entries.{revised_entries}
use Rattle.babel_table.specs.Insertions.{in_order, are_distinct, sorted_in_order}
use Rattle.babel_table.proofs.PlaceLemmas.{holds, find_revised}
use Rattle.babel_table.proofs.InsertionLemmas.{find_in_order, no_value}

module _ {K V : Type 0} (f : K → V → Option V) (es : List (K × V)) (i : ℕ) (d : K × V) (within : i < length es) where
  abbrev e : K × V
  e = get_or es i d

  drop-read : drop i es ≡ e ∷ drop (i + 1) es
  drop-read = rw add-one (drop-cons es i d within)

  revised-stays : (v : V) → f e.0 e.1 ≡ Some v → revised_entries f (drop i es) ≡ (e.0, v) ∷ revised_entries f (drop (i + 1) es)
  revised-stays v stays = rw (drop-read, stays) refl

  revised-goes : f e.0 e.1 ≡ None → revised_entries f (drop i es) ≡ revised_entries f (drop (i + 1) es)
  revised-goes goes = rw (drop-read, goes) refl

  -- An entry that is left is written after the others that are.
  pub left_more : (kept : ℕ) (v : V) (new whole : List (K × V)) → kept ≤ i → f e.0 e.1 ≡ Some v → new ≡ set es kept (e.0, v) → take kept es ++ revised_entries f (drop i es) ≡ whole → take (kept + 1) new ++ revised_entries f (drop (i + 1) new) ≡ whole
  left_more kept v new whole late stays is so_far =
      let y : K × V = (e.0, v) in
      rw (is, take_more_set es kept y (omega arith), drop-set-lt (i + 1) es kept y (omega arith), append_assoc)
      (ap (λ rest. take kept es ++ rest) (sym (revised-stays v stays)) ∙ so_far)

  pub left_same : (before whole : List (K × V)) → f e.0 e.1 ≡ None → before ++ revised_entries f (drop i es) ≡ whole → before ++ revised_entries f (drop (i + 1) es) ≡ whole
  left_same before whole goes so_far = ap (λ rest. before ++ rest) (sym (revised-goes goes)) ∙ so_far

module _ {K V : Type 0} (R : K → K → Ordering) (f : K → V → Option V) where
  below_revised : (x : K) (es : List (K × V)) → below_all R x es ≡ true → below_all R x (revised_entries f es) ≡ true
  below_revised x [] h = refl
  below_revised x (e ∷ es) h =
      let parts = and_parts (is_lt (R x e.0)) (below_all R x es) h in by (f e.0 e.1) parts.0 (below_revised x es parts.1)
    where
      by : (r : Option V) → is_lt (R x e.0) ≡ true → below_all R x (revised_entries f es) ≡ true → below_all R x (cons_option (option_map (λ v. (e.0, v)) r) (revised_entries f es)) ≡ true
      by None here rest = rest
      by (Some v) here rest = and_from (is_lt (R x e.0)) (below_all R x (revised_entries f es)) here rest

  pub sorted_revised : (es : List (K × V)) → is_sorted R es ≡ true → is_sorted R (revised_entries f es) ≡ true
  sorted_revised [] h = refl
  sorted_revised (e ∷ es) h =
      let parts = and_parts (below_all R e.0 es) (is_sorted R es) h in
      by (f e.0 e.1) (below_revised e.0 es parts.0) (sorted_revised es parts.1)
    where
      by : (r : Option V) → below_all R e.0 (revised_entries f es) ≡ true → is_sorted R (revised_entries f es) ≡ true → is_sorted R (cons_option (option_map (λ v. (e.0, v)) r) (revised_entries f es)) ≡ true
      by None below rest = rest
      by (Some v) below rest = and_from (below_all R e.0 (revised_entries f es)) (is_sorted R (revised_entries f es)) below rest

  -- ---- entries in the order in which they were first stored
  missing_revised : (k : K) (es : List (K × V)) → find R k es ≡ None → find R k (revised_entries f es) ≡ None
  missing_revised k [] h = refl
  missing_revised k (e ∷ es) h = by (f e.0 e.1) (R k e.0) refl h (missing_revised k es)
    where
      by : (r : Option V) (c : Ordering) → R k e.0 ≡ c → cond (is_eq c) (Some e.1) (find R k es) ≡ None → (find R k es ≡ None → find R k (revised_entries f es) ≡ None) → find R k (cons_option (option_map (λ v. (e.0, v)) r) (revised_entries f es)) ≡ None
      by None Less p h rest = rest h
      by None Greater p h rest = rest h
      by r Equal p h rest = absurd (none-some e.1 (sym h))
      by (Some v) Less p h rest = rw p (rest h)
      by (Some v) Greater p h rest = rw p (rest h)

  pub distinct_revised : (es : List (K × V)) → are_distinct R es ≡ true → are_distinct R (revised_entries f es) ≡ true
  distinct_revised [] h = refl
  distinct_revised (e ∷ es) h =
      let parts = and_parts (is_none (find R e.0 es)) (are_distinct R es) h in
      by (f e.0 e.1) (missing_revised e.0 es (no_value (find R e.0 es) parts.0)) (distinct_revised es parts.1)
    where
      by : (r : Option V) → find R e.0 (revised_entries f es) ≡ None → are_distinct R (revised_entries f es) ≡ true → are_distinct R (cons_option (option_map (λ v. (e.0, v)) r) (revised_entries f es)) ≡ true
      by None missing rest = rest
      by (Some v) missing rest = rw missing rest

  find_revised_distinct : (exact : IsAntisymmetric R) (k : K) (es : List (K × V)) → are_distinct R es ≡ true → find R k (revised_entries f es) ≡ option_and_then (f k) (find R k es)
  find_revised_distinct exact k [] h = refl
  find_revised_distinct exact k (e ∷ es) h =
      let parts = and_parts (is_none (find R e.0 es)) (are_distinct R es) h in
      by (f e.0 e.1) (R k e.0) refl refl (missing_revised e.0 es (no_value (find R e.0 es) parts.0)) (find_revised_distinct exact k es parts.1)
    where
      by : (r : Option V) (c : Ordering) → f e.0 e.1 ≡ r → R k e.0 ≡ c → find R e.0 (revised_entries f es) ≡ None → find R k (revised_entries f es) ≡ option_and_then (f k) (find R k es) → find R k (cons_option (option_map (λ v. (e.0, v)) r) (revised_entries f es)) ≡ option_and_then (f k) (cond (is_eq c) (Some e.1) (find R k es))
      by None Less is p missing rest = rest
      by None Greater is p missing rest = rest
      by (Some v) Less is p missing rest = rw p rest
      by (Some v) Greater is p missing rest = rw p rest
      by None Equal is p missing rest =
          subst (λ j. find R j (revised_entries f es) ≡ f j e.1) (sym (exact k e.0 p)) (missing ∙ sym is)
      by (Some v) Equal is p missing rest = rw p (sym is ∙ ap (λ j. f j e.1) (sym (exact k e.0 p)))

  pub in_order_revised : IsTotalOrder R → IsAntisymmetric R → (es : List (K × V)) → are_distinct R es ≡ true → in_order R (revised_entries f es) ≡ revised_entries f (in_order R es)
  in_order_revised o exact es distinct =
      same_entries R o exact (in_order R (revised_entries f es)) (revised_entries f (in_order R es))
      (holds (is_sorted R (in_order R (revised_entries f es))) (sorted_in_order R o (revised_entries f es)))
      (holds (is_sorted R (revised_entries f (in_order R es))) (sorted_revised (in_order R es) (sorted_in_order R o es)))
      (λ k. find_in_order R o k (revised_entries f es) ∙ find_revised_distinct exact k es distinct
      ∙ ap (option_and_then (f k)) (sym (find_in_order R o k es)) ∙ sym (find_revised R o exact f k (in_order R es) (sorted_in_order R o es)))
