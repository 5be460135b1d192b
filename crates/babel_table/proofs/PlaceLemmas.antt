-- What is at each index of a list of entries whose keys rise, and what `find`, `put` and `without` make of it there.
use Rattle.std.proofs.Common.{◌≡◌, ℕ, zero, suc, ◌+◌, ◌≤◌, Bool, true, false, cond, not, T, List, [], ◌∷◌, length, take, drop, set, remove, insert, slice_get, option_map, option_and_then, Option, Some, None, refl, sym, ap, subst, ◌∙◌, arith}
use Rattle.std.specs.List.{cons_option}
use Rattle.std.proofs.lemmas.List.Sums.{sum_by-cons}
use Rattle.std.proofs.lemmas.List.{drop_all}
use Rattle.std.proofs.lemmas.Bool.{and_parts, and_from}
use Rattle.std.proofs.lemmas.Option.{same_Some, none-some, slice_get_within}
use Rattle.std.specs.declared.cmp.Ordering.{Ordering}
use Rattle.std.specs.declared.cmp.Ordering.TheVariants.{Less, Equal, Greater}
use Rattle.std.specs.Ordering.{is_lt, is_gt, is_eq, eq_by_cmp, ordering_reverse}
use Rattle.std.specs.Cmp.{IsTotalOrder, tied_itself}
use Rattle.std.specs.FinMap.{find, put, is_sorted, IsAntisymmetric}
use Rattle.std.specs.FinMap.Entries.{below_all, is_sorted-put, is_sorted-where_key}
use Rattle.babel_table.specs.Entries.{without, revised_entries, lesser_keys}
use Rattle.babel_table.specs.Places.{IsGap, are_lesser, are_greater}
use Rattle.babel_value.proofs.Orderings.{less}

pub greater : (r : Ordering) → is_gt r ≡ true → r ≡ Greater
greater Less e = cc
greater Equal e = cc
greater Greater e = refl

pub so : (b : Bool) → T b → b ≡ true
so true h = refl
so false h = absurd h

pub holds : (b : Bool) → b ≡ true → T b
holds b e = subst T (sym e) tt

module _ {K : Type 0} {R : K → K → Ordering} (o : IsTotalOrder R) where
  pub turned : (x y : K) → R x y ≡ Less → R y x ≡ Greater
  turned x y e = o.antisymm y x ∙ ap ordering_reverse e

  pub turned_back : (x y : K) → R x y ≡ Greater → R y x ≡ Less
  turned_back x y e = o.antisymm y x ∙ ap ordering_reverse e

module _ {K V : Type 0} (R : K → K → Ordering) where
  head_lesser : (k : K) (e : K × V) (es : List (K × V)) → are_lesser R k (e ∷ es) ≡ true → R k e.0 ≡ Greater
  head_lesser k e es h = greater (R k e.0) (and_parts (is_gt (R k e.0)) (are_lesser R k es) h).0

  tail_lesser : (k : K) (e : K × V) (es : List (K × V)) → are_lesser R k (e ∷ es) ≡ true → are_lesser R k es ≡ true
  tail_lesser k e es h = (and_parts (is_gt (R k e.0)) (are_lesser R k es) h).1

  pub head_greater : (k : K) (e : K × V) (es : List (K × V)) → are_greater R k (e ∷ es) ≡ true → R k e.0 ≡ Less
  head_greater k e es h = less (R k e.0) (and_parts (is_lt (R k e.0)) (are_greater R k es) h).0

  pub tail_greater : (k : K) (e : K × V) (es : List (K × V)) → are_greater R k (e ∷ es) ≡ true → are_greater R k es ≡ true
  tail_greater k e es h = (and_parts (is_lt (R k e.0)) (are_greater R k es) h).1

  -- the first key of a list in order is below the others
  pub others_greater : (e : K × V) (es : List (K × V)) → is_sorted R (e ∷ es) ≡ true → are_greater R e.0 es ≡ true
  others_greater e es h = all e.0 es (and_parts (below_all R e.0 es) (is_sorted R es) h).0
    where
      all : (x : K) (es : List (K × V)) → below_all R x es ≡ true → are_greater R x es ≡ true
      all x [] h = refl
      all x (e ∷ es) h = let parts = and_parts (is_lt (R x e.0)) (below_all R x es) h in and_from (is_lt (R x e.0)) (are_greater R x es) parts.0 (all x es parts.1)

  pub tail_sorted : (e : K × V) (es : List (K × V)) → is_sorted R (e ∷ es) ≡ true → is_sorted R es ≡ true
  tail_sorted e es h = (and_parts (below_all R e.0 es) (is_sorted R es) h).1

  -- where all are greater, so is the one at any place
  pub greater_at : (x : K) (es : List (K × V)) (i : ℕ) (e : K × V) → are_greater R x es ≡ true → slice_get es i ≡ Some e → R x e.0 ≡ Less
  greater_at x [] i e all at = absurd (none-some e at)
  greater_at x (f ∷ es) zero e all at = subst (λ (g : K × V). R x g.0 ≡ Less) (same_Some f e at) (head_greater x f es all)
  greater_at x (f ∷ es) (suc i) e all at = greater_at x es i e (tail_greater x f es all) at

  pub lesser_cons : (k : K) (e : K × V) (es : List (K × V)) → lesser_keys R k (e ∷ es) ≡ cond (is_lt (R e.0 k)) 1 0 + lesser_keys R k es
  lesser_cons k e es = sum_by-cons (λ f. cond (is_lt (R f.0 k)) 1 0) e es

  find_greater : (k : K) (es : List (K × V)) → are_greater R k es ≡ true → find R k es ≡ None
  find_greater k [] all = refl
  find_greater k (e ∷ es) all =
      let here : R k e.0 ≡ Less = head_greater k e es all in rw here (find_greater k es (tail_greater k e es all))

  without_greater : (k : K) (es : List (K × V)) → are_greater R k es ≡ true → without R k es ≡ es
  without_greater k [] all = refl
  without_greater k (e ∷ es) all =
      let here : R k e.0 ≡ Less = head_greater k e es all in
      rw here (ap (λ fs. e ∷ fs) (without_greater k es (tail_greater k e es all)))

  -- ---- at a gap
  pub find_gap : (k : K) (es : List (K × V)) (i : ℕ) → are_lesser R k (take i es) ≡ true → are_greater R k (drop i es) ≡ true → find R k es ≡ None
  find_gap k [] i before following = refl
  find_gap k (e ∷ es) zero before following = find_greater k (e ∷ es) following
  find_gap k (e ∷ es) (suc i) before following =
      let here : R k e.0 ≡ Greater = head_lesser k e (take i es) before in
      rw here (find_gap k es i (tail_lesser k e (take i es) before) following)

  -- a key that would be at an index is missing
  pub missing : (k : K) (es : List (K × V)) (i : ℕ) → IsGap R k es i → None ≡ find R k es
  missing k es i gap = sym (find_gap k es i gap.lesser gap.greater)

  pub put_gap : (k : K) (v : V) (es : List (K × V)) (i : ℕ) → are_lesser R k (take i es) ≡ true → are_greater R k (drop i es) ≡ true → put R k v es ≡ insert es i (k, v)
  put_gap k v [] zero before following = refl
  put_gap k v [] (suc i) before following = refl
  put_gap k v (e ∷ es) zero before following =
      let here : R k e.0 ≡ Less = head_greater k e es following in rw here refl
  put_gap k v (e ∷ es) (suc i) before following =
      let here : R k e.0 ≡ Greater = head_lesser k e (take i es) before in
      rw here (ap (λ fs. e ∷ fs) (put_gap k v es i (tail_lesser k e (take i es) before) following))

  pub without_gap : (k : K) (es : List (K × V)) (i : ℕ) → are_lesser R k (take i es) ≡ true → are_greater R k (drop i es) ≡ true → without R k es ≡ es
  without_gap k [] i before following = refl
  without_gap k (e ∷ es) zero before following = without_greater k (e ∷ es) following
  without_gap k (e ∷ es) (suc i) before following =
      let here : R k e.0 ≡ Greater = head_lesser k e (take i es) before in
      rw here (ap (λ fs. e ∷ fs) (without_gap k es i (tail_lesser k e (take i es) before) following))

  module _ (o : IsTotalOrder R) where
    none_lesser : (k : K) (es : List (K × V)) → are_greater R k es ≡ true → lesser_keys R k es ≡ 0
    none_lesser k [] all = refl
    none_lesser k (e ∷ es) all =
        let here : R e.0 k ≡ Greater = turned o k e.0 (head_greater k e es all) in
        lesser_cons k e es ∙ rw here (omega (arith, none_lesser k es (tail_greater k e es all)))

    -- what is below a key that is below others is below them too
    below_greater : (x y : K) (es : List (K × V)) → R x y ≡ Less → are_greater R y es ≡ true → are_greater R x es ≡ true
    below_greater x y [] p all = refl
    below_greater x y (e ∷ es) p all =
        let here : R x e.0 ≡ Less = o.trans x y e.0 p (head_greater y e es all) in
        and_from (is_lt (R x e.0)) (are_greater R x es) (ap is_lt here) (below_greater x y es p (tail_greater y e es all))

    -- the first key of a list in order is lesser than one at a later place
    after_head : (f : K × V) (es : List (K × V)) (i : ℕ) (e : K × V) → is_sorted R (f ∷ es) ≡ true → slice_get es i ≡ Some e → R e.0 f.0 ≡ Greater
    after_head f es i e sorted at = turned o f.0 e.0 (greater_at f.0 es i e (others_greater f es sorted) at)

    -- up to a lesser key all are lesser
    pub lesser_through : (k : K) (es : List (K × V)) (i : ℕ) (e : K × V) → is_sorted R es ≡ true → slice_get es i ≡ Some e → R k e.0 ≡ Greater → are_lesser R k (take (suc i) es) ≡ true
    lesser_through k [] i e sorted at p = absurd (none-some e at)
    lesser_through k (f ∷ es) zero e sorted at p =
        let here : R k f.0 ≡ Greater = subst (λ (g : K × V). R k g.0 ≡ Greater) (sym (same_Some f e at)) p in
        and_from (is_gt (R k f.0)) true (ap is_gt here) refl
    lesser_through k (f ∷ es) (suc i) e sorted at p =
        let before : R f.0 k ≡ Less = o.trans f.0 e.0 k (turned_back o e.0 f.0 (after_head f es i e sorted at)) (turned_back o k e.0 p) in
        and_from (is_gt (R k f.0)) (are_lesser R k (take (suc i) es)) (ap is_gt (turned o f.0 k before)) (lesser_through k es i e (tail_sorted f es sorted) at p)

    -- from a greater key on all are greater
    pub greater_from : (k : K) (es : List (K × V)) (i : ℕ) (e : K × V) → is_sorted R es ≡ true → slice_get es i ≡ Some e → R k e.0 ≡ Less → are_greater R k (drop i es) ≡ true
    greater_from k [] i e sorted at p = absurd (none-some e at)
    greater_from k (f ∷ es) zero e sorted at p =
        let here : R k f.0 ≡ Less = subst (λ (g : K × V). R k g.0 ≡ Less) (sym (same_Some f e at)) p in
        and_from (is_lt (R k f.0)) (are_greater R k es) (ap is_lt here) (below_greater k f.0 es here (others_greater f es sorted))
    greater_from k (f ∷ es) (suc i) e sorted at p = greater_from k es i e (tail_sorted f es sorted) at p

    pub gap_before : (k : K) (es : List (K × V)) (i : ℕ) (e : K × V) → is_sorted R es ≡ true → slice_get es i ≡ Some e → R k e.0 ≡ Less → are_lesser R k (take i es) ≡ true → IsGap R k es i
    gap_before k es i e sorted at p before =
        record { within = omega (arith, slice_get_within es i e at); lesser = before; greater = greater_from k es i e sorted at p }

    -- ---- at an entry
    pub find_hit : (es : List (K × V)) (i : ℕ) (e : K × V) → is_sorted R es ≡ true → slice_get es i ≡ Some e → find R e.0 es ≡ Some e.1
    find_hit [] i e sorted at = absurd (none-some e at)
    find_hit (f ∷ es) zero e sorted at =
        let here : R f.0 f.0 ≡ Equal = tied_itself o f.0 in
        subst (λ (g : K × V). find R g.0 (f ∷ es) ≡ Some g.1) (same_Some f e at) (rw here refl)
    find_hit (f ∷ es) (suc i) e sorted at =
        let here : R e.0 f.0 ≡ Greater = after_head f es i e sorted at in rw here (find_hit es i e (tail_sorted f es sorted) at)

    pub put_hit : (w : V) (es : List (K × V)) (i : ℕ) (e : K × V) → is_sorted R es ≡ true → slice_get es i ≡ Some e → put R e.0 w es ≡ set es i (e.0, w)
    put_hit w [] i e sorted at = absurd (none-some e at)
    put_hit w (f ∷ es) zero e sorted at =
        let here : R f.0 f.0 ≡ Equal = tied_itself o f.0 in
        subst (λ (g : K × V). put R g.0 w (f ∷ es) ≡ (g.0, w) ∷ es) (same_Some f e at) (rw here refl)
    put_hit w (f ∷ es) (suc i) e sorted at =
        let here : R e.0 f.0 ≡ Greater = after_head f es i e sorted at in
        rw here (ap (λ fs. f ∷ fs) (put_hit w es i e (tail_sorted f es sorted) at))

    pub without_hit : (es : List (K × V)) (i : ℕ) (e : K × V) → is_sorted R es ≡ true → slice_get es i ≡ Some e → without R e.0 es ≡ remove es i
    without_hit [] i e sorted at = absurd (none-some e at)
    without_hit (f ∷ es) zero e sorted at =
        let here : R f.0 f.0 ≡ Equal = tied_itself o f.0 in
        subst (λ (g : K × V). without R g.0 (f ∷ es) ≡ es) (same_Some f e at) (rw here (without_greater f.0 es (others_greater f es sorted)))
    without_hit (f ∷ es) (suc i) e sorted at =
        let here : R e.0 f.0 ≡ Greater = after_head f es i e sorted at in
        rw here (ap (λ fs. f ∷ fs) (without_hit es i e (tail_sorted f es sorted) at))

    -- as many keys are lesser than that of an entry as there are entries before it
    pub lesser_at : (es : List (K × V)) (i : ℕ) (e : K × V) → is_sorted R es ≡ true → slice_get es i ≡ Some e → lesser_keys R e.0 es ≡ i
    lesser_at [] i e sorted at = absurd (none-some e at)
    lesser_at (f ∷ es) zero e sorted at =
        let here : R f.0 f.0 ≡ Equal = tied_itself o f.0 in
        subst (λ (g : K × V). lesser_keys R g.0 (f ∷ es) ≡ 0) (same_Some f e at)
        (lesser_cons f.0 f es ∙ rw here (omega (arith, none_lesser f.0 es (others_greater f es sorted))))
    lesser_at (f ∷ es) (suc i) e sorted at =
        let here : R f.0 e.0 ≡ Less = greater_at f.0 es i e (others_greater f es sorted) at in
        lesser_cons e.0 f es ∙ rw here (omega (arith, lesser_at es i e (tail_sorted f es sorted) at))

    -- ---- the order stays
    pub sorted_put : (k : K) (v : V) (es : List (K × V)) → is_sorted R es ≡ true → is_sorted R (put R k v es) ≡ true
    sorted_put k v es sorted = so (is_sorted R (put R k v es)) (is_sorted-put R o k v es (holds (is_sorted R es) sorted))

  pub sorted_without : (k : K) (es : List (K × V)) → is_sorted R es ≡ true → is_sorted R (without R k es) ≡ true
  sorted_without k es sorted =
      so (is_sorted R (without R k es)) (is_sorted-where_key R (λ x. not (eq_by_cmp R k x)) es (holds (is_sorted R es) sorted))

-- ---- the end
pub gap_at_end : {K V : Type 0} (R : K → K → Ordering) (k : K) (es : List (K × V)) (i : ℕ) → are_lesser R k (take i es) ≡ true → length es ≡ i → IsGap R k es i
gap_at_end R k es i before end = record { within = omega (arith, end); lesser = before; greater = ap (are_greater R k) (drop_all i es (omega (arith, end))) }

pub past_end : {A : Type 0} (es : List A) (i : ℕ) → slice_get es i ≡ None → length es ≤ i
past_end [] i at = omega arith
past_end (e ∷ es) zero at = absurd (none-some e (sym at))
past_end (e ∷ es) (suc i) at = omega (arith, past_end es i at)

-- what a revision leaves at a key
module _ {K V : Type 0} (R : K → K → Ordering) (o : IsTotalOrder R) where
  find_revised_greater : (f : K → V → Option V) (k : K) (es : List (K × V)) → are_greater R k es ≡ true → find R k (revised_entries f es) ≡ None
  find_revised_greater f k [] all = refl
  find_revised_greater f k (e ∷ es) all =
      let here : R k e.0 ≡ Less = head_greater R k e es all in by (f e.0 e.1) here (find_revised_greater f k es (tail_greater R k e es all))
    where
      by : (r : Option V) → R k e.0 ≡ Less → find R k (revised_entries f es) ≡ None → find R k (cons_option (option_map (λ v. (e.0, v)) r) (revised_entries f es)) ≡ None
      by None here rest = rest
      by (Some v) here rest = rw here rest

  pub find_revised : (exact : IsAntisymmetric R) (f : K → V → Option V) (k : K) (es : List (K × V)) → is_sorted R es ≡ true → find R k (revised_entries f es) ≡ option_and_then (f k) (find R k es)
  find_revised exact f k [] sorted = refl
  find_revised exact f k (e ∷ es) sorted = by (f e.0 e.1) (R k e.0) refl refl (find_revised exact f k es (tail_sorted R e es sorted))
    where
      by : (r : Option V) (c : Ordering) → f e.0 e.1 ≡ r → R k e.0 ≡ c → find R k (revised_entries f es) ≡ option_and_then (f k) (find R k es) → find R k (cons_option (option_map (λ v. (e.0, v)) r) (revised_entries f es)) ≡ option_and_then (f k) (cond (is_eq c) (Some e.1) (find R k es))
      by None Less is p rest = rest
      by None Greater is p rest = rest
      by (Some v) Less is p rest = rw p rest
      by (Some v) Greater is p rest = rw p rest
      by None Equal is p rest =
          let same = exact k e.0 p in
          subst (λ j. find R j (revised_entries f es) ≡ f j e.1) (sym same) (find_revised_greater f e.0 es (others_greater R e es sorted) ∙ sym is)
      by (Some v) Equal is p rest = rw p (sym is ∙ ap (λ j. f j e.1) (sym (exact k e.0 p)))
