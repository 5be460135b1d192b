-- How the entries in the order in which they came, none twice, relate to the same entries in the order of their keys.
use Rattle.std.proofs.Common.{◌≡◌, ℕ, zero, suc, ◌+◌, Bool, true, false, cond, not, List, [], ◌∷◌, ◌++◌, length, set, remove, slice_get, is_some, is_none, Option, Some, None, Result, Ok, Err, OnOk, IsErr, refl, sym, ap, subst, ◌∙◌, arith}
use Rattle.std.proofs.lemmas.Bool.{and_parts, and_from, true≢false}
use Rattle.std.proofs.lemmas.Option.{same_Some, none-some}
use Rattle.std.specs.declared.cmp.Ordering.{Ordering}
use Rattle.std.specs.declared.cmp.Ordering.TheVariants.{Less, Equal, Greater}
use Rattle.std.specs.Ordering.{is_lt, is_eq, eq_by_cmp}
use Rattle.std.specs.Cmp.{IsTotalOrder, tied_itself, alike_right, eq_by_cmp_equiv}
use Rattle.std.specs.FinMap.{find, put, is_sorted, IsAntisymmetric}
use Rattle.std.specs.FinMap.Entries.{by_order, find-put, find-append, find-where_key, find_tied, length-put, same_entries}
use Rattle.babel_table.specs.Entries.{without, lesser_keys}
use Rattle.babel_table.specs.Insertions.{in_order, are_distinct, sorted_in_order}
use Rattle.babel_table.proofs.PlaceLemmas.{holds, sorted_put, sorted_without, lesser_cons, lesser_at, find_hit}
use Rattle.babel_value.proofs.Orderings.{equal}

-- what holds of a success, if there is no failure
pub is_stored : {X E P : Type 0} (r : Result X E) → OnOk r P → (IsErr r → ⊥) → P
is_stored (Ok x) ok never = ok
is_stored (Err e) ok never = absurd (never refl)

pub no_value : {A : Type 0} (o : Option A) → is_none o ≡ true → o ≡ None
no_value None e = refl
no_value (Some x) e = absurd (true≢false (sym e))

-- a test that is repeated
shadowed : {A : Type 0} (b : Bool) (x y z : A) → cond b x z ≡ cond b x (cond b y z)
shadowed true x y z = refl
shadowed false x y z = refl

-- two tests that don't pass together
swapped : {A : Type 0} (a b : Bool) (x y z : A) → (a ≡ true → b ≡ true → ⊥) → cond a x (cond b y z) ≡ cond b y (cond a x z)
swapped true true x y z apart = absurd (apart refl refl)
swapped true false x y z apart = refl
swapped false true x y z apart = refl
swapped false false x y z apart = refl

module _ {K V : Type 0} (R : K → K → Ordering) (o : IsTotalOrder R) where
  pub find_in_order : (q : K) (es : List (K × V)) → find R q (in_order R es) ≡ find R q es
  find_in_order q [] = refl
  find_in_order q (e ∷ es) = find-put R o q e.0 e.1 (in_order R es) ∙ ap (cond (eq_by_cmp R q e.0) (Some e.1)) (find_in_order q es)

  pub head_apart : (e : K × V) (es : List (K × V)) → are_distinct R (e ∷ es) ≡ true → find R e.0 es ≡ None
  head_apart e es h = no_value (find R e.0 es) (and_parts (is_none (find R e.0 es)) (are_distinct R es) h).0

  pub tail_distinct : (e : K × V) (es : List (K × V)) → are_distinct R (e ∷ es) ≡ true → are_distinct R es ≡ true
  tail_distinct e es h = (and_parts (is_none (find R e.0 es)) (are_distinct R es) h).1

  pub length_in_order : (es : List (K × V)) → are_distinct R es ≡ true → length (in_order R es) ≡ length es
  length_in_order [] h = refl
  length_in_order (e ∷ es) h =
      let none : find R e.0 (in_order R es) ≡ None = find_in_order e.0 es ∙ head_apart e es h in
      let rest = length_in_order es (tail_distinct e es h) in
      length-put R o e.0 e.1 (in_order R es) (holds (is_sorted R (in_order R es)) (sorted_in_order R o es))
      ∙ ap (λ x. cond (is_some x) (length (in_order R es)) (length (in_order R es) + 1)) none ∙ omega (arith, rest)

  -- where one key is found and the other isn't, they don't tie
  apart : (x y : K) (es : List (K × V)) (v : V) → find R x es ≡ None → find R y es ≡ Some v → eq_by_cmp R y x ≡ false
  apart x y es v none some = by (eq_by_cmp R y x) refl
    where
      by : (b : Bool) → eq_by_cmp R y x ≡ b → eq_by_cmp R y x ≡ false
      by false p = p
      by true p = absurd (none-some v (sym none ∙ find_tied R o y x (equal (R y x) p) es ∙ some))

  -- an entry of a list with no key twice is found
  pub find_at : (es : List (K × V)) (i : ℕ) (e : K × V) → are_distinct R es ≡ true → slice_get es i ≡ Some e → find R e.0 es ≡ Some e.1
  find_at [] i e h at = absurd (none-some e at)
  find_at (f ∷ es) zero e h at =
      let here : R f.0 f.0 ≡ Equal = tied_itself o f.0 in
      subst (λ (g : K × V). find R g.0 (f ∷ es) ≡ Some g.1) (same_Some f e at) (rw here refl)
  find_at (f ∷ es) (suc i) e h at =
      let rest = find_at es i e (tail_distinct f es h) at in
      let other : eq_by_cmp R e.0 f.0 ≡ false = apart f.0 e.0 es e.1 (head_apart f es h) rest in
      rw other rest

  -- what is found is somewhere
  place_from_find : (q : K) (es : List (K × V)) (v : V) → find R q es ≡ Some v → (i : ℕ) × (k : K) × (slice_get es i ≡ Some (k, v)) × (R q k ≡ Equal)
  place_from_find q [] v some = absurd (none-some v some)
  place_from_find q (e ∷ es) v some = by (eq_by_cmp R q e.0) refl some (place_from_find q es v)
    where
      by : (b : Bool) → eq_by_cmp R q e.0 ≡ b → cond b (Some e.1) (find R q es) ≡ Some v → (find R q es ≡ Some v → (i : ℕ) × (k : K) × (slice_get es i ≡ Some (k, v)) × (R q k ≡ Equal)) → (i : ℕ) × (k : K) × (slice_get (e ∷ es) i ≡ Some (k, v)) × (R q k ≡ Equal)
      by true p found rest = (0, e.0, ap (λ w. Some (e.0, w)) (same_Some e.1 v found), equal (R q e.0) p)
      by false p found rest = let later = rest found in (suc later.0, later.1, later.2, later.3)

  -- ---- storing
  find_set : (es : List (K × V)) (i : ℕ) (k : K) (w v : V) (q : K) → are_distinct R es ≡ true → slice_get es i ≡ Some (k, w) → find R q (set es i (k, v)) ≡ cond (eq_by_cmp R q k) (Some v) (find R q es)
  find_set [] i k w v q h at = absurd (none-some (k, w) at)
  find_set (f ∷ es) zero k w v q h at =
      subst (λ (g : K × V). find R q ((g.0, v) ∷ es) ≡ cond (eq_by_cmp R q g.0) (Some v) (find R q (f ∷ es))) (same_Some f (k, w) at)
      (shadowed (eq_by_cmp R q f.0) (Some v) (Some f.1) (find R q es))
  find_set (f ∷ es) (suc i) k w v q h at =
      let rest = tail_distinct f es h in
      let none = head_apart f es h in
      let some = find_at es i (k, w) rest at in
      ap (cond (eq_by_cmp R q f.0) (Some f.1)) (find_set es i k w v q rest at)
      ∙ swapped (eq_by_cmp R q f.0) (eq_by_cmp R q k) (Some f.1) (Some v) (find R q es) (λ a b. none-some w (sym none ∙ find_tied R o q f.0 (equal (R q f.0) a) es ∙ sym (find_tied R o q k (equal (R q k) b) es) ∙ some))

  pub distinct_set : (es : List (K × V)) (i : ℕ) (k : K) (w v : V) → are_distinct R es ≡ true → slice_get es i ≡ Some (k, w) → are_distinct R (set es i (k, v)) ≡ true
  distinct_set [] i k w v h at = absurd (none-some (k, w) at)
  distinct_set (f ∷ es) zero k w v h at = subst (λ (g : K × V). are_distinct R ((g.0, v) ∷ es) ≡ true) (same_Some f (k, w) at) h
  distinct_set (f ∷ es) (suc i) k w v h at =
      let rest = tail_distinct f es h in
      let none = head_apart f es h in
      let some = find_at es i (k, w) rest at in
      let other : eq_by_cmp R f.0 k ≡ false = (eq_by_cmp_equiv o).symm f.0 k ∙ apart f.0 k es w none some in
      and_from (is_none (find R f.0 (set es i (k, v)))) (are_distinct R (set es i (k, v)))
      (ap is_none (find_set es i k w v f.0 rest at ∙ ap (λ b. cond b (Some v) (find R f.0 es)) other ∙ none))
      (distinct_set es i k w v rest at)

  pub distinct_push : (es : List (K × V)) (k : K) (v : V) → are_distinct R es ≡ true → find R k es ≡ None → are_distinct R (es ++ (k, v) ∷ []) ≡ true
  distinct_push [] k v h none = refl
  distinct_push (e ∷ es) k v h none = by (eq_by_cmp R k e.0) refl none (distinct_push es k v (tail_distinct e es h))
    where
      by : (b : Bool) → eq_by_cmp R k e.0 ≡ b → cond b (Some e.1) (find R k es) ≡ None → (find R k es ≡ None → are_distinct R (es ++ (k, v) ∷ []) ≡ true) → are_distinct R ((e ∷ es) ++ (k, v) ∷ []) ≡ true
      by true p found rest = absurd (none-some e.1 (sym found))
      by false p found rest =
          let other : eq_by_cmp R e.0 k ≡ false = (eq_by_cmp_equiv o).symm e.0 k ∙ p in
          and_from (is_none (find R e.0 (es ++ (k, v) ∷ []))) (are_distinct R (es ++ (k, v) ∷ []))
          (ap is_none (find-append R o es k v e.0 found ∙ ap (λ c. cond c (Some v) (find R e.0 es)) other ∙ head_apart e es h))
          (rest found)

  -- ---- removing
  pub without_none : (k : K) (es : List (K × V)) → find R k es ≡ None → without R k es ≡ es
  without_none k [] none = refl
  without_none k (e ∷ es) none = by (eq_by_cmp R k e.0) none (without_none k es)
    where
      by : (b : Bool) → cond b (Some e.1) (find R k es) ≡ None → (find R k es ≡ None → without R k es ≡ es) → cond (not b) (e ∷ without R k es) (without R k es) ≡ e ∷ es
      by true found rest = absurd (none-some e.1 (sym found))
      by false found rest = ap (λ fs. e ∷ fs) (rest found)

  pub without_at : (es : List (K × V)) (i : ℕ) (k : K) (w : V) → are_distinct R es ≡ true → slice_get es i ≡ Some (k, w) → without R k es ≡ remove es i
  without_at [] i k w h at = absurd (none-some (k, w) at)
  without_at (f ∷ es) zero k w h at =
      let here : R f.0 f.0 ≡ Equal = tied_itself o f.0 in
      subst (λ (g : K × V). without R g.0 (f ∷ es) ≡ es) (same_Some f (k, w) at) (rw here (without_none f.0 es (head_apart f es h)))
  without_at (f ∷ es) (suc i) k w h at =
      let rest = tail_distinct f es h in
      let other : eq_by_cmp R k f.0 ≡ false = apart f.0 k es w (head_apart f es h) (find_at es i (k, w) rest at) in
      rw other (ap (λ fs. f ∷ fs) (without_at es i k w rest at))

  find_without : (k q : K) (es : List (K × V)) → find R q (without R k es) ≡ cond (not (eq_by_cmp R k q)) (find R q es) None
  find_without k q es = find-where_key R (λ x. not (eq_by_cmp R k x)) q (λ x t. ap (λ r. not (is_eq r)) (sym (alike_right o q x k t))) es

  pub distinct_without : (k : K) (es : List (K × V)) → are_distinct R es ≡ true → are_distinct R (without R k es) ≡ true
  distinct_without k [] h = refl
  distinct_without k (e ∷ es) h = by (not (eq_by_cmp R k e.0)) (distinct_without k es (tail_distinct e es h))
    where
      nothing : (b : Bool) → ◌≡◌ {A = Option V} (cond b None None) None
      nothing true = refl
      nothing false = refl

      by : (b : Bool) → are_distinct R (without R k es) ≡ true → are_distinct R (cond b (e ∷ without R k es) (without R k es)) ≡ true
      by false rest = rest
      by true rest =
          and_from (is_none (find R e.0 (without R k es))) (are_distinct R (without R k es))
          (ap is_none (find_without k e.0 es ∙ ap (λ x. cond (not (eq_by_cmp R k e.0)) x None) (head_apart e es h) ∙ nothing (not (eq_by_cmp R k e.0))))
          rest

  -- ---- in the order of the keys
  module _ (exact : IsAntisymmetric R) where
    same : (es fs : List (K × V)) → is_sorted R es ≡ true → is_sorted R fs ≡ true → ((q : K) → find R q es ≡ find R q fs) → es ≡ fs
    same es fs g h is = same_entries R o exact es fs (holds (is_sorted R es) g) (holds (is_sorted R fs) h) is

    stored : (es fs : List (K × V)) (k : K) (v : V) → ((q : K) → find R q fs ≡ cond (eq_by_cmp R q k) (Some v) (find R q es)) → in_order R fs ≡ put R k v (in_order R es)
    stored es fs k v is =
        same (in_order R fs) (put R k v (in_order R es)) (sorted_in_order R o fs) (sorted_put R o k v (in_order R es) (sorted_in_order R o es))
        (λ q. find_in_order q fs ∙ is q ∙ ap (cond (eq_by_cmp R q k) (Some v)) (sym (find_in_order q es)) ∙ sym (find-put R o q k v (in_order R es)))

    pub in_order_set : (es : List (K × V)) (i : ℕ) (k : K) (w v : V) → are_distinct R es ≡ true → slice_get es i ≡ Some (k, w) → in_order R (set es i (k, v)) ≡ put R k v (in_order R es)
    in_order_set es i k w v h at = stored es (set es i (k, v)) k v (λ q. find_set es i k w v q h at)

    pub in_order_push : (es : List (K × V)) (k : K) (v : V) → find R k es ≡ None → in_order R (es ++ (k, v) ∷ []) ≡ put R k v (in_order R es)
    in_order_push es k v none = stored es (es ++ (k, v) ∷ []) k v (λ q. find-append R o es k v q none)

    pub in_order_without : (k : K) (es : List (K × V)) → in_order R (without R k es) ≡ without R k (in_order R es)
    in_order_without k es =
        same (in_order R (without R k es)) (without R k (in_order R es)) (sorted_in_order R o (without R k es)) (sorted_without R k (in_order R es) (sorted_in_order R o es))
        (λ q. find_in_order q (without R k es) ∙ find_without k q es ∙ ap (λ x. cond (not (eq_by_cmp R k q)) x None) (sym (find_in_order q es)) ∙ sym (find_without k q (in_order R es)))

  -- ---- how many keys are lesser
  lesser_put : (k x : K) (v : V) (es : List (K × V)) → find R x es ≡ None → lesser_keys R k (put R x v es) ≡ cond (is_lt (R x k)) 1 0 + lesser_keys R k es
  lesser_put k x v [] none = lesser_cons R k (x, v) []
  lesser_put k x v (e ∷ es) none = by (R x e.0) none (lesser_put k x v es)
    where
      by : (r : Ordering) → cond (is_eq r) (Some e.1) (find R x es) ≡ None → (find R x es ≡ None → lesser_keys R k (put R x v es) ≡ cond (is_lt (R x k)) 1 0 + lesser_keys R k es) → lesser_keys R k (by_order r ((x, v) ∷ e ∷ es) ((e.0, v) ∷ es) (e ∷ put R x v es)) ≡ cond (is_lt (R x k)) 1 0 + lesser_keys R k (e ∷ es)
      by Less found rest = lesser_cons R k (x, v) (e ∷ es)
      by Equal found rest = absurd (none-some e.1 (sym found))
      by Greater found rest = lesser_cons R k e (put R x v es) ∙ omega (arith, rest found, lesser_cons R k e es)

  lesser_in_order : (k : K) (es : List (K × V)) → are_distinct R es ≡ true → lesser_keys R k (in_order R es) ≡ lesser_keys R k es
  lesser_in_order k [] h = refl
  lesser_in_order k (e ∷ es) h =
      lesser_put k e.0 e.1 (in_order R es) (find_in_order e.0 es ∙ head_apart e es h)
      ∙ ap (λ n. cond (is_lt (R e.0 k)) 1 0 + n) (lesser_in_order k es (tail_distinct e es h)) ∙ sym (lesser_cons R k e es)

  module _ (exact : IsAntisymmetric R) where
    -- the place of an entry is the number of lesser keys
    pub at_place : (es : List (K × V)) (i : ℕ) (e : K × V) (place : ℕ) → are_distinct R es ≡ true → slice_get es i ≡ Some e → lesser_keys R e.0 es ≡ place → slice_get (in_order R es) place ≡ Some e
    at_place es i e place h at count =
        let found = place_from_find e.0 (in_order R es) e.1 (find_in_order e.0 es ∙ find_at es i e h at) in
        let key = exact e.0 found.1 found.3 in
        let there : slice_get (in_order R es) found.0 ≡ Some e = found.2 ∙ ap (λ k. Some (k, e.1)) (sym key) in
        let lesser = lesser_at R o (in_order R es) found.0 e (sorted_in_order R o es) there in
        subst (λ n. slice_get (in_order R es) n ≡ Some e) (sym lesser ∙ lesser_in_order e.0 es h ∙ count) there

    -- where no entry has that many lesser keys, there is none at the place
    pub no_place : (es : List (K × V)) (place : ℕ) → are_distinct R es ≡ true → ((i : ℕ) (e : K × V) → slice_get es i ≡ Some e → lesser_keys R e.0 es ≡ place → ⊥) → slice_get (in_order R es) place ≡ None
    no_place es place h never = by (slice_get (in_order R es) place) refl
      where
        by : (r : Option (K × V)) → slice_get (in_order R es) place ≡ r → r ≡ None
        by None at = refl
        by (Some e) at =
            let found = place_from_find e.0 es e.1 (sym (find_in_order e.0 es) ∙ find_hit R o (in_order R es) place e (sorted_in_order R o es) at) in
            let key = exact e.0 found.1 found.3 in
            let there : slice_get es found.0 ≡ Some e = found.2 ∙ ap (λ k. Some (k, e.1)) (sym key) in
            absurd (never found.0 e there (sym (lesser_in_order e.0 es h) ∙ lesser_at R o (in_order R es) place e (sorted_in_order R o es) at))
