-- The first of a list by an order: what it is of a list whose items rise, and of two lists in a row.
use Rattle.std.proofs.Common.{◌≡◌, ℕ, zero, suc, Bool, true, false, not, if◌then◌else◌, List, [], ◌∷◌, ◌++◌, Option, Some, None, slice_get, refl, sym, ap, subst, ◌∙◌}
use Rattle.std.specs.List.{list_all}
use Rattle.std.proofs.lemmas.Bool.{and_parts, false≢true}
use Rattle.std.proofs.lemmas.Option.{same_Some, none-some}
use Rattle.std.proofs.lemmas.Cmp.{upto}
use Rattle.std.specs.declared.cmp.Ordering.{Ordering}
use Rattle.std.specs.declared.cmp.Ordering.TheVariants.{Less, Equal, Greater}
use Rattle.std.specs.Ordering.{is_lt, is_gt}
use Rattle.std.specs.Cmp.{IsTotalOrder, tied_itself}
use Rattle.babel_table.specs.Firsts.{first_from, first_of, lesser_of, IsFirst, IsFirstOf}
use Rattle.babel_value.proofs.Orderings.{less_reversed, less}

-- the lesser of two, the earlier one where neither is
abbrev pub lesser : {X : Type 0} → (X → X → Ordering) → X → X → X
lesser order a b = if is_lt (order b a) then b else a

not_greater : (r : Ordering) → is_lt r ≡ true → is_gt r ≡ false
not_greater Less h = refl
not_greater Equal h = refl
not_greater Greater h = sym h

module _ {X : Type 0} (order : X → X → Ordering) (o : IsTotalOrder order) where
  flip : (a b : X) → is_lt (order a b) ≡ is_gt (order b a)
  flip a b = ap is_lt (o.antisymm a b) ∙ less_reversed (order b a)

  -- where neither step falls, nothing falls
  pub rises : (a b c : X) → is_lt (order b a) ≡ false → is_lt (order c b) ≡ false → is_lt (order c a) ≡ false
  rises a b c first second = flip c a ∙ upto o a b c (sym (flip b a) ∙ first) (sym (flip c b) ∙ second)

  falls : (a b c : X) → is_lt (order b a) ≡ true → is_lt (order c b) ≡ true → is_lt (order c a) ≡ true
  falls a b c first second = ap is_lt (o.trans c b a (less (order c b) second) (less (order b a) first))

  lesser_assoc : (a b c : X) → lesser order (lesser order a b) c ≡ lesser order a (lesser order b c)
  lesser_assoc a b c = by (is_lt (order b a)) (is_lt (order c b)) refl refl
    where
      by : (first second : Bool) → is_lt (order b a) ≡ first → is_lt (order c b) ≡ second → lesser order (lesser order a b) c ≡ lesser order a (lesser order b c)
      by true true first second = rw first (rw second (rw (falls a b c first second) refl))
      by true false first second = rw first (rw second (rw first refl))
      by false true first second = rw first (rw second refl)
      by false false first second = rw first (rw second (rw first (rw (rises a b c first second) refl)))

  -- one that was found before the others
  found_before : (a b c : X) (xs : List X) → first_from order (Some b) xs ≡ Some c → first_from order (Some (lesser order a b)) xs ≡ Some (lesser order a c)
  found_before a b c [] is = ap (λ d. Some (lesser order a d)) (same_Some b c is)
  found_before a b c (x ∷ xs) is =
      ap (λ d. first_from order (Some d) xs) (lesser_assoc a b x) ∙ found_before a (lesser order b x) c xs is

  -- the first of two lists in a row is the lesser of their firsts
  pub first_of_row : (xs ys : List X) → first_of order (xs ++ ys) ≡ lesser_of order (first_of order xs) (first_of order ys)
  first_of_row xs ys = in_a_row None xs ys ∙ by (first_of order xs) ys
    where
      in_a_row : (f : Option X) (xs ys : List X) → first_from order f (xs ++ ys) ≡ first_from order (first_from order f xs) ys
      in_a_row f [] ys = refl
      in_a_row None (x ∷ xs) ys = in_a_row (Some x) xs ys
      in_a_row (Some g) (x ∷ xs) ys = in_a_row (Some (lesser order g x)) xs ys

      some_found : (y : X) (ys : List X) → (c : X) × (first_from order (Some y) ys ≡ Some c)
      some_found y [] = (y, refl)
      some_found y (z ∷ ys) = some_found (lesser order y z) ys

      by : (found : Option X) (ys : List X) → first_from order found ys ≡ lesser_of order found (first_of order ys)
      by None ys = refl
      by (Some a) [] = refl
      by (Some a) (y ∷ ys) =
          let e = some_found y ys in
          found_before a y e.0 ys e.1 ∙ ap (lesser_of order (Some a)) (sym e.1)

  -- the head is the first where nothing comes before it
  pub head_is_first : (x : X) (xs : List X) → list_all (λ y. not (is_lt (order y x))) xs ≡ true → first_from order (Some x) xs ≡ Some x
  head_is_first x [] all = refl
  head_is_first x (y ∷ xs) all =
      let parts = and_parts (not (is_lt (order y x))) (list_all (λ y. not (is_lt (order y x))) xs) all in
      by (is_lt (order y x)) parts.0 (head_is_first x xs parts.1)
    where
      by : (b : Bool) → not b ≡ true → first_from order (Some x) xs ≡ Some x → first_from order (Some (if b then y else x)) xs ≡ Some x
      by true h rest = absurd (false≢true h)
      by false h rest = rest

-- ---- what `first_of` means
module _ {X : Type 0} (order : X → X → Ordering) (o : IsTotalOrder order) where
  -- the first of what was found and the others is one of them, and none comes before it
  is_first_of_found : (found first : X) (xs : List X) → first_from order (Some found) xs ≡ Some first → IsFirst order (found ∷ xs) first
  is_first_of_found found first [] is = record { place = 0; at = is; before_all = none }
    where
      none : (i : ℕ) (x : X) → slice_get (found ∷ []) i ≡ Some x → is_lt (order x first) ≡ false
      none zero x at = ap is_lt (subst (λ y. order x y ≡ Equal) (sym (same_Some found x at) ∙ same_Some found first is) (tied_itself o x))
      none (suc i) x at = absurd (none-some x at)
  is_first_of_found found first (y ∷ xs) is =
      by (is_lt (order y found)) refl (λ (found : X) is. is_first_of_found found first xs is) is
    where
      after_lesser : is_lt (order y found) ≡ true → IsFirst order (y ∷ xs) first → IsFirst order (found ∷ y ∷ xs) first
      after_lesser lt rest = record { place = suc rest.place; at = rest.at; before_all = none }
        where
          none : (i : ℕ) (x : X) → slice_get (found ∷ y ∷ xs) i ≡ Some x → is_lt (order x first) ≡ false
          none zero x at =
              let turned = flip order o found y ∙ not_greater (order y found) lt in
              subst (λ z. is_lt (order z first) ≡ false) (same_Some found x at) (rises order o first y found (rest.before_all 0 y refl) turned)
          none (suc i) x at = rest.before_all i x at

      after_found : is_lt (order y found) ≡ false → IsFirst order (found ∷ xs) first → IsFirst order (found ∷ y ∷ xs) first
      after_found ge rest = record { place = later rest.place; at = place_is rest.place rest.at; before_all = none }
        where
          later : ℕ → ℕ
          later zero = zero
          later (suc i) = suc (suc i)

          place_is : (i : ℕ) → slice_get (found ∷ xs) i ≡ Some first → slice_get (found ∷ y ∷ xs) (later i) ≡ Some first
          place_is zero at = at
          place_is (suc i) at = at

          none : (i : ℕ) (x : X) → slice_get (found ∷ y ∷ xs) i ≡ Some x → is_lt (order x first) ≡ false
          none zero x at = rest.before_all 0 x at
          none (suc zero) x at = subst (λ z. is_lt (order z first) ≡ false) (same_Some y x at) (rises order o first found y (rest.before_all 0 found refl) ge)
          none (suc (suc i)) x at = rest.before_all (suc i) x at

      by : (b : Bool) → is_lt (order y found) ≡ b → ((found : X) → first_from order (Some found) xs ≡ Some first → IsFirst order (found ∷ xs) first) → first_from order (Some (if b then y else found)) xs ≡ Some first → IsFirst order (found ∷ y ∷ xs) first
      by true lt rest is = after_lesser lt (rest y is)
      by false ge rest is = after_found ge (rest found is)

  pub is_first : (xs : List X) (first : X) → first_of order xs ≡ Some first → IsFirst order xs first
  is_first [] first is = absurd (none-some first is)
  is_first (x ∷ xs) first is = is_first_of_found x first xs is

  some_first : (x : X) (xs : List X) → (c : X) × (first_from order (Some x) xs ≡ Some c)
  some_first x [] = (x, refl)
  some_first x (y ∷ xs) = some_first (if is_lt (order y x) then y else x) xs

  pub none_first : (xs : List X) → first_of order xs ≡ None → xs ≡ []
  none_first [] is = refl
  none_first (x ∷ xs) is = let c = some_first x xs in absurd (none-some c.0 (sym is ∙ c.1))

  pub first_is_first : (xs : List X) → IsFirstOf order xs (first_of order xs)
  first_is_first xs = by (first_of order xs) refl
    where
      by : (o : Option X) → first_of order xs ≡ o → IsFirstOf order xs o
      by None is = none_first xs is
      by (Some first) is = is_first xs first is
