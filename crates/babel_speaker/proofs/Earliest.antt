-- The least of moments, taken one by one.
use Rattle.std.proofs.Common.{◌≡◌, ℕ, zero, suc, ◌+◌, ◌≤◌, List, [], ◌∷◌, ◌++◌, map, drop, length, slice_get, Some, None, min, refl, ap, sym, ◌∙◌, add-one, arith}
use Rattle.std.specs.Option.{unwrap_or}
use Rattle.std.proofs.Math.Nat.{min-le_left}
use Rattle.std.proofs.Math.Seq.{drop-length}
use Rattle.babel_speaker.specs.Deadlines.{earliest}
use Rattle.babel_choice.proofs.RunLemmas.{drop_past}

pub earliest_both : (moment : ℕ) (xs ys : List ℕ) → earliest moment (xs ++ ys) ≡ earliest (earliest moment xs) ys
earliest_both moment [] ys = refl
earliest_both moment (x ∷ xs) ys = earliest_both (min moment x) xs ys

pub no_later : (moment : ℕ) (xs : List ℕ) → earliest moment xs ≤ moment
no_later moment [] = omega arith
no_later moment (x ∷ xs) = omega (arith, no_later (min moment x) xs, min-le_left moment x)

-- ---- the elements of a list by their indices

pub drop_at : {X : Type 0} (xs : List X) (k : ℕ) (x : X) → slice_get xs k ≡ Some x → drop k xs ≡ x ∷ drop (suc k) xs
drop_at [] k x is = cc
drop_at (y ∷ ys) zero x is = ap (λ o. unwrap_or o y ∷ ys) is
drop_at (y ∷ ys) (suc k) x is = drop_at ys k x is

pub drop_past_next : {X : Type 0} (xs : List X) (k : ℕ) → slice_get xs k ≡ None → drop (suc k) xs ≡ []
drop_past_next [] k is = refl
drop_past_next (y ∷ ys) zero is = cc
drop_past_next (y ∷ ys) (suc k) is = drop_past_next ys k is

module _ {X : Type 0} (f : X → ℕ) (xs : List X) where
  pub one_passed : (k : ℕ) (x : X) (moment after : ℕ) → slice_get xs k ≡ Some x → after ≡ min moment (f x) → earliest after (map f (drop (k + 1) xs)) ≡ earliest moment (map f (drop k xs))
  one_passed k x moment after is least =
      (λ i. earliest (least i) (map f (drop (add-one k i) xs)))
      ∙ ap (λ es. earliest moment (map f es)) (sym (drop_at xs k x is))

  pub none_passed : (k moment : ℕ) → slice_get xs k ≡ None → earliest moment (map f (drop (k + 1) xs)) ≡ earliest moment (map f (drop k xs))
  none_passed k moment is =
      ap (λ n. earliest moment (map f (drop n xs))) (add-one k)
      ∙ ap (λ es. earliest moment (map f es)) (drop_past_next xs k is ∙ sym (drop_past xs k is))

  pub all_passed : (k moment whole : ℕ) → k ≡ length xs → earliest moment (map f (drop k xs)) ≡ whole → moment ≡ whole
  all_passed k moment whole all is =
      sym (ap (λ es. earliest moment (map f es)) (ap (λ n. drop n xs) all ∙ drop-length xs)) ∙ is
