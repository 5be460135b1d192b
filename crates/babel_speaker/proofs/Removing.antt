-- The elements that are left after one more is removed.
use Rattle.std.proofs.Common.{◌≡◌, ℕ, zero, suc, ◌+◌, ◌≤◌, List, [], ◌∷◌, drop, length, refl, sym, ap, ◌∙◌, add-one}
use Rattle.std.proofs.lemmas.List.{drop_all}

module _ {X : Type 0} where
  drop_next : (xs : List X) (n : ℕ) → drop (suc n) xs ≡ drop 1 (drop n xs)
  drop_next xs zero = refl
  drop_next [] (suc n) = refl
  drop_next (x ∷ xs) (suc n) = drop_next xs n

  pub one_more : (xs : List X) (n : ℕ) → drop (n + 1) xs ≡ drop 1 (drop n xs)
  one_more xs n = ap (λ k. drop k xs) (add-one n) ∙ drop_next xs n

  pub none_left : (xs : List X) (n : ℕ) → length xs ≤ n + 1 → [] ≡ drop 1 (drop n xs)
  none_left xs n few = sym (drop_all (n + 1) xs few) ∙ one_more xs n
