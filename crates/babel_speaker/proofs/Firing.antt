-- A list of which one element after the other is changed.
use Rattle.std.proofs.Common.{◌≡◌, ℕ, ◌+◌, zero, suc, List, [], ◌∷◌, ◌++◌, map, take, drop, slice_get, slice_set, Some, ap, ◌∙◌, sym, add-one}
use Rattle.std.specs.Option.{unwrap_or}

mapped_at : {X : Type 0} (f : X → X) (xs : List X) (k : ℕ) (x : X) → slice_get xs k ≡ Some x → take (suc k) (slice_set xs k (f x)) ++ map f (drop (suc k) (slice_set xs k (f x))) ≡ take k xs ++ map f (drop k xs)
mapped_at f [] k x is = cc
mapped_at f (y ∷ ys) zero x is = sym (ap (λ o. f (unwrap_or o y) ∷ map f ys) is)
mapped_at f (y ∷ ys) (suc k) x is = ap (λ zs. y ∷ zs) (mapped_at f ys k x is)

pub one_mapped : {X : Type 0} (f : X → X) (xs zs : List X) (k : ℕ) (x : X) → slice_get xs k ≡ Some x → zs ≡ slice_set xs k (f x) → take (k + 1) zs ++ map f (drop (k + 1) zs) ≡ take k xs ++ map f (drop k xs)
one_mapped f xs zs k x is set =
    ap (λ n. take n zs ++ map f (drop n zs)) (add-one k) ∙ ap (λ l. take (suc k) l ++ map f (drop (suc k) l)) set ∙ mapped_at f xs k x is
