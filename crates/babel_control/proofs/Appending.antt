-- One more part is appended.
use Rattle.std.proofs.Common.{◌≡◌, ◌<◌, ◌+◌, ℕ, List, ◌++◌, length, get_or, take, flat_map, sym, ap, ◌∙◌}
use Rattle.std.proofs.lemmas.List.{take_more, flat_map_more}

pub one_more : {X : Type 0} (f : X → List ℕ) (xs : List X) (i : ℕ) (d : X) (before out after : List ℕ) → i < length xs
    → out ≡ before ++ flat_map f (take i xs) → after ≡ out ++ f (get_or xs i d) → after ≡ before ++ flat_map f (take (i + 1) xs)
one_more f xs i d before out after inside so_far more =
    more ∙ (ap (λ t. t ++ f (get_or xs i d)) so_far
    ∙ (flat_map_more f before (take i xs) (get_or xs i d)
    ∙ ap (λ t. before ++ flat_map f t) (sym (take_more xs i d inside))))
