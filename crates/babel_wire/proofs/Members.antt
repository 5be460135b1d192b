-- Members of lists.
use Rattle.std.proofs.Common.{◌≡◌, ◌⊎◌, zero, suc, List, [], ◌∷◌, ◌++◌, Contains, refl, sym, inl, inr, arith}
use Rattle.std.proofs.lemmas.List.Elements.{Contains-append_left, Contains-append_right, Contains-append_cases}

pub not_in_none : {X : Type 0} (x : X) → Contains [] x → ⊥
not_in_none x (k, inside, is) = omega (arith, inside)

pub in_one : {X : Type 0} (x y : X) → Contains (x ∷ []) y → y ≡ x
in_one x y (zero, inside, is) = sym is
in_one x y (suc k, inside, is) = absurd (not_in_none y (k, omega (arith, inside), is))

pub first_in : {X : Type 0} (x : X) (xs : List X) → Contains (x ∷ xs) x
first_in x xs = (zero, omega arith, refl)

pub later_in : {X : Type 0} (x : X) (xs : List X) (y : X) → Contains xs y → Contains (x ∷ xs) y
later_in x xs y h = Contains-append_right (x ∷ []) xs y h

pub in_more : {X : Type 0} (x : X) (xs : List X) (y : X) → Contains (x ∷ xs) y → (y ≡ x) ⊎ Contains xs y
in_more x xs y h = by (Contains-append_cases (x ∷ []) xs y h)
  where
    by : Contains (x ∷ []) y ⊎ Contains xs y → (y ≡ x) ⊎ Contains xs y
    by (inl here) = inl (in_one x y here)
    by (inr there) = inr there

-- All of one list are in the other.
abbrev pub AreIn : {X : Type 0} → List X → List X → Type 0
AreIn {X} xs ys = (x : X) → Contains xs x → Contains ys x

pub none_in : {X : Type 0} (xs : List X) → AreIn [] xs
none_in xs x h = absurd (not_in_none x h)

pub joined_in : {X : Type 0} (xs ys zs ws : List X) → AreIn xs zs → AreIn ys ws → AreIn (xs ++ ys) (zs ++ ws)
joined_in xs ys zs ws one other x h = by (Contains-append_cases xs ys x h)
  where
    by : Contains xs x ⊎ Contains ys x → Contains (zs ++ ws) x
    by (inl here) = Contains-append_left zs ws x (one x here)
    by (inr there) = Contains-append_right zs ws x (other x there)
