-- What is in filtered, mapped and joined lists.
use Rattle.std.proofs.Common.{◌≡◌, ◌⊎◌, Bool, true, false, List, [], ◌∷◌, ◌++◌, map, flat_map, filter, Contains, All, refl, sym, ap, ◌∙◌, subst, inl, inr, arith, cond, get_or}
use Rattle.std.proofs.lemmas.Bool.{false≢true}
use Rattle.std.proofs.lemmas.List.Elements.{Contains-get_or, Contains-push, Contains-push_cases, Contains-append_left, Contains-append_right, Contains-append_cases}

pub Contains-nil : {X : Type 0} → (x : X) → Contains [] x → ⊥
Contains-nil x h = omega (arith, h.1)

pub Contains-here : {X : Type 0} → (x : X) (xs : List X) → Contains (x ∷ xs) x
Contains-here x xs = Contains-append_left (x ∷ []) xs x (Contains-push [] x)

pub Contains-there : {X : Type 0} → (y : X) (xs : List X) (x : X) → Contains xs x → Contains (y ∷ xs) x
Contains-there y xs x h = Contains-append_right (y ∷ []) xs x h

pub Contains-cons_cases : {X : Type 0} → (y : X) (xs : List X) (x : X) → Contains (y ∷ xs) x → (y ≡ x) ⊎ Contains xs x
Contains-cons_cases y xs x h = by (Contains-append_cases (y ∷ []) xs x h)
  where
    alone : (Contains [] x ⊎ (y ≡ x)) → y ≡ x
    alone (inl h) = absurd (Contains-nil x h)
    alone (inr is) = is

    by : (Contains (y ∷ []) x ⊎ Contains xs x) → (y ≡ x) ⊎ Contains xs x
    by (inl h) = inl (alone (Contains-push_cases [] y x h))
    by (inr h) = inr h

pub Contains-map : {X Y : Type 0} (f : X → Y) → (xs : List X) (x : X) → Contains xs x → Contains (map f xs) (f x)
Contains-map f [] x h = absurd (Contains-nil x h)
Contains-map f (y ∷ ys) x h = by (Contains-map f ys x) (Contains-cons_cases y ys x h)
  where
    by : (Contains ys x → Contains (map f ys) (f x)) → ((y ≡ x) ⊎ Contains ys x) → Contains (f y ∷ map f ys) (f x)
    by more (inl is) = subst (λ z. Contains (f y ∷ map f ys) (f z)) is (Contains-here (f y) (map f ys))
    by more (inr h) = Contains-there (f y) (map f ys) (f x) (more h)

pub Contains-filter : {X : Type 0} (p : X → Bool) → (xs : List X) (x : X) → p x ≡ true → Contains xs x → Contains (filter p xs) x
Contains-filter p [] x is h = absurd (Contains-nil x h)
Contains-filter p (y ∷ ys) x is h = by (Contains-filter p ys x is) (p y) refl (Contains-cons_cases y ys x h)
  where
    by : (Contains ys x → Contains (filter p ys) x) → (b : Bool) → p y ≡ b → ((y ≡ x) ⊎ Contains ys x) → Contains (cond b (y ∷ filter p ys) (filter p ys)) x
    by more true _ (inl same) = subst (λ z. Contains (y ∷ filter p ys) z) same (Contains-here y (filter p ys))
    by more true _ (inr h) = Contains-there y (filter p ys) x (more h)
    by more false not (inl same) = absurd (false≢true (sym not ∙ ap p same ∙ is))
    by more false _ (inr h) = more h

pub Contains-from_filter : {X : Type 0} (p : X → Bool) → (xs : List X) (x : X) → Contains (filter p xs) x → Contains xs x × (p x ≡ true)
Contains-from_filter p [] x h = absurd (Contains-nil x h)
Contains-from_filter p (y ∷ ys) x h = by (Contains-from_filter p ys x) (p y) refl h
  where
    later : Contains ys x × (p x ≡ true) → Contains (y ∷ ys) x × (p x ≡ true)
    later r = (Contains-there y ys x r.0, r.1)

    first : (Contains (filter p ys) x → Contains ys x × (p x ≡ true)) → p y ≡ true → ((y ≡ x) ⊎ Contains (filter p ys) x) → Contains (y ∷ ys) x × (p x ≡ true)
    first more is (inl same) = (subst (λ z. Contains (y ∷ ys) z) same (Contains-here y ys), ap p (sym same) ∙ is)
    first more is (inr h) = later (more h)

    by : (Contains (filter p ys) x → Contains ys x × (p x ≡ true)) → (b : Bool) → p y ≡ b → Contains (cond b (y ∷ filter p ys) (filter p ys)) x → Contains (y ∷ ys) x × (p x ≡ true)
    by more true is h = first more is (Contains-cons_cases y (filter p ys) x h)
    by more false _ h = later (more h)

pub Contains-flat_map : {X Y : Type 0} (f : X → List Y) → (xs : List X) (x : X) (y : Y) → Contains xs x → Contains (f x) y → Contains (flat_map f xs) y
Contains-flat_map f [] x y h _ = absurd (Contains-nil x h)
Contains-flat_map f (z ∷ zs) x y h in_x = by (λ h. Contains-flat_map f zs x y h in_x) (Contains-cons_cases z zs x h)
  where
    by : (Contains zs x → Contains (flat_map f zs) y) → ((z ≡ x) ⊎ Contains zs x) → Contains (f z ++ flat_map f zs) y
    by more (inl same) = Contains-append_left (f z) (flat_map f zs) y (subst (λ w. Contains (f w) y) (sym same) in_x)
    by more (inr h) = Contains-append_right (f z) (flat_map f zs) y (more h)

pub All-from_Contains : {X : Type 0} (P : X → Type 0) → (xs : List X) → ((x : X) → Contains xs x → P x) → All P xs
All-from_Contains P xs h = λ i x inside. h (get_or xs i x) (Contains-get_or xs i x inside)
