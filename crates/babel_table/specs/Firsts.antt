-- The first of a list by an order (profile): the item that no other comes before.
use Rattle.std.specs.Prelude.{◌≡◌, ℕ, false, List, [], ◌∷◌, Option, Some, None, slice_get, if◌then◌else◌}
use Rattle.std.specs.declared.cmp.Ordering.{Ordering}
use Rattle.std.specs.Ordering.{is_lt}

-- The first of the items and of one that was found already.
abbrev pub first_from : {X : Type 0} → (X → X → Ordering) → Option X → List X → Option X
first_from order found [] = found
first_from order None (x ∷ xs) = first_from order (Some x) xs
first_from order (Some found) (x ∷ xs) = first_from order (Some (if is_lt (order x found) then x else found)) xs

abbrev pub first_of : {X : Type 0} → (X → X → Ordering) → List X → Option X
first_of order xs = first_from order None xs

-- The lesser of two items that may be there, the first one if neither is.
abbrev pub lesser_of : {X : Type 0} → (X → X → Ordering) → Option X → Option X → Option X
lesser_of order None b = b
lesser_of order (Some a) None = Some a
lesser_of order (Some a) (Some b) = Some (if is_lt (order b a) then b else a)

-- What `first_of` means: none if and only if there is no item, else an item that none comes before.
pub record IsFirst {X : Type 0} (order : X → X → Ordering) (xs : List X) (first : X) : Type 0 where
  pub place : ℕ
  pub at : slice_get xs place ≡ Some first
  pub before_all : (i : ℕ) (x : X) → slice_get xs i ≡ Some x → is_lt (order x first) ≡ false

abbrev pub IsFirstOf : {X : Type 0} → (X → X → Ordering) → List X → Option X → Type 0
IsFirstOf order xs None = xs ≡ []
IsFirstOf order xs (Some first) = IsFirst order xs first
