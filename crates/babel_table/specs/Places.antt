-- Places in a list of entries whose keys rise (profile).
use Rattle.std.specs.Prelude.{◌≡◌, ◌≤◌, ℕ, Bool, true, List, Some, length, take, drop, slice_get}
use Rattle.std.specs.List.{list_all}
use Rattle.std.specs.declared.cmp.Ordering.{Ordering}
use Rattle.std.specs.Ordering.{is_lt, is_gt}

-- The key is at the index.
abbrev pub IsAt : {K V : Type 0} → K → List (K × V) → ℕ → Type 0
IsAt {K} {V} key es place = (value : V) × (slice_get es place ≡ Some (key, value))

-- Each key is lesser than this one.
abbrev pub are_lesser : {K V : Type 0} → (K → K → Ordering) → K → List (K × V) → Bool
are_lesser order key = list_all (λ e. is_gt (order key e.0))

-- Each key is greater than this one.
abbrev pub are_greater : {K V : Type 0} → (K → K → Ordering) → K → List (K × V) → Bool
are_greater order key = list_all (λ e. is_lt (order key e.0))

-- The key is missing, and would be inserted at the index.
pub record IsGap {K V : Type 0} (order : K → K → Ordering) (key : K) (es : List (K × V)) (place : ℕ) : Type 0 where
  pub within : place ≤ length es
  pub lesser : are_lesser order key (take place es) ≡ true
  pub greater : are_greater order key (drop place es) ≡ true
