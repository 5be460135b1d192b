-- A list of entries in the order in which they came (profile: the plain table).
use Rattle.std.specs.Prelude.{◌≡◌, Bool, true, false, ◌&&◌, T, List, [], ◌∷◌, is_none, refl}
use Rattle.std.specs.declared.cmp.Ordering.{Ordering}
use Rattle.std.specs.Cmp.{IsTotalOrder}
use Rattle.std.specs.FinMap.{find, put, is_sorted}
use Rattle.std.specs.FinMap.Entries.{is_sorted-put}

-- The same entries in the order of their keys.
abbrev pub in_order : {K V : Type 0} → (K → K → Ordering) → List (K × V) → List (K × V)
in_order order [] = []
in_order order (e ∷ es) = put order e.0 e.1 (in_order order es)

-- No key is there twice.
abbrev pub are_distinct : {K V : Type 0} → (K → K → Ordering) → List (K × V) → Bool
are_distinct order [] = true
are_distinct order (e ∷ es) = is_none (find order e.0 es) && are_distinct order es

-- In the order of the keys they are in order.
rising : {K V : Type 0} (order : K → K → Ordering) → IsTotalOrder order → (es : List (K × V)) → T (is_sorted order (in_order order es))
rising order total [] = tt
rising order total (e ∷ es) = is_sorted-put order total e.0 e.1 (in_order order es) (rising order total es)

passes : (b : Bool) → T b → b ≡ true
passes true h = refl
passes false h = absurd h

pub sorted_in_order : {K V : Type 0} (order : K → K → Ordering) → IsTotalOrder order → (es : List (K × V)) → is_sorted order (in_order order es) ≡ true
sorted_in_order order total es = passes (is_sorted order (in_order order es)) (rising order total es)
