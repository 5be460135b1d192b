-- A table as the list of its entries in the order of their keys (profile). What is at a key is `find`, what storing
-- makes of the list is `put`, and the order is `is_sorted`, all three of the standard library.
use Rattle.std.specs.Prelude.{ℕ, List, Option, Some, None, filter, not, count_by, filter_map, option_map}
use Rattle.std.specs.declared.cmp.Ordering.{Ordering}
use Rattle.std.specs.Ordering.{eq_by_cmp, is_lt}
use Rattle.std.specs.FinMap.{put}

-- The entries but for that of the key.
abbrev pub without : {K V : Type 0} → (K → K → Ordering) → K → List (K × V) → List (K × V)
without order key = filter (λ e. not (eq_by_cmp order key e.0))

-- The entries with this value at the key, or with none.
abbrev pub with_value : {K V : Type 0} → (K → K → Ordering) → K → Option V → List (K × V) → List (K × V)
with_value order key None es = without order key es
with_value order key (Some value) es = put order key value es

-- Each entry with the value that f gives it, without those to which it gives none.
abbrev pub revised_entries : {K V : Type 0} → (K → V → Option V) → List (K × V) → List (K × V)
revised_entries f = filter_map (λ e. option_map (λ v. (e.0, v)) (f e.0 e.1))

-- How many entries have a lesser key.
abbrev pub lesser_keys : {K V : Type 0} → (K → K → Ordering) → K → List (K × V) → ℕ
lesser_keys order key = count_by (λ e. is_lt (order e.0 key))
