-- What the values of a file mean (profile): single ones, those at a key of a table, and lists.
use Rattle.std.specs.Prelude.{◌≡◌, ℕ, List, [], ◌∷◌, Option, Some, None}
use Rattle.toml.specs.Data.{Data, Items, no_items, item, as_str, as_array}

-- The value is a text that spells this.
abbrev pub IsText : {A : Type 0} → (List ℕ → A → Type 0) → Data → A → Type 0
IsText Spells d a = (text : List ℕ) × (as_str d ≡ Some text) × Spells text a

-- What the table must have at a key.
abbrev pub IsRequired : {A : Type 0} → (Data → A → Type 0) → Option Data → A → Type 0
IsRequired Means None a = ⊥
IsRequired Means (Some d) a = Means d a

-- What the table may have at a key.
abbrev pub IsOptional : {A : Type 0} → (Data → A → Type 0) → Option Data → Option A → Type 0
IsOptional Means None None = Unit {0}
IsOptional Means None (Some a) = ⊥
IsOptional Means (Some d) None = ⊥
IsOptional Means (Some d) (Some a) = Means d a

-- The same with a default for a key that the table lacks.
abbrev pub IsGivenOr : {A : Type 0} → (Data → A → Type 0) → A → Option Data → A → Type 0
IsGivenOr Means default None a = a ≡ default
IsGivenOr Means default (Some d) a = Means d a

-- The items of a list, one by one.
abbrev pub IsItems : {A : Type 0} → (Data → A → Type 0) → Items → List A → Type 0
IsItems Means no_items [] = Unit {0}
IsItems Means no_items (a ∷ list) = ⊥
IsItems Means (item d items) [] = ⊥
IsItems Means (item d items) (a ∷ list) = Means d a × IsItems Means items list

-- The value is a list of such items.
abbrev pub IsList : {A : Type 0} → (Data → A → Type 0) → Data → List A → Type 0
IsList Means d list = (items : Items) × (as_array d ≡ Some items) × IsItems Means items list
