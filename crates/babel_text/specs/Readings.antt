-- What a reader of texts returns (profile).
use Rattle.std.specs.Prelude.{ℕ, List, Option, MatchOption}

-- A value that the text spells; none only if the text spells no value.
abbrev pub Reads : {A : Type 0} → (List ℕ → A → Type 0) → List ℕ → Option A → Type 0
Reads {A} Spells text read = MatchOption read ((value : A) → ¬ (Spells text value)) (Spells text)
