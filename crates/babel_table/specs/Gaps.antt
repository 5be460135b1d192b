-- A list of slots with a gap (profile).
use Rattle.std.specs.Prelude.{ℕ, ◌+◌, List, ◌++◌, take, drop}

-- The items of the slots but for those of the gap, which begins at the slot `gap` and has `hole` slots.
abbrev pub around : {A : Type 0} → ℕ → ℕ → List A → List A
around gap hole slots = take gap slots ++ drop (gap + hole) slots
