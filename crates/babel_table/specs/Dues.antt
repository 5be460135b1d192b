-- Values that are due from a moment on (profile).
use Rattle.std.specs.Prelude.{ℕ, ◌^◌, ◌≤◌, ◌<◌, List, All}

-- No value of the table is due before the moment.
abbrev pub AreDueFrom : {K V : Type 0} → (V → ℕ) → ℕ → List (K × V) → Type 0
AreDueFrom due moment = All (λ e. moment ≤ due e.1)

-- No later moment is one before which no value of the table is due.
abbrev pub IsLastQuiet : {K V : Type 0} → (V → ℕ) → ℕ → List (K × V) → Type 0
IsLastQuiet due last es = (moment : ℕ) → moment < 2 ^ 64 → AreDueFrom due moment es → moment ≤ last
