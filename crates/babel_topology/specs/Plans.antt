-- Plans (profile): steps in the order of their moments.
use Rattle.std.specs.Prelude.{ℕ, ◌≤◌, List, All}
use Rattle.std.specs.List.Sorted.{IsNonDecreasingBy}
use Rattle.babel_topology.specs.declared.topology.Step.{Step}

-- No step is earlier than the one before it.
abbrev pub IsInOrder : List Step → Type 0
IsInOrder steps = IsNonDecreasingBy (λ s. s.at) steps

-- No step is later than this moment.
abbrev pub EndsBy : ℕ → List Step → Type 0
EndsBy end steps = All (λ s. s.at ≤ end) steps
