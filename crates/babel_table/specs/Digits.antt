-- Binary digits of a number (profile: the bound on the steps of a look-up).
use Rattle.std.specs.Prelude.{ℕ, zero, suc, ◌+◌, ◌/◌, ◌==◌, if◌then◌else◌}

-- How often a number can be halved, rounded down, before it is 0; counted up to the limit.
abbrev pub halvings : ℕ → ℕ → ℕ
halvings zero n = 0
halvings (suc limit) n = if n == 0 then 0 else halvings limit (n / 2) + 1

-- How many digits a number has in base 2; 0 has none.
abbrev pub binary_digits : ℕ → ℕ
binary_digits n = halvings n n
