-- Sequence numbers, as whole numbers below 65,536 (RFC 8966, section 3.2.1).
use Rattle.std.specs.Prelude.{ℕ, ◌+◌, ◌-◌, ◌%◌, Bool, ◌&&◌, nat_lt}

-- The number of seqnos, which form a circle.
abbrev pub seqno_modulus : ℕ
seqno_modulus = 65536

-- Half of the circle.
abbrev pub half_circle : ℕ
half_circle = 32768

-- How far t is ahead of s around the circle.
abbrev pub ahead : ℕ → ℕ → ℕ
ahead s t = (t + seqno_modulus - s) % seqno_modulus

-- The number after s.
abbrev pub next_seqno : ℕ → ℕ
next_seqno s = (s + 1) % seqno_modulus

-- s comes before t: t is ahead by less than half of the circle.
abbrev pub is_before : ℕ → ℕ → Bool
is_before s t = nat_lt 0 (ahead s t) && nat_lt (ahead s t) half_circle

-- The whole number that the seqno w represents if counting began at start (profile).
abbrev pub lift : ℕ → ℕ → ℕ
lift start w = ahead start w
