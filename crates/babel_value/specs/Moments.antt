-- Moments and durations, in centiseconds (profile).
use Rattle.std.specs.Prelude.{ℕ, ◌+◌, ◌*◌, ◌/◌, min}

-- A moment this much later (profile). It stops at the greatest moment, 2^64 - 1.
abbrev pub later : ℕ → ℕ → ℕ
later now duration = min (now + duration) 18446744073709551615

-- How long an advertisement with this interval is kept: 3.5 times it (RFC 8966, sections 3.4.2 and 3.5.4, appendix B), rounded down (profile).
abbrev pub hold_time : ℕ → ℕ
hold_time interval = 7 * interval / 2
