-- How long what a neighbour advertised is kept, in centiseconds.
use Rattle.std.specs.Prelude.{ℕ, ◌*◌, ◌/◌}

-- How long after a Hello the next one is missed: 1.5 times the interval (RFC 8966, appendix A.1), rounded down (profile).
abbrev pub hello_patience : ℕ → ℕ
hello_patience interval = 3 * interval / 2
