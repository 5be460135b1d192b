-- Metrics, as whole numbers up to 65535, which is infinity (RFC 8966, section 3.5.2).
use Rattle.std.specs.Prelude.{ℕ, ◌+◌}
use Rattle.std.specs.Prelude.{min}

-- The metric of an unreachable destination (section 2.4).
abbrev pub infinity : ℕ
infinity = 65535

-- The metric over a link: the sum, and infinity from 65535 on (section 3.5.2).
abbrev pub metric_sum : ℕ → ℕ → ℕ
metric_sum metric cost = min (metric + cost) infinity
