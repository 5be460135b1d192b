-- Which distance is better (RFC 8966, sections 2.4 and 3.5.1).
use Rattle.std.specs.Prelude.{◌≡◌, ℕ, Bool, ◌||◌, ◌&&◌, ◌<◌, ◌⊎◌, nat_lt, ◌==◌}
use Rattle.babel_value.specs.declared.distances.Distance.{Distance}
use Rattle.babel_value.specs.Seqnos.{is_before}

-- A newer sequence number, or the same one and a smaller metric (section 3.5.1).
abbrev pub is_better : Distance → Distance → Bool
is_better one other =
    is_before other.seqno one.seqno || (one.seqno == other.seqno && nat_lt one.metric other.metric)

-- The same on numbers without bound (profile): (n, m) is better than (n', m').
abbrev pub IsBetter : ℕ → ℕ → ℕ → ℕ → Type 0
IsBetter n m n' m' = (n' < n) ⊎ ((n ≡ n') × (m < m'))
