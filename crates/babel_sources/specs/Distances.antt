-- Feasibility, and what a source table keeps (RFC 8966, sections 2.4, 3.5.1 and 3.7.3).
use Rattle.std.specs.Prelude.{Bool, true, ◌||◌, not, nat_lt, Option, Some, None, if◌then◌else◌}
use Rattle.babel_value.specs.declared.distances.Distance.{Distance}
use Rattle.babel_value.specs.Distances.{is_better}
use Rattle.babel_value.specs.Metrics.{infinity}

-- Whether an update is better than the pair of its source: always if there is none.
abbrev pub improves_on : Option Distance → Distance → Bool
improves_on None update = true
improves_on (Some pair) update = is_better update pair

-- Whether an update is feasible against the pair of its source (RFC 8966, section 3.5.1): it is a retraction, or its
-- source has no pair, or its sequence number and advertised metric are better than the pair.
abbrev pub is_feasible : Option Distance → Distance → Bool
is_feasible pair update = not (nat_lt update.metric infinity) || improves_on pair update

-- The better of a source's pair, if it has one, and a distance that is sent (RFC 8966, section 3.7.3).
abbrev pub better_pair : Option Distance → Distance → Distance
better_pair None sent = sent
better_pair (Some pair) sent = if is_better sent pair then sent else pair
