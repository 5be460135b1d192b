-- Feasibility of the routes of one prefix (RFC 8966, section 3.5.1): the prefix of their sources is known.
use Rattle.std.specs.Prelude.{Bool, not}
use Rattle.babel_value.specs.Prefixes.{PrefixValue}
use Rattle.babel_choice.specs.Routes.{Route}
use Rattle.babel_sources.specs.Distances.{is_feasible}
use Rattle.babel_sources.specs.Sources.{Sources, pair_of}

-- The route is unfeasible as one to this prefix.
abbrev pub is_unfeasible_to : PrefixValue → Sources → Route → Bool
is_unfeasible_to prefix sources route = not (is_feasible (pair_of (record { prefix = prefix; router = route.1.router }) sources) route.1.distance)
