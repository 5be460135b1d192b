-- The lines of the routes of a prefix, and why each is used or not (profile).
use Rattle.std.specs.Prelude.{ℕ, Bool, false, not, List, Option, flat_map, nat_lt, if◌then◌else◌}
use Rattle.std.specs.Option.{option_map_or}
use Rattle.babel_value.specs.declared.distances.Distance.{Distance}
use Rattle.babel_value.specs.declared.keys.Peer.{Peer}
use Rattle.babel_value.specs.Metrics.{infinity, metric_sum}
use Rattle.babel_value.specs.Prefixes.{PrefixValue}
use Rattle.babel_choice.specs.declared.entries.Entry.{Entry}
use Rattle.babel_sources.specs.Distances.{improves_on}
use Rattle.babel_state.specs.Calls.{selected_route, reported_entries}
use Rattle.babel_state.specs.Sameness.{is_same_peer}
use Rattle.babel_state.specs.State.{State, announces, pair_at}
use Rattle.babel_replay.specs.declared.lines.routes.RouteLine.{RouteLine}
use Rattle.babel_replay.specs.declared.lines.routes.RouteStatus.{RouteStatus}
use Rattle.babel_replay.specs.declared.lines.routes.RouteStatus.TheVariants as statuses
use Rattle.babel_replay.specs.Texts.{line, route_text}

-- The prefix's selected route leads over the neighbour.
abbrev pub is_selected_over : PrefixValue → Peer → State → Bool
is_selected_over prefix peer s = option_map_or (λ route. is_same_peer route.peer peer) (selected_route prefix s) false

-- Whether a route is used, or why not, by the first that holds: the prefix is the speaker's own; the route was retracted or is too old; it isn't
-- feasible (RFC 8966, section 3.5.1); its metric over the link is infinite; it is the selected one. A route that is left is a candidate.
abbrev pub status_by : Bool → Distance → Option Distance → ℕ → Bool → RouteStatus
status_by is_own advertised source metric is_selected =
    if is_own then statuses.Local
    else if not (nat_lt advertised.metric infinity) then statuses.Infinite
    else if not (improves_on source advertised) then statuses.Unfeasible
    else if not (nat_lt metric infinity) then statuses.Unreachable
    else if is_selected then statuses.Selected
    else statuses.Candidate

-- A route of the prefix: what its neighbour advertised, the cost of the link and the metric over it, the feasibility distance, and the status.
abbrev pub route_fields : PrefixValue → State → Peer → Entry → ℕ → RouteLine
route_fields prefix s peer entry cost = record {
  prefix = prefix;
  peer = peer;
  router = entry.router;
  advertised = entry.distance;
  cost = cost;
  metric = metric_sum entry.distance.metric cost;
  source = pair_at prefix entry.router s;
  status = status_by (announces prefix s) entry.distance (pair_at prefix entry.router s) (metric_sum entry.distance.metric cost) (is_selected_over prefix peer s);
}

abbrev pub route_line : PrefixValue → State → Peer × Entry × ℕ → List ℕ
route_line prefix s (peer, entry, cost) = line (route_text (route_fields prefix s peer entry cost))

-- A line for each entry of the prefix, ascending by neighbour.
abbrev pub route_lines : PrefixValue → State → List ℕ
route_lines prefix s = flat_map (route_line prefix s) (reported_entries prefix s)
