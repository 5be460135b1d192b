-- Requests for a greater seqno that are made again and again while a route would be selected if it were feasible (RFC 8966, section 3.8.2.2).
use Rattle.std.specs.Prelude.{ℕ, Bool, ◌&&◌, not, nat_lt, [], ◌∷◌, is_none, if◌then◌else◌}
use Rattle.std.specs.Option.{option_map_or}
use Rattle.babel_value.specs.Metrics.{infinity}
use Rattle.babel_value.specs.Prefixes.{PrefixValue}
use Rattle.babel_choice.specs.Choices.{route_metric, selection_metric, source_of}
use Rattle.babel_choice.specs.Routes.{Route, RouteEntries}
use Rattle.babel_state.specs.PendingRequests.{has_no_room}
use Rattle.babel_state.specs.Reselection.{is_unfeasible, request_for_lost, request_for_update}
use Rattle.babel_state.specs.State.{State, announces, cost_at, selected_at}

-- The metric of the prefix's selection by the link's present cost, or infinity if none is selected.
abbrev pub selected_metric : PrefixValue → State → ℕ
selected_metric prefix s = option_map_or (selection_metric (cost_at s)) (selected_at prefix s) infinity

-- The route would be selected if it were feasible: its prefix isn't announced here, and its metric by the link's present cost is less than that of the
-- selection.
abbrev pub is_wanted : State → Route → Bool
is_wanted s route =
    is_unfeasible s.sources route && not (announces route.0.prefix s)
    && nat_lt (route_metric (cost_at s) route) (selected_metric route.0.prefix s)

-- A greater seqno of its source is requested. If none is selected, the neighbours of all unfeasible routes to the prefix are asked, as when the route is
-- lost, and else the neighbour of this route, as after an unfeasible update. Neither requests it again while it is pending, so that each request is
-- repeated after longer and longer waits.
abbrev pub request_for_route : ℕ → Route → State → State
request_for_route now route s =
    if is_none (selected_at route.0.prefix s)
    then request_for_lost now route.0.prefix (record { peer = route.0.peer; entry = route.1 }) s
    else request_for_update now route.0.prefix (record { peer = route.0.peer; router = route.1.router }) s

-- It is requested if the request can be recorded.
abbrev pub request_for_wanted : ℕ → Route → State → State
request_for_wanted now route s =
    if is_wanted s route && not (has_no_room (source_of route) s.requests) then request_for_route now route s else s

abbrev pub request_for_each : ℕ → RouteEntries → State → State
request_for_each now [] s = s
request_for_each now (r ∷ rs) s = request_for_each now rs (request_for_wanted now r s)

-- For each route, in the order of the keys.
unfoldable pub seqnos_requested : ℕ → State → State
seqnos_requested now s = request_for_each now s.routes.entries s
