-- Requests of a neighbour (RFC 8966, section 3.8.1).
use Rattle.std.specs.Prelude.{ℕ, Bool, ◌-◌, ◌||◌, ◌&&◌, not, nat_lt, List, [], ◌∷◌, map, filter, Option, Some, None, slice_get, if◌then◌else◌}
use Rattle.std.specs.Option.{option_map, option_map_or}
use Rattle.babel_value.specs.declared.keys.Peer.{Peer}
use Rattle.babel_value.specs.declared.keys.Source.{Source}
use Rattle.babel_value.specs.Prefixes.{PrefixValue}
use Rattle.babel_value.specs.Seqnos.{next_seqno, is_before}
use Rattle.babel_value.specs.Metrics.{infinity}
use Rattle.babel_choice.specs.declared.entries.Selection.{Selection}
use Rattle.babel_choice.specs.Routes.{Route, RouteEntries}
use Rattle.babel_choice.specs.Choices.{routes_of, is_feasible_route}
use Rattle.babel_state.specs.declared.notes.Verdict.TheVariants.{Taken, Redundant, NotForwarded}
use Rattle.babel_state.specs.declared.requests.Resend.TheVariants.{Never}
use Rattle.babel_state.specs.Sameness.{is_same_router, is_same_peer}
use Rattle.babel_state.specs.Queueing.{counted}
use Rattle.babel_state.specs.PendingRequests.{is_redundant}
use Rattle.babel_state.specs.State.{State, announces, selected_at, reachable_prefixes}
use Rattle.babel_state.specs.Reselection.{queue, updates_to_all, update_to, request_seqno}
use Rattle.babel_state.specs.Hellos.{Step}

-- ---- route requests (RFC 8966, section 3.8.1.1)

-- An Update of the prefix is queued for the sender: a retraction, if there is no route.
abbrev pub handle_route_request : Peer → PrefixValue → State → Step
handle_route_request peer prefix s = (queue (update_to peer prefix ∷ []) s, Taken)

-- And of each prefix that is announced here or selected.
abbrev pub handle_dump_request : Peer → State → Step
handle_dump_request peer s = (queue (map (update_to peer) (reachable_prefixes s)) s, Taken)

-- ---- seqno requests (RFC 8966, section 3.8.1.2)

-- The own seqno grows by 1, never more (RFC 8966, section 3.2.2).
abbrev pub raised : State → State
raised s = record s { seqno = next_seqno s.seqno; raises = counted s.raises 1 }

-- A route of this router-id and seqno satisfies the request: it is of another router, or has no lesser seqno.
abbrev pub satisfies : List ℕ → ℕ → List ℕ → ℕ → Bool
satisfies router seqno asked_router asked = not (is_same_router asked_router router) || not (is_before seqno asked)

-- The prefix is announced here.
abbrev pub requested_of_own : Peer → Source → ℕ → State → State
requested_of_own peer source seqno s =
    if satisfies s.router s.seqno source.router seqno then queue (update_to peer source.prefix ∷ []) s
    else queue (updates_to_all source.prefix s) (raised s)

-- The request may be forwarded to the route's neighbour: the route is finite, and its neighbour isn't the one that asks.
abbrev pub is_passable : Peer → Route → Bool
is_passable asker route = nat_lt route.1.distance.metric infinity && not (is_same_peer route.0.peer asker)

abbrev pub first_peer : RouteEntries → Option Peer
first_peer routes = option_map (λ r. r.0.peer) (slice_get routes 0)

-- The least of those whose route is feasible; where there is none, the least of all.
abbrev pub receiver_among : State → RouteEntries → Option Peer
receiver_among s routes =
    option_map_or Some (first_peer (filter (is_feasible_route s.sources) routes)) (first_peer routes)

unfoldable pub receiver : Peer → PrefixValue → State → Option Peer
receiver asker prefix s = receiver_among s (filter (is_passable asker) (routes_of prefix s.routes.entries))

abbrev pub forward : ℕ → Source → ℕ → ℕ → Option Peer → State → Step
forward now source seqno hops None s = (s, NotForwarded)
forward now source seqno hops (Some next) s = (request_seqno now source seqno Never (hops - 1) (next ∷ []) s, Taken)

-- The prefix isn't announced here: the selected route satisfies it, or the request is forwarded.
abbrev pub requested_of_route : ℕ → Peer → Source → ℕ → ℕ → Option Selection → State → Step
requested_of_route now peer source seqno hops None s = (s, NotForwarded)
requested_of_route now peer source seqno hops (Some route) s =
    if satisfies route.entry.router route.entry.distance.seqno source.router seqno
    then (queue (update_to peer source.prefix ∷ []) s, Taken)
    else if is_redundant source seqno s.requests then (s, Redundant)
    else if nat_lt hops 2 then (s, NotForwarded)
    else forward now source seqno hops (receiver peer source.prefix s) s

unfoldable pub handle_seqno_request : ℕ → Peer → Source → ℕ → ℕ → State → Step
handle_seqno_request now peer source seqno hops s =
    if announces source.prefix s then (requested_of_own peer source seqno s, Taken)
    else requested_of_route now peer source seqno hops (selected_at source.prefix s) s
