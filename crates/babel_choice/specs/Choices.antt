-- Which route of a prefix is chosen (RFC 8966, section 3.6).
use Rattle.std.specs.Prelude.{ℕ, Bool, true, ◌&&◌, not, List, [], slice_get, Option, Some, None, nat_lt, if◌then◌else◌}
use Rattle.std.specs.List.{filter, list_any}
use Rattle.std.specs.Option.{option_map, option_map_or}
use Rattle.std.specs.declared.cmp.Ordering.{Ordering}
use Rattle.std.specs.Ordering.{nat_cmp, bool_cmp, ordering_then, eq_by_cmp, is_lt}
use Rattle.babel_value.specs.declared.keys.Peer.{Peer}
use Rattle.babel_value.specs.declared.keys.Source.{Source}
use Rattle.babel_value.specs.Metrics.{infinity, metric_sum}
use Rattle.babel_value.specs.Orders.{prefix_cmp, peer_cmp}
use Rattle.babel_value.specs.Prefixes.{PrefixValue}
use Rattle.babel_choice.specs.declared.choices.Rank.{Rank}
use Rattle.babel_choice.specs.declared.entries.Selection.{Selection}
use Rattle.babel_sources.specs.Distances.{is_feasible}
use Rattle.babel_sources.specs.Sources.{Sources, pair_of}
use Rattle.babel_choice.specs.Routes.{Route, RouteEntries}
use Rattle.babel_table.specs.Firsts.{first_of}

-- ---- candidates

abbrev pub is_of : PrefixValue → Route → Bool
is_of prefix route = eq_by_cmp prefix_cmp route.0.prefix prefix

-- The routes of a prefix, in the order of the neighbours.
abbrev pub routes_of : PrefixValue → RouteEntries → RouteEntries
routes_of prefix = filter (is_of prefix)

-- The routes of all other prefixes.
abbrev pub others_of : PrefixValue → RouteEntries → RouteEntries
others_of prefix = filter (λ e. not (is_of prefix e))

-- The prefix has a route.
abbrev pub has_entry : RouteEntries → PrefixValue → Bool
has_entry es prefix = list_any (is_of prefix) es

-- Whose route it is: the prefix and the router-id that it names (RFC 8966, section 3.2.5).
abbrev pub source_of : Route → Source
source_of route = record { prefix = route.0.prefix; router = route.1.router }

-- The route is feasible against the present source table (RFC 8966, section 3.5.1).
abbrev pub is_feasible_route : Sources → Route → Bool
is_feasible_route sources route = is_feasible (pair_of (source_of route) sources) route.1.distance

-- The route's metric: the advertised one, and the neighbour's present cost (RFC 8966, section 3.5.2).
abbrev pub route_metric : (Peer → ℕ) → Route → ℕ
route_metric cost route = metric_sum route.1.distance.metric (cost route.0.peer)

-- A route that may be selected: feasible, with a finite metric (RFC 8966, section 3.6).
abbrev pub is_candidate : Sources → (Peer → ℕ) → Route → Bool
is_candidate sources cost route = is_feasible_route sources route && nat_lt (route_metric cost route) infinity

-- The candidates of a prefix: none, if the prefix is the speaker's own (profile).
abbrev pub candidates : Sources → (Peer → ℕ) → PrefixValue → Bool → RouteEntries → RouteEntries
candidates sources cost prefix local es = if local then [] else filter (is_candidate sources cost) (routes_of prefix es)

-- ---- the choice

-- The neighbour is another than the one selected before.
abbrev pub is_change : Option Peer → Peer → Bool
is_change before peer = option_map_or (λ old. not (eq_by_cmp peer_cmp peer old)) before true

-- What a candidate is chosen by: the metric, then whether it changes the selection, then the neighbour (profile; RFC 8966,
-- section 3.6 and appendix A.3).
abbrev pub rank_of : (Peer → ℕ) → Option Peer → Route → Rank
rank_of cost before route = record {
  metric = route_metric cost route;
  is_change = is_change before route.0.peer;
  peer = route.0.peer;
}

abbrev pub rank_cmp : Rank → Rank → Ordering
rank_cmp a b =
    ordering_then (nat_cmp a.metric b.metric)
    (ordering_then (bool_cmp a.is_change b.is_change) (peer_cmp a.peer b.peer))

-- The rank of the route at an index, if it has this metric.
abbrev pub rank_at : RouteEntries → Option Peer → ℕ → ℕ → Option Rank
rank_at es before metric place =
    option_map (λ r. record { metric = metric; is_change = is_change before r.0.peer; peer = r.0.peer }) (slice_get es place)

-- One rank comes before another, or one of them is missing.
abbrev pub is_lesser_rank : Option Rank → Option Rank → Bool
is_lesser_rank None other = true
is_lesser_rank (Some one) None = true
is_lesser_rank (Some one) (Some other) = is_lt (rank_cmp one other)

abbrev pub preference : (Peer → ℕ) → Option Peer → Route → Route → Ordering
preference cost before a b = rank_cmp (rank_of cost before a) (rank_of cost before b)

abbrev pub selection_of : Route → Selection
selection_of route = record { peer = route.0.peer; entry = route.1 }

abbrev pub peer_before : Option Selection → Option Peer
peer_before = option_map (λ s. s.peer)

-- The selection of a prefix, by the one before: the candidate that no other comes before.
abbrev pub choice : Sources → (Peer → ℕ) → PrefixValue → Bool → Option Selection → RouteEntries → Option Selection
choice sources cost prefix local before es =
    option_map selection_of (first_of (preference cost (peer_before before)) (candidates sources cost prefix local es))

-- ---- one route and the selection of another neighbour

-- The metric of a selected route, by the neighbour's present cost.
abbrev pub selection_metric : (Peer → ℕ) → Selection → ℕ
selection_metric cost s = metric_sum s.entry.distance.metric (cost s.peer)

-- The route takes the place of the selection: it is a candidate, and its metric is lesser, if there is a selection.
abbrev pub overtakes : Sources → (Peer → ℕ) → Option Selection → Route → Bool
overtakes sources cost selection route =
    is_candidate sources cost route
    && option_map_or (λ s. is_lt (nat_cmp (route_metric cost route) (selection_metric cost s))) selection true

-- ---- what was chosen

-- The selections as the last reselections left them, in the order of their prefixes.
abbrev pub Selections : Type 0
Selections = List (PrefixValue × Selection)
