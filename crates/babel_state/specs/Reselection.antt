-- Route selection and what follows from it: triggered updates and requests (RFC 8966, sections 3.6, 3.7.2 and 3.8.2).
use Rattle.std.specs.Prelude.{ℕ, Bool, true, false, ◌&&◌, not, List, [], ◌∷◌, map, length, filter, Option, Some, None, if◌then◌else◌}
use Rattle.std.specs.List.{list_any, range_with_len}
use Rattle.std.specs.Option.{option_map_or}
use Rattle.babel_value.specs.declared.distances.Distance.{Distance}
use Rattle.babel_value.specs.declared.keys.Peer.{Peer}
use Rattle.babel_value.specs.declared.keys.Source.{Source}
use Rattle.babel_value.specs.Prefixes.{PrefixValue}
use Rattle.babel_value.specs.Seqnos.{next_seqno}
use Rattle.babel_choice.specs.declared.entries.Selection.{Selection}
use Rattle.babel_choice.specs.Routes.{Route}
use Rattle.babel_choice.specs.Choices.{routes_of, is_feasible_route}
use Rattle.babel_route.specs.Selections.{reselected}
use Rattle.babel_sources.specs.Sources.{Sources}
use Rattle.babel_state.specs.declared.items.Item.{Item}
use Rattle.babel_state.specs.declared.items.Item.TheVariants as items
use Rattle.babel_state.specs.declared.requests.Resend.{Resend}
use Rattle.babel_state.specs.declared.requests.Resend.TheVariants.{Unfeasible, Neighbour}
use Rattle.babel_state.specs.Limits.{request_hops}
use Rattle.babel_state.specs.Sameness.{is_same_router, is_same_peer}
use Rattle.babel_state.specs.Queueing.{queued}
use Rattle.babel_state.specs.PendingRequests.{is_redundant, recorded}
use Rattle.babel_state.specs.State.{State, announces, cost_at, pair_at, selected_at, routed_prefixes}

-- ---- queueing

abbrev pub queue : List Item → State → State
queue xs s = record s { pending = queued xs s.pending }

abbrev pub update_to_all : PrefixValue → ℕ → Item
update_to_all prefix iface = items.Update (record { iface = iface; to = None }) prefix

-- An Update of the prefix to all on each interface, ascending.
abbrev pub updates_to_all : PrefixValue → State → List Item
updates_to_all prefix s = map (update_to_all prefix) (range_with_len 0 (length s.interfaces))

-- An Update of the prefix to the one who asked.
abbrev pub update_to : Peer → PrefixValue → Item
update_to peer prefix = items.Update (record { iface = peer.iface; to = Some peer.addr }) prefix

-- ---- asking for a seqno (RFC 8966, section 3.8.2)

abbrev pub request_items : Source → ℕ → ℕ → List Peer → List Item
request_items source seqno hops = map (λ peer. items.Request peer source seqno hops)

-- A request is recorded and queued for some neighbours; a redundant one isn't (RFC 8966, section 3.8.2.1).
unfoldable pub request_seqno : ℕ → Source → ℕ → Resend → ℕ → List Peer → State → State
request_seqno now source seqno resend hops peers s =
    if is_redundant source seqno s.requests then s
    else queue (request_items source seqno hops peers) (record s { requests = recorded now source seqno resend s.requests })

-- A route that has a finite metric and isn't feasible: a retraction is always feasible (RFC 8966, section 3.5.1).
abbrev pub is_unfeasible : Sources → Route → Bool
is_unfeasible sources route = not (is_feasible_route sources route)

-- The neighbours that have a finite and unfeasible route to the prefix, ascending.
unfoldable pub unfeasible_peers : PrefixValue → State → List Peer
unfeasible_peers prefix s = map (λ r. r.0.peer) (filter (is_unfeasible s.sources) (routes_of prefix s.routes.entries))

-- An update that wasn't feasible: its sender, and the router that it names.
pub record UnfeasibleUpdate : Type 0 where
  pub peer : Peer
  pub router : List ℕ

-- ---- what follows from a reselection

abbrev pub is_same_origin : Option Selection → Option Selection → Bool
is_same_origin None None = true
is_same_origin None (Some new) = false
is_same_origin (Some old) None = false
is_same_origin (Some old) (Some new) = is_same_router old.entry.router new.entry.router

-- A. A route that is new, that is lost or whose router-id changed is advertised at once to all (RFC 8966, section 3.7.2).
abbrev pub advertise_change : PrefixValue → Option Selection → Option Selection → State → State
advertise_change prefix old new s = if is_same_origin old new then s else queue (updates_to_all prefix s) s

-- B. Where the route was lost, the prefix isn't announced here, and some finite route to it is unfeasible, the neighbours of all such routes are asked for a greater seqno (RFC 8966, section 3.8.2.1).
abbrev pub may_request_for_lost : PrefixValue → State → Bool
may_request_for_lost prefix s = not (announces prefix s) && list_any (is_unfeasible s.sources) (routes_of prefix s.routes.entries)

-- The seqno that makes a route of the source feasible again: one more than that of its pair, or than the lost one.
abbrev pub seqno_after : Option Distance → ℕ → ℕ
seqno_after pair lost = next_seqno (option_map_or (λ d. d.seqno) pair lost)

abbrev pub request_for_lost : ℕ → PrefixValue → Selection → State → State
request_for_lost now prefix lost s =
    let source : Source = record { prefix = prefix; router = lost.entry.router } in
    request_seqno now source (seqno_after (pair_at prefix lost.entry.router s) lost.entry.distance.seqno) Unfeasible request_hops (unfeasible_peers prefix s) s

-- C. Otherwise, where the update of the selected route was unfeasible, its neighbour is asked (RFC 8966, section 3.8.2.2).
abbrev pub is_selected_peer : Peer → Option Selection → Bool
is_selected_peer peer old = option_map_or (λ c. is_same_peer c.peer peer) old false

abbrev pub request_for_update : ℕ → PrefixValue → UnfeasibleUpdate → State → State
request_for_update now prefix update s =
    option_map_or
    (λ pair. request_seqno now (record { prefix = prefix; router = update.router }) (next_seqno pair.seqno) (Neighbour update.peer) request_hops (update.peer ∷ []) s)
    (pair_at prefix update.router s) s

abbrev pub request_from_sender : ℕ → Option UnfeasibleUpdate → PrefixValue → Option Selection → State → State
request_from_sender now None prefix old s = s
request_from_sender now (Some update) prefix old s =
    if is_selected_peer update.peer old then request_for_update now prefix update s else s

abbrev pub request_for_seqno : ℕ → Option UnfeasibleUpdate → PrefixValue → Option Selection → Option Selection → State → State
request_for_seqno now cause prefix (Some lost) None s =
    if may_request_for_lost prefix s then request_for_lost now prefix lost s else request_from_sender now cause prefix (Some lost) s
request_for_seqno now cause prefix old new s = request_from_sender now cause prefix old s

-- ---- the reselection

-- The route of the prefix is selected again (RFC 8966, section 3.6).
abbrev pub select : PrefixValue → State → State
select prefix s = record s { routes = reselected s.sources (cost_at s) prefix (announces prefix s) s.routes }

abbrev pub follow_up : ℕ → Option UnfeasibleUpdate → PrefixValue → Option Selection → Option Selection → State → State
follow_up now cause prefix old new s = request_for_seqno now cause prefix old new (advertise_change prefix old new s)

-- After an input that was this unfeasible update, or none.
unfoldable pub reselect : ℕ → Option UnfeasibleUpdate → PrefixValue → State → State
reselect now cause prefix s =
    follow_up now cause prefix (selected_at prefix s) (selected_at prefix (select prefix s)) (select prefix s)

abbrev pub reselect_each : ℕ → List PrefixValue → State → State
reselect_each now [] s = s
reselect_each now (p ∷ ps) s = reselect_each now ps (reselect now None p s)

-- Each prefix that has an entry or a selection, ascending.
unfoldable pub reselect_all : ℕ → State → State
reselect_all now s = reselect_each now (routed_prefixes s) s
