-- Updates and retractions of a neighbour (RFC 8966, section 3.5.3).
use Rattle.std.specs.Prelude.{ℕ, Bool, false, ◌&&◌, not, ◌==◌, List, Option, Some, None, is_none, is_some, if◌then◌else◌}
use Rattle.std.specs.Option.{option_map_or}
use Rattle.std.specs.FinMap.{find}
use Rattle.babel_value.specs.declared.addresses.Addr.{Addr}
use Rattle.babel_value.specs.declared.distances.Distance.{Distance}
use Rattle.babel_value.specs.declared.keys.Peer.{Peer}
use Rattle.babel_value.specs.declared.keys.Source.{Source}
use Rattle.babel_value.specs.Orders.{source_cmp}
use Rattle.babel_value.specs.Prefixes.{PrefixValue}
use Rattle.babel_value.specs.Seqnos.{is_before}
use Rattle.babel_sources.specs.Distances.{is_feasible}
use Rattle.babel_table.specs.Entries.{without}
use Rattle.babel_choice.specs.Routes.{updated, retracted, retracted_all, has_routes_from}
use Rattle.babel_route.specs.Selections.{places_taken}
use Rattle.babel_route.specs.Rooms.{most_routes}
use Rattle.babel_state.specs.declared.notes.Verdict.TheVariants as verdicts
use Rattle.babel_state.specs.Sameness.{is_same_router}
use Rattle.babel_state.specs.State.{State, pair_at, entry_at, selected_at, with_entries}
use Rattle.babel_state.specs.Reselection.{queue, updates_to_all, reselect, reselect_all}
use Rattle.babel_state.specs.Hellos.{Step}

-- ---- a finite update

-- It is stored, feasible or not (RFC 8966, section 3.5.3; that an unfeasible one is stored too is the profile's).
abbrev pub store : ℕ → Peer → PrefixValue → List ℕ → Addr → Distance → ℕ → State → State
store now peer prefix router next_hop distance interval s =
    with_entries (updated now prefix peer router distance next_hop interval s.routes.entries) s

-- The pending request for the source asks for no more than this seqno.
abbrev pub is_satisfied : Source → ℕ → State → Bool
is_satisfied source seqno s =
    option_map_or (λ r. not (is_before seqno r.seqno)) (find source_cmp source s.requests) false

-- The route is advertised to all, if the prefix has one (profile).
abbrev pub advertise_if_selected : PrefixValue → State → State
advertise_if_selected prefix s = if is_some (selected_at prefix s) then queue (updates_to_all prefix s) s else s

-- A feasible update satisfies the pending request for its source: that one goes (RFC 8966, section 3.2.7).
unfoldable pub satisfy_request : Source → ℕ → State → State
satisfy_request source seqno s =
    if is_satisfied source seqno s
    then advertise_if_selected source.prefix (record s { requests = without source_cmp source s.requests })
    else s

abbrev pub handle_feasible : ℕ → PrefixValue → List ℕ → ℕ → State → Step
handle_feasible now prefix router seqno s =
    (satisfy_request (record { prefix = prefix; router = router }) seqno (reselect now None prefix s), verdicts.Taken)

abbrev pub handle_unfeasible : ℕ → Peer → PrefixValue → List ℕ → Distance → State → Step
handle_unfeasible now peer prefix router pair s =
    (reselect now (Some (record { peer = peer; router = router })) prefix s, verdicts.Unfeasible pair)

-- The update is judged against the pair of its source (RFC 8966, section 3.5.1).
abbrev pub judge : ℕ → Peer → PrefixValue → List ℕ → Distance → Option Distance → State → Step
judge now peer prefix router distance None s = handle_feasible now prefix router distance.seqno s
judge now peer prefix router distance (Some pair) s =
    if is_feasible (Some pair) distance then handle_feasible now prefix router distance.seqno s
    else handle_unfeasible now peer prefix router pair s

-- The route is new, and all places are taken. A place is an entry's here: no selection is without an entry when an update comes.
abbrev pub is_route_too_many : PrefixValue → Peer → State → Bool
is_route_too_many prefix peer s = is_none (entry_at prefix peer s) && (places_taken s.routes == most_routes)

-- An update with a finite metric. The speaker's own comes back to it (profile).
unfoldable pub handle_update : ℕ → Peer → PrefixValue → List ℕ → Addr → Distance → ℕ → State → Step
handle_update now peer prefix router next_hop distance interval s =
    if is_same_router router s.router then (s, verdicts.OwnRouterId)
    else if is_route_too_many prefix peer s then (s, verdicts.TableFull)
    else
    judge now peer prefix router distance (pair_at prefix router s)
    (store now peer prefix router next_hop distance interval s)

-- ---- retractions

unfoldable pub handle_retraction : ℕ → Peer → PrefixValue → State → Step
handle_retraction now peer prefix s =
    if is_some (entry_at prefix peer s)
    then (reselect now None prefix (with_entries (retracted now prefix peer s.routes.entries) s), verdicts.Taken)
    else (s, verdicts.NoEntry)

-- A retraction of all that the neighbour advertised (RFC 8966, section 4.6.9).
unfoldable pub handle_retract_all : ℕ → Peer → State → Step
handle_retract_all now peer s =
    if has_routes_from peer s.routes.entries
    then (reselect_all now (with_entries (retracted_all now peer s.routes.entries) s), verdicts.Taken)
    else (s, verdicts.NoEntry)
