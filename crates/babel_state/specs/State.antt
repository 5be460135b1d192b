-- The state of a speaker (RFC 8966, section 3.2), and what is read from it.
use Rattle.std.specs.Prelude.{ℕ, Bool, List, [], ◌∷◌, ◌++◌, map, slice_get, slice_set, Option, is_some, ⊤}
use Rattle.std.specs.Option.{option_map_or}
use Rattle.std.specs.FinMap.{find, put}
use Rattle.babel_value.specs.declared.distances.Distance.{Distance}
use Rattle.babel_value.specs.declared.keys.Peer.{Peer}
use Rattle.babel_value.specs.Orders.{prefix_cmp, peer_cmp}
use Rattle.babel_value.specs.Prefixes.{PrefixValue}
use Rattle.babel_value.specs.Metrics.{infinity}
use Rattle.babel_link.specs.Neighbours.{Links, cost_of, rxcost_of}
use Rattle.babel_choice.specs.declared.entries.Entry.{Entry}
use Rattle.babel_choice.specs.declared.entries.Selection.{Selection}
use Rattle.babel_choice.specs.RouteKeys.{route_cmp}
use Rattle.babel_choice.specs.Routes.{RouteEntries, key_of}
use Rattle.babel_route.specs.Selections.{RoutesValue, selection_at, prefixes_of}
use Rattle.babel_sources.specs.Sources.{Sources, pair_of}
use Rattle.babel_state.specs.declared.interfaces.InterfaceEntry.{InterfaceEntry}
use Rattle.babel_state.specs.Queueing.{Pending}
use Rattle.babel_state.specs.PendingRequests.{PendingRequests}

-- A set of prefixes: a table of them with no values, in order.
abbrev pub PrefixSet : Type 0
PrefixSet = List (PrefixValue × ⊤)

-- Maps are lists of their entries in the order of the keys.
pub record State : Type 0 where
  -- the speaker's own router-id (RFC 8966, section 4.1.3)
  pub router : List ℕ
  -- whether entries of the source table are collected
  pub collects : Bool
  -- its own seqno (RFC 8966, section 3.2.2), and how often that grew
  pub seqno : ℕ
  pub raises : ℕ
  -- the prefixes that it announces itself
  pub announced : PrefixSet
  -- the interface table (RFC 8966, section 3.2.3), by number
  pub interfaces : List InterfaceEntry
  -- the neighbour table (RFC 8966, section 3.2.4)
  pub neighbours : Links
  -- the source table (RFC 8966, section 3.2.5)
  pub sources : Sources
  -- the route table and the selected routes (RFC 8966, section 3.2.6)
  pub routes : RoutesValue
  -- the table of pending requests (RFC 8966, section 3.2.7)
  pub requests : PendingRequests
  -- the items that are queued and not sent yet
  pub pending : Pending
  -- how many Updates were left out, since the source table had no room
  pub left_out : ℕ

-- ---- what is read

abbrev pub interface_at : ℕ → State → Option InterfaceEntry
interface_at iface s = slice_get s.interfaces iface

-- The speaker announces the prefix itself.
abbrev pub announces : PrefixValue → State → Bool
announces prefix s = is_some (find prefix_cmp prefix s.announced)

abbrev pub is_neighbour : Peer → State → Bool
is_neighbour peer s = is_some (find peer_cmp peer s.neighbours)

-- The nominal cost of an interface (RFC 8966, appendix A.2.1).
abbrev pub nominal_cost : ℕ → State → ℕ
nominal_cost iface s = option_map_or (λ i. i.cost) (interface_at iface s) infinity

-- The costs of the link to a neighbour now (RFC 8966, section 3.4.3).
abbrev pub rxcost_at : State → Peer → ℕ
rxcost_at s peer = rxcost_of peer (nominal_cost peer.iface s) s.neighbours

abbrev pub cost_at : State → Peer → ℕ
cost_at s peer = cost_of peer (nominal_cost peer.iface s) s.neighbours

-- The feasibility distance of a source, if it has one (RFC 8966, section 3.2.5).
abbrev pub pair_at : PrefixValue → List ℕ → State → Option Distance
pair_at prefix router s = pair_of (record { prefix = prefix; router = router }) s.sources

-- What a neighbour advertised of a prefix (RFC 8966, section 3.2.6).
abbrev pub entry_at : PrefixValue → Peer → State → Option Entry
entry_at prefix peer s = find route_cmp (key_of prefix peer) s.routes.entries

-- The selected route of a prefix, as its last reselection left it (RFC 8966, section 3.6).
abbrev pub selected_at : PrefixValue → State → Option Selection
selected_at prefix s = selection_at prefix s.routes

abbrev pub with_entries : RouteEntries → State → State
with_entries entries s = record s { routes = record s.routes { entries = entries } }

-- The state with a change at one of the interfaces.
abbrev pub with_interface : ℕ → (InterfaceEntry → InterfaceEntry) → State → State
with_interface iface change s =
    option_map_or (λ i. record s { interfaces = slice_set s.interfaces iface (change i) }) (interface_at iface s) s

-- ---- prefixes in order

-- The set after each prefix of a list was added.
abbrev pub gathered : List PrefixValue → PrefixSet → PrefixSet
gathered [] es = es
gathered (p ∷ ps) es = gathered ps (put prefix_cmp p tt es)

-- The prefixes of a set, ascending.
abbrev pub prefixes_in : PrefixSet → List PrefixValue
prefixes_in = map (λ e. e.0)

-- The prefixes of a list in ascending order, each once.
abbrev pub ascending : List PrefixValue → List PrefixValue
ascending ps = prefixes_in (gathered ps [])

-- The prefixes that have an entry or a selection, ascending.
unfoldable pub routed_prefixes : State → List PrefixValue
routed_prefixes s = ascending (prefixes_of s.routes)

-- The prefixes that are announced here or selected, ascending.
unfoldable pub reachable_prefixes : State → List PrefixValue
reachable_prefixes s = ascending (prefixes_in s.announced ++ map (λ e. e.0) s.routes.selections)
