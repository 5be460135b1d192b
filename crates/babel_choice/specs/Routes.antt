-- The route table (RFC 8966, section 3.2.6): what updates, retractions and time make of its entries.
use Rattle.std.specs.Prelude.{ℕ, Bool, not, List, [], ◌∷◌, Option, Some, None, nat_le, nat_lt, if◌then◌else◌}
use Rattle.std.specs.List.{filter, list_any}
use Rattle.std.specs.Option.{option_map_or}
use Rattle.std.specs.Ordering.{eq_by_cmp}
use Rattle.std.specs.FinMap.{find, put}
use Rattle.babel_value.specs.declared.addresses.Addr.{Addr}
use Rattle.babel_value.specs.declared.distances.Distance.{Distance}
use Rattle.babel_value.specs.declared.keys.Peer.{Peer}
use Rattle.babel_value.specs.Metrics.{infinity}
use Rattle.babel_value.specs.Moments.{later, hold_time}
use Rattle.babel_value.specs.Orders.{peer_cmp}
use Rattle.babel_value.specs.Prefixes.{PrefixValue}
use Rattle.babel_choice.specs.declared.entries.RouteKey.{RouteKey}
use Rattle.babel_choice.specs.declared.entries.Entry.{Entry}
use Rattle.babel_table.specs.Entries.{revised_entries}
use Rattle.babel_choice.specs.RouteKeys.{route_cmp}

-- A route: a neighbour's entry for a prefix.
abbrev pub Route : Type 0
Route = RouteKey × Entry

-- The entries, in the order of their keys.
abbrev pub RouteEntries : Type 0
RouteEntries = List Route

abbrev pub key_of : PrefixValue → Peer → RouteKey
key_of prefix peer = record { prefix = prefix; peer = peer }

-- ---- an update (RFC 8966, section 3.5.3)

-- The entry that an update makes. Its distance has the advertised metric (RFC 8966, section 3.5.3).
abbrev pub entry_of_update : ℕ → List ℕ → Distance → Addr → ℕ → Entry
entry_of_update now router distance next_hop interval = record {
  router = router;
  distance = distance;
  next_hop = next_hop;
  interval = interval;
  deadline = later now (hold_time interval);
}

-- The entries after a neighbour's update: it replaces that neighbour's entry for the prefix, feasible or not (profile).
abbrev pub updated : ℕ → PrefixValue → Peer → List ℕ → Distance → Addr → ℕ → RouteEntries → RouteEntries
updated now prefix peer router distance next_hop interval es =
    put route_cmp (key_of prefix peer) (entry_of_update now router distance next_hop interval) es

-- ---- retractions (RFC 8966, section 3.5.3)

-- A retracted entry has an infinite metric. All else stays, and its hold time begins again (profile).
abbrev pub retracted_entry : ℕ → Entry → Entry
retracted_entry now e =
    record e { distance = record e.distance { metric = infinity }; deadline = later now (hold_time e.interval) }

-- The entries after a neighbour's retraction of a prefix.
abbrev pub retracted : ℕ → PrefixValue → Peer → RouteEntries → RouteEntries
retracted now prefix peer es =
    option_map_or (λ e. put route_cmp (key_of prefix peer) (retracted_entry now e) es)
    (find route_cmp (key_of prefix peer) es) es

-- The route is of the neighbour.
abbrev pub is_from : Peer → RouteKey → Bool
is_from peer key = eq_by_cmp peer_cmp key.peer peer

abbrev pub has_routes_from : Peer → RouteEntries → Bool
has_routes_from peer = list_any (λ e. is_from peer e.0)

-- The routes of all other neighbours.
abbrev pub routes_but : Peer → RouteEntries → RouteEntries
routes_but peer = filter (λ e. not (is_from peer e.0))

-- An entry after a retraction of all routes of a neighbour (RFC 8966, section 4.6.9).
abbrev pub retracted_from : ℕ → Peer → RouteKey → Entry → Option Entry
retracted_from now peer key e = Some (if is_from peer key then retracted_entry now e else e)

abbrev pub retracted_all : ℕ → Peer → RouteEntries → RouteEntries
retracted_all now peer = revised_entries (retracted_from now peer)

-- ---- a neighbour that is flushed, and time

-- An entry after the flush of a neighbour: those of that neighbour are removed (profile).
abbrev pub kept_without : Peer → RouteKey → Entry → Option Entry
kept_without peer key e = if is_from peer key then None else Some e

abbrev pub forgotten : Peer → RouteEntries → RouteEntries
forgotten peer = revised_entries (kept_without peer)

-- The route is of one of the neighbours.
abbrev pub is_from_any : List Peer → RouteKey → Bool
is_from_any peers key = list_any (λ peer. is_from peer key) peers

-- An entry after the flush of each of these neighbours (profile).
abbrev pub kept_without_each : List Peer → RouteKey → Entry → Option Entry
kept_without_each peers key e = if is_from_any peers key then None else Some e

-- The same of each of the neighbours.
abbrev pub all_forgotten : List Peer → RouteEntries → RouteEntries
all_forgotten [] es = es
all_forgotten (peer ∷ peers) es = all_forgotten peers (forgotten peer es)

-- What becomes of an entry in time: once its deadline is due it's retracted, and once more it goes (RFC 8966, section 3.5.4).
abbrev pub expired_entry : ℕ → RouteKey → Entry → Option Entry
expired_entry now key e =
    if nat_le e.deadline now
    then (if nat_lt e.distance.metric infinity then Some (retracted_entry now e) else None)
    else Some e

abbrev pub expired : ℕ → RouteEntries → RouteEntries
expired now = revised_entries (expired_entry now)
