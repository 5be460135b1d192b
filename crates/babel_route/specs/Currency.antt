-- Whether a selection is current, as a test (RFC 8966, section 3.6).
use Rattle.std.specs.Prelude.{ℕ, Bool, true, false, ◌&&◌, nat_eq, Option, Some, None}
use Rattle.std.specs.Ordering.{eq_by_cmp}
use Rattle.babel_value.specs.declared.distances.Distance.{Distance}
use Rattle.babel_value.specs.declared.keys.Peer.{Peer}
use Rattle.babel_value.specs.Orders.{octets_cmp, addr_cmp, peer_cmp}
use Rattle.babel_value.specs.Prefixes.{PrefixValue}
use Rattle.babel_choice.specs.declared.entries.Entry.{Entry}
use Rattle.babel_choice.specs.declared.entries.Selection.{Selection}
use Rattle.babel_sources.specs.Sources.{Sources}
use Rattle.babel_route.specs.Selections.{RoutesValue, selection_at, choice_at}

abbrev pub is_same_distance : Distance → Distance → Bool
is_same_distance a b = nat_eq a.seqno b.seqno && nat_eq a.metric b.metric

abbrev pub is_same_entry : Entry → Entry → Bool
is_same_entry a b =
    eq_by_cmp octets_cmp a.router b.router && (is_same_distance a.distance b.distance
    && (eq_by_cmp addr_cmp a.next_hop b.next_hop && (nat_eq a.interval b.interval && nat_eq a.deadline b.deadline)))

-- The same neighbour and the same entry, or none in both.
unfoldable pub is_same_selection : Option Selection → Option Selection → Bool
is_same_selection None None = true
is_same_selection None (Some new) = false
is_same_selection (Some old) None = false
is_same_selection (Some old) (Some new) = eq_by_cmp peer_cmp old.peer new.peer && is_same_entry old.entry new.entry

-- The selection of the prefix is the one that a reselection would leave.
abbrev pub is_current : Sources → (Peer → ℕ) → PrefixValue → Bool → RoutesValue → Bool
is_current sources cost prefix local routes =
    is_same_selection (selection_at prefix routes) (choice_at sources cost prefix local routes)
