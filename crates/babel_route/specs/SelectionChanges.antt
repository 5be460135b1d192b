-- What a reselection changes of the selection of a prefix (RFC 8966, sections 3.7.2 and 3.8.2).
use Rattle.std.specs.Prelude.{ℕ, Bool, true, false, ◌&&◌, Option, Some, None, slice_get, option_and_then, if◌then◌else◌}
use Rattle.std.specs.Option.{option_map}
use Rattle.std.specs.Ordering.{eq_by_cmp}
use Rattle.babel_value.specs.Orders.{octets_cmp, addr_cmp, peer_cmp}
use Rattle.babel_choice.specs.declared.entries.Selection.{Selection}
use Rattle.babel_choice.specs.Choices.{peer_before, selection_of}
use Rattle.babel_choice.specs.Routes.{RouteEntries}
use Rattle.babel_route.specs.declared.routes.changes.OriginChange.{OriginChange}
use Rattle.babel_route.specs.declared.routes.changes.OriginChange.TheVariants.{Same, New, Lost}
use Rattle.babel_route.specs.declared.routes.changes.Report.TheVariants.{Alike, Other}
use Rattle.babel_route.specs.declared.routes.changes.SelectionChange.{SelectionChange}
use Rattle.babel_route.specs.Currency.{is_same_distance}

-- From the selection before and the one after: a route that is new, that is lost, or whose router-id changed, or none of these.
abbrev pub origin_change : Option Selection → Option Selection → OriginChange
origin_change None None = Same
origin_change None (Some new) = New
origin_change (Some old) None = Lost old.entry.router old.entry.distance.seqno
origin_change (Some old) (Some new) = if eq_by_cmp octets_cmp old.entry.router new.entry.router then Same else New

-- The same is reported of two selections: their intervals and deadlines may differ.
abbrev pub is_alike : Selection → Selection → Bool
is_alike a b =
    eq_by_cmp peer_cmp a.peer b.peer && (eq_by_cmp octets_cmp a.entry.router b.entry.router
    && (eq_by_cmp addr_cmp a.entry.next_hop b.entry.next_hop && is_same_distance a.entry.distance b.entry.distance))

abbrev pub are_alike : Option Selection → Option Selection → Bool
are_alike None None = true
are_alike None (Some new) = false
are_alike (Some old) None = false
are_alike (Some old) (Some new) = is_alike old new

abbrev pub selection_change : Option Selection → Option Selection → SelectionChange
selection_change old new = record {
  before = peer_before old;
  origin = origin_change old new;
  report = if are_alike old new then Alike else Other;
}

-- The selection of the route at an index, if there is one.
abbrev pub selection_from : Option ℕ → RouteEntries → Option Selection
selection_from place es = option_map selection_of (option_and_then (slice_get es) place)
