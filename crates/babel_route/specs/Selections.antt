-- The route table with its selections (RFC 8966, section 3.6).
use Rattle.std.specs.Prelude.{◌≡◌, ◌+◌, ℕ, Bool, true, not, ◌++◌, List, Option, map, length}
use Rattle.std.specs.List.{filter}
use Rattle.std.specs.Option.{option_map}
use Rattle.std.specs.FinMap.{find}
use Rattle.babel_value.specs.declared.keys.Peer.{Peer}
use Rattle.babel_value.specs.Orders.{prefix_cmp}
use Rattle.babel_value.specs.Prefixes.{PrefixValue}
use Rattle.babel_choice.specs.declared.entries.Selection.{Selection}
use Rattle.babel_table.specs.Entries.{with_value}
use Rattle.babel_sources.specs.Sources.{Sources}
use Rattle.babel_choice.specs.Routes.{Route, RouteEntries, routes_but}
use Rattle.babel_choice.specs.Choices.{candidates, has_entry, preference, selection_of, peer_before, is_change, choice, Selections}
use Rattle.babel_choice.specs.PrefixBounds.{is_beyond}
use Rattle.babel_table.specs.Firsts.{first_of, IsFirstOf}

-- ---- the table with its selections

pub record RoutesValue : Type 0 where
  pub entries : RouteEntries
  pub selections : Selections

abbrev pub selection_at : PrefixValue → RoutesValue → Option Selection
selection_at prefix routes = find prefix_cmp prefix routes.selections

-- The choice at a prefix, by the selection that is there now.
abbrev pub choice_at : Sources → (Peer → ℕ) → PrefixValue → Bool → RoutesValue → Option Selection
choice_at sources cost prefix local routes =
    choice sources cost prefix local (selection_at prefix routes) routes.entries

-- After a reselection of the prefix.
abbrev pub reselected : Sources → (Peer → ℕ) → PrefixValue → Bool → RoutesValue → RoutesValue
reselected sources cost prefix local routes =
    record routes { selections = with_value prefix_cmp prefix (choice_at sources cost prefix local routes) routes.selections }

-- After a reselection of the prefix its selection is the candidate that no other comes before; none, if there is no candidate.
abbrev pub SelectsTheFirst : Sources → (Peer → ℕ) → PrefixValue → Bool → RoutesValue → RoutesValue → Type 0
SelectsTheFirst sources cost prefix local old new =
    (first : Option Route) × (selection_at prefix new ≡ option_map selection_of first)
    × IsFirstOf (preference cost (peer_before (selection_at prefix old))) (candidates sources cost prefix local old.entries) first

-- The selection of the prefix is the one that a reselection would leave.
abbrev pub IsCurrent : Sources → (Peer → ℕ) → PrefixValue → Bool → RoutesValue → Type 0
IsCurrent sources cost prefix local routes =
    selection_at prefix routes ≡ choice_at sources cost prefix local routes

-- If the selection of the prefix isn't the neighbour's, it is the one that a reselection would leave if that neighbour had no route.
abbrev pub IsCurrentBut : Sources → (Peer → ℕ) → Peer → PrefixValue → Bool → RoutesValue → Type 0
IsCurrentBut sources cost peer prefix local routes =
    let before : Option Selection = selection_at prefix routes in
    is_change (peer_before before) peer ≡ true → before ≡ choice sources cost prefix local before (routes_but peer routes.entries)

-- ---- the prefixes, and room

-- How many prefixes have a selection but no entry any more (profile).
abbrev pub orphans : RouteEntries → Selections → ℕ
orphans es selections = length (filter (λ s. not (has_entry es s.0)) selections)

-- The places that are taken: one for each entry, and one for each prefix that has a selection but no entry (profile).
abbrev pub places_taken : RoutesValue → ℕ
places_taken routes = length routes.entries + orphans routes.entries routes.selections

-- The prefixes that have an entry or a selection.
abbrev pub prefixes_of : RoutesValue → List PrefixValue
prefixes_of routes = map (λ e. e.0.prefix) routes.entries ++ map (λ s. s.0) routes.selections

-- The least of them that is greater than the one given.
abbrev pub prefix_after : Option PrefixValue → RoutesValue → Option PrefixValue
prefix_after after routes = first_of prefix_cmp (filter (is_beyond after) (prefixes_of routes))
