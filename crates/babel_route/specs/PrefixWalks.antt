-- A walk over the prefixes that have an entry or a selection, in ascending order (profile).
use Rattle.std.specs.Prelude.{Bool, ◌&&◌, not}
use Rattle.std.specs.List.{list_all}
use Rattle.babel_value.specs.Orders.{prefix_cmp}
use Rattle.babel_value.specs.Prefixes.{PrefixValue}
use Rattle.babel_table.specs.Entries.{without}
use Rattle.babel_choice.specs.PrefixBounds.{is_before}
use Rattle.babel_choice.specs.Choices.{others_of}
use Rattle.babel_route.specs.Selections.{RoutesValue}

-- The tables without the entries and the selection of the prefix.
abbrev pub without_prefix : PrefixValue → RoutesValue → RoutesValue
without_prefix prefix routes =
    record { entries = others_of prefix routes.entries; selections = without prefix_cmp prefix routes.selections }

-- No entry and no selection is of a lesser prefix.
abbrev pub are_from : PrefixValue → RoutesValue → Bool
are_from prefix routes =
    list_all (λ e. not (is_before prefix e.0.prefix)) routes.entries && list_all (λ s. not (is_before prefix s.0)) routes.selections
