-- What was written of a speaker last, and the lines of it (profile).
use Rattle.std.specs.Prelude.{ℕ, List, ◌++◌, Option, flat_map}
use Rattle.babel_value.specs.Prefixes.{PrefixValue}
use Rattle.babel_control.specs.declared.changes.Known.{Known}
use Rattle.babel_control.specs.declared.lines.Event.TheVariants.{Add}
use Rattle.babel_control.specs.declared.rows.NeighbourRow.{NeighbourRow}
use Rattle.babel_control.specs.declared.rows.RouteRow.{RouteRow}
use Rattle.babel_control.specs.declared.views.DeviceAddresses.{DeviceAddresses}
use Rattle.babel_control.specs.declared.views.DeviceView.{DeviceView}
use Rattle.babel_control.specs.Lines.{interface_line, neighbour_line, xroute_line, route_line}

-- The devices by their numbers, the neighbours and the routes with the identifiers of their lines,
-- the announced prefixes, and the identifier that was given last.
pub record ChangesValue : Type 0 where
  pub devices : List (Option DeviceAddresses)
  pub neighbours : List (Known NeighbourRow)
  pub prefixes : List PrefixValue
  pub routes : List (Known RouteRow)
  pub last_id : ℕ

-- The lines of all that was there: devices, neighbours, announced prefixes, routes.
abbrev pub dump_lines : List DeviceView → ChangesValue → List ℕ
dump_lines devices changes =
    flat_map (interface_line Add) devices ++
    (flat_map (λ it. neighbour_line Add it.id it.row devices) changes.neighbours ++
    (flat_map (xroute_line Add) changes.prefixes ++
    flat_map (λ it. route_line Add it.id it.row devices) changes.routes))
