-- That the selected routes stay as they are (profile).
use Rattle.std.specs.Prelude.{◌≡◌}
use Rattle.babel_value.specs.Prefixes.{PrefixValue}
use Rattle.babel_state.specs.State.{State}
use Rattle.babel_state.specs.Calls.{selected_route}

-- The same is reported of each prefix's selected route: its neighbour, next hop, router-id, distance and metric.
abbrev pub KeepsRoutes : State → State → Type 0
KeepsRoutes old new = (prefix : PrefixValue) → selected_route prefix new ≡ selected_route prefix old
