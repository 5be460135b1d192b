-- What a change of one link's cost may concern (profile).
use Rattle.std.specs.Prelude.{◌≡◌, false, List, map}
use Rattle.std.specs.List.{filter}
use Rattle.babel_value.specs.declared.keys.Peer.{Peer}
use Rattle.babel_value.specs.Prefixes.{PrefixValue}
use Rattle.babel_choice.specs.Routes.{RouteEntries, is_from}
use Rattle.babel_state.specs.Sameness.{has_prefix}
use Rattle.babel_route.specs.Selections.{IsCurrentBut}
use Rattle.babel_state.specs.State.{State, announces, cost_at}
use Rattle.babel_state.specs.CurrentSelections.{IsCurrentAt}

-- The prefixes to which the neighbour has a route.
abbrev pub prefixes_from : Peer → RouteEntries → List PrefixValue
prefixes_from peer es = map (λ e. e.0.prefix) (filter (λ e. is_from peer e.0) es)

-- The selection of the prefix is the neighbour's, or it is current but for the neighbour's routes.
abbrev pub IsCurrentButAt : Peer → PrefixValue → State → Type 0
IsCurrentButAt peer prefix s = IsCurrentBut s.sources (cost_at s) peer prefix (announces prefix s) s.routes

abbrev pub AreCurrentBut : Peer → State → Type 0
AreCurrentBut peer s = (prefix : PrefixValue) → IsCurrentButAt peer prefix s

-- The selection of each other prefix is current, and each is current but for the neighbour's routes.
abbrev pub AreOthersCurrent : Peer → State → Type 0
AreOthersCurrent peer s =
    ((prefix : PrefixValue) → has_prefix prefix (prefixes_from peer s.routes.entries) ≡ false → IsCurrentAt prefix s)
    × AreCurrentBut peer s
