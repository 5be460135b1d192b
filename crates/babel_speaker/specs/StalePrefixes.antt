-- Prefixes whose selection isn't current, as a test (RFC 8966, section 3.6).
use Rattle.std.specs.Prelude.{ℕ, Bool, not, is_some}
use Rattle.std.specs.FinMap.{find}
use Rattle.babel_value.specs.declared.keys.Peer.{Peer}
use Rattle.babel_value.specs.Orders.{prefix_cmp}
use Rattle.babel_value.specs.Prefixes.{PrefixValue}
use Rattle.babel_route.specs.Currency.{is_current}
use Rattle.babel_route.specs.Selections.{RoutesValue}
use Rattle.babel_sources.specs.Sources.{Sources}
use Rattle.babel_state.specs.State.{PrefixSet}

-- The selection of the prefix isn't the one that a reselection would leave.
abbrev pub is_stale : Sources → (Peer → ℕ) → PrefixSet → RoutesValue → PrefixValue → Bool
is_stale sources cost announced routes prefix =
    not (is_current sources cost prefix (is_some (find prefix_cmp prefix announced)) routes)
