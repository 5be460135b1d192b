-- What is selected again after candidates were lost and none came (RFC 8966, section 3.6; profile).
use Rattle.std.specs.Prelude.{◌≡◌, Bool, true, false, not, List, map, nat_lt, nat_le}
use Rattle.std.specs.List.{filter, list_any}
use Rattle.babel_value.specs.Metrics.{infinity}
use Rattle.babel_value.specs.Prefixes.{PrefixValue}
use Rattle.babel_choice.specs.declared.entries.Selection.{Selection}
use Rattle.babel_choice.specs.Routes.{Route}
use Rattle.babel_choice.specs.Choices.{Selections}
use Rattle.babel_route.specs.declared.routes.changes.OriginChange.{OriginChange}
use Rattle.babel_route.specs.declared.routes.changes.OriginChange.TheVariants as origins
use Rattle.babel_state.specs.Sameness.{has_prefix, is_same_peer}
use Rattle.babel_state.specs.State.{State, cost_at}
use Rattle.babel_state.specs.CurrentSelections.{IsCurrentAt}
use Rattle.babel_speaker.specs.declared.input.losses.Loss.{Loss}
use Rattle.babel_speaker.specs.declared.input.losses.Loss.TheVariants.{Cost, Deadline, Neighbour}

-- The selected route is lost: the link to its neighbour costs infinity, its deadline is due, or it is the neighbour's.
abbrev pub is_lost : Loss → State → Selection → Bool
is_lost Cost s route = not (nat_lt (cost_at s route.peer) infinity)
is_lost (Deadline now) s route = nat_le route.entry.deadline now
is_lost (Neighbour peer) s route = is_same_peer route.peer peer

-- The prefixes whose selected route is lost.
abbrev pub prefixes_lost : (Selection → Bool) → Selections → List PrefixValue
prefixes_lost lost selections = map (λ s. s.0) (filter (λ s. lost s.1) selections)

-- Whether the selected route of a prefix is lost.
abbrev pub is_any_lost : (Selection → Bool) → Selections → Bool
is_any_lost lost selections = list_any (λ s. lost s.1) selections

-- The selection of each prefix is current, unless its route is lost.
abbrev pub AreCurrentUnless : (Selection → Bool) → State → Type 0
AreCurrentUnless lost s =
    (prefix : PrefixValue) → has_prefix prefix (prefixes_lost lost s.routes.selections) ≡ false → IsCurrentAt prefix s

-- The advertised metric is finite (RFC 8966, section 3.5.4).
abbrev pub is_finite_route : Route → Bool
is_finite_route route = nat_lt route.1.distance.metric infinity

-- There is no route any more.
abbrev pub is_loss : OriginChange → Bool
is_loss origins.Same = false
is_loss origins.New = false
is_loss (origins.Lost router seqno) = true
