-- Laws of each route and of each selection (RFC 8966, sections 3.5 and 3.6), by look-ups.
use Rattle.std.specs.Prelude.{◌≡◌, ℕ, Bool, true, false, List, [], ◌∷◌, Option, Some, option_map, option_and_then, nat_lt, if◌then◌else◌}
use Rattle.std.specs.List.{list_all, list_any}
use Rattle.std.specs.Ordering.{eq_by_cmp}
use Rattle.std.specs.FinMap.{find, is_sorted}
use Rattle.babel_value.specs.declared.addresses.Addr.{Addr}
use Rattle.babel_value.specs.declared.distances.Distance.{Distance}
use Rattle.babel_value.specs.declared.keys.Peer.{Peer}
use Rattle.babel_value.specs.Orders.{prefix_cmp}
use Rattle.babel_value.specs.Prefixes.{PrefixValue}
use Rattle.babel_choice.specs.declared.entries.RouteKey.{RouteKey}
use Rattle.babel_choice.specs.declared.entries.Selection.{Selection}
use Rattle.babel_sources.specs.Sources.{Sources}
use Rattle.babel_choice.specs.RouteKeys.{route_cmp}
use Rattle.babel_choice.specs.Routes.{Route, RouteEntries, key_of, entry_of_update, updated, retracted_entry, retracted, retracted_from, retracted_all, kept_without, forgotten, expired_entry, expired}
use Rattle.babel_table.specs.Firsts.{IsFirstOf}
use Rattle.babel_choice.specs.Choices.{candidates, is_candidate, preference, peer_before, selection_of, choice}
use Rattle.babel_route.specs.Selections.{RoutesValue, choice_at, selection_at, reselected, IsCurrent, prefixes_of}

-- ---- entries

abbrev pub is_key : RouteKey → PrefixValue → Peer → Bool
is_key key prefix peer = eq_by_cmp route_cmp key (key_of prefix peer)

-- After an update its neighbour's route to its prefix is the update's; all others are as they were.
abbrev pub UpdatesOneRoute : Type 0
UpdatesOneRoute =
    (now : ℕ) (prefix : PrefixValue) (peer : Peer) (router : List ℕ) (distance : Distance) (next_hop : Addr) (interval : ℕ) (key : RouteKey) (es : RouteEntries) →
    find route_cmp key (updated now prefix peer router distance next_hop interval es)
    ≡ (if is_key key prefix peer then Some (entry_of_update now router distance next_hop interval) else find route_cmp key es)

-- A retraction retracts its neighbour's route to its prefix; all others are as they were.
abbrev pub RetractsOneRoute : Type 0
RetractsOneRoute =
    (now : ℕ) (prefix : PrefixValue) (peer : Peer) (key : RouteKey) (es : RouteEntries) →
    find route_cmp key (retracted now prefix peer es)
    ≡ (if is_key key prefix peer then option_map (retracted_entry now) (find route_cmp key es) else find route_cmp key es)

-- A retraction of all, a flush and the expiry of deadlines change each route by itself.
abbrev pub ChangesEachRoute : Type 0
ChangesEachRoute =
    (now : ℕ) (peer : Peer) (key : RouteKey) (es : RouteEntries) → is_sorted route_cmp es ≡ true →
    (find route_cmp key (retracted_all now peer es) ≡ option_and_then (retracted_from now peer key) (find route_cmp key es))
    × (find route_cmp key (forgotten peer es) ≡ option_and_then (kept_without peer key) (find route_cmp key es))
    × (find route_cmp key (expired now es) ≡ option_and_then (expired_entry now key) (find route_cmp key es))

-- Time changes nothing as long as no deadline is due.
abbrev pub are_before_deadline : ℕ → RouteEntries → Bool
are_before_deadline now = list_all (λ e. nat_lt now e.1.deadline)

abbrev pub ExpiresNothingEarly : Type 0
ExpiresNothingEarly = (now : ℕ) (es : RouteEntries) → are_before_deadline now es ≡ true → expired now es ≡ es

-- ---- selections

-- The choice is the candidate that no other comes before; there is none if and only if there is no candidate.
abbrev pub ChoosesTheFirst : Type 0
ChoosesTheFirst =
    (sources : Sources) (cost : Peer → ℕ) (prefix : PrefixValue) (local : Bool) (before : Option Selection) (es : RouteEntries) →
    (first : Option Route) × (choice sources cost prefix local before es ≡ option_map selection_of first)
    × IsFirstOf (preference cost (peer_before before)) (candidates sources cost prefix local es) first

-- The choice is its neighbour's route to the prefix, and a candidate.
abbrev pub ChoosesACandidate : Type 0
ChoosesACandidate =
    (sources : Sources) (cost : Peer → ℕ) (prefix : PrefixValue) (local : Bool) (before : Option Selection) (es : RouteEntries) (s : Selection) →
    is_sorted route_cmp es ≡ true → choice sources cost prefix local before es ≡ Some s →
    (local ≡ false) × (find route_cmp (key_of prefix s.peer) es ≡ Some s.entry) × (is_candidate sources cost (key_of prefix s.peer, s.entry) ≡ true)

-- A reselection leaves its choice at its prefix, and the selections of all other prefixes.
abbrev pub ReselectsOnePrefix : Type 0
ReselectsOnePrefix =
    (sources : Sources) (cost : Peer → ℕ) (prefix other : PrefixValue) (local : Bool) (routes : RoutesValue) →
    selection_at other (reselected sources cost prefix local routes)
    ≡ (if eq_by_cmp prefix_cmp other prefix then choice_at sources cost prefix local routes else selection_at other routes)

-- The prefixes reselected one after the other.
abbrev pub each_reselected : Sources → (Peer → ℕ) → (PrefixValue → Bool) → List PrefixValue → RoutesValue → RoutesValue
each_reselected sources cost is_local [] routes = routes
each_reselected sources cost is_local (prefix ∷ prefixes) routes =
    each_reselected sources cost is_local prefixes (reselected sources cost prefix (is_local prefix) routes)

abbrev pub is_among : PrefixValue → List PrefixValue → Bool
is_among prefix = list_any (eq_by_cmp prefix_cmp prefix)

-- If each prefix that has an entry or a selection is reselected, the selection of each prefix is current.
abbrev pub AreAllCurrent : Type 0
AreAllCurrent =
    (sources : Sources) (cost : Peer → ℕ) (is_local : PrefixValue → Bool) (prefixes : List PrefixValue) (routes : RoutesValue) (prefix : PrefixValue) →
    is_sorted route_cmp routes.entries ≡ true →
    (is_among prefix (prefixes_of routes) ≡ true → is_among prefix prefixes ≡ true) →
    IsCurrent sources cost prefix (is_local prefix) (each_reselected sources cost is_local prefixes routes)

-- If all selections are current, reselecting prefixes changes nothing.
abbrev pub KeepsWhatIsCurrent : Type 0
KeepsWhatIsCurrent =
    (sources : Sources) (cost : Peer → ℕ) (is_local : PrefixValue → Bool) (prefixes : List PrefixValue) (routes : RoutesValue) →
    is_sorted prefix_cmp routes.selections ≡ true → ((prefix : PrefixValue) → IsCurrent sources cost prefix (is_local prefix) routes) →
    each_reselected sources cost is_local prefixes routes ≡ routes
