-- Rows of routes worked by hand, on which the definitions are computed (profile).
use Rattle.std.specs.Prelude.{ℕ, false, List, [], ◌∷◌, Option, option_map}
use Rattle.babel_value.specs.declared.addresses.Addr.{Addr}
use Rattle.babel_value.specs.declared.addresses.Addr.TheVariants.{V4}
use Rattle.babel_value.specs.declared.distances.Distance.{Distance}
use Rattle.babel_value.specs.declared.keys.Peer.{Peer}
use Rattle.babel_value.specs.Prefixes.{PrefixValue}
use Rattle.babel_choice.specs.declared.entries.Entry.{Entry}
use Rattle.babel_examples.specs.SourceExamples.{pair, one_sent}
use Rattle.babel_sources.specs.Sources.{Sources}
use Rattle.babel_choice.specs.Routes.{Route, key_of, updated, forgotten}
use Rattle.babel_route.specs.Selections.{RoutesValue, selection_at, reselected}

-- 10.n.0.0/16.
abbrev pub prefix : ℕ → PrefixValue
prefix n = record { addr = V4 (10 ∷ n ∷ 0 ∷ 0 ∷ []); length = 16 }

-- The neighbour 192.168.0.n at the interface 0.
abbrev pub neighbour : ℕ → Peer
neighbour n = record { iface = 0; addr = V4 (192 ∷ 168 ∷ 0 ∷ n ∷ []) }

-- Each link costs 96.
abbrev pub cost : Peer → ℕ
cost peer = 96

abbrev pub router : List ℕ
router = 0 ∷ 0 ∷ 0 ∷ 0 ∷ 0 ∷ 0 ∷ 0 ∷ 1 ∷ []

abbrev pub next_hop : Addr
next_hop = V4 (192 ∷ 168 ∷ 0 ∷ 9 ∷ [])

-- The entry of a route of router 1, advertised with this distance and the interval 1601.
abbrev pub entry : Distance → ℕ → Entry
entry distance deadline = record {
  router = router;
  distance = distance;
  next_hop = next_hop;
  interval = 1601;
  deadline = deadline;
}

-- The same, as the neighbour's route to 10.n.0.0/16.
abbrev pub route : ℕ → ℕ → Distance → ℕ → Route
route n from distance deadline = (key_of (prefix n) (neighbour from), entry distance deadline)

abbrev pub empty : RoutesValue
empty = record { entries = []; selections = [] }

-- After the neighbour advertised it now for 10.n.0.0/16.
abbrev pub updated_by : ℕ → ℕ → ℕ → Distance → RoutesValue → RoutesValue
updated_by now n from distance routes =
    record routes { entries = updated now (prefix n) (neighbour from) router distance next_hop 1601 routes.entries }

-- After a reselection of 10.n.0.0/16.
abbrev pub selecting : Sources → ℕ → RoutesValue → RoutesValue
selecting sources n = reselected sources cost (prefix n) false

-- The neighbour whose route to 10.n.0.0/16 is selected.
abbrev pub selected_of : ℕ → RoutesValue → Option Peer
selected_of n routes = option_map (λ s. s.peer) (selection_at (prefix n) routes)

-- ---- states

-- Two neighbours advertise the same, the greater one first; between the two the route is selected, or isn't.
abbrev pub two_updates : RoutesValue
two_updates = updated_by 0 2 1 (pair 5 0) (updated_by 0 2 2 (pair 5 0) empty)

abbrev pub greater_selected : RoutesValue
greater_selected = updated_by 0 2 1 (pair 5 0) (selecting [] 2 (updated_by 0 2 2 (pair 5 0) empty))

-- A route that is better than the pair (5, 96), received and selected at 0; then one that isn't, received at 1.
abbrev pub one_selected : RoutesValue
one_selected = selecting one_sent 2 (updated_by 0 2 1 (pair 5 95) empty)

abbrev pub unfeasible_update : RoutesValue
unfeasible_update = updated_by 1 2 1 (pair 5 96) one_selected

-- After the neighbour of the selected route was flushed.
abbrev pub flushed : RoutesValue
flushed = record one_selected { entries = forgotten (neighbour 1) one_selected.entries }

-- After another neighbour advertised 10.1.0.0/16 and 10.3.0.0/16.
abbrev pub three_prefixes : RoutesValue
three_prefixes = updated_by 2 1 2 (pair 0 7) (updated_by 2 3 2 (pair 0 7) flushed)
