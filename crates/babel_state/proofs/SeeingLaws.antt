-- What is current is a candidate, and so it is what a network asks of a selected route.
use Rattle.std.specs.Prelude.{◌≡◌, ◌<◌, ◌≤◌, ℕ, true, not, [], map, slice_get, Option, Some, None, nat_lt}
use Rattle.std.specs.FinMap.Entries.{is_some-find}
use Rattle.std.specs.Option.{option_map, option_and_then}
use Rattle.std.proofs.Common.{refl, ◌∙◌, ap, subst, arith}
use Rattle.std.proofs.lemmas.Bool.{and_parts, ltb-true, lt-ltb}
use Rattle.std.proofs.lemmas.Option.{same_Some, none-some, slice_get-map}
use Rattle.babel_value.specs.Orders.{prefix_cmp}
use Rattle.babel_value.specs.Metrics.{metric_sum}
use Rattle.babel_value.specs.Prefixes.{PrefixValue}
use Rattle.babel_choice.specs.declared.entries.Entry.{Entry}
use Rattle.babel_choice.specs.declared.entries.Selection.{Selection}
use Rattle.babel_sources.specs.Distances.{is_feasible}
use Rattle.babel_choice.specs.Routes.{key_of}
use Rattle.babel_choice.specs.Choices.{is_candidate, is_feasible_route, route_metric}
use Rattle.babel_state.specs.declared.selected.Selected.{Selected}
use Rattle.babel_state.proofs.CurrentLaws.{has_ascending}
use Rattle.babel_state.specs.State.{State, gathered, announces, cost_at, pair_at, entry_at, selected_at}
use Rattle.babel_state.specs.Addresses.{transport_of, address_of}
use Rattle.babel_state.specs.Calls.{new_interface, first_state, reported_selected, selected_route}
use Rattle.babel_state.specs.Seen.{seen, heard_if_finite, heard_of, IsSelecting}
use Rattle.babel_state.specs.SeenLaws.{NewSpeakersAreNew, AreCostsPositive, CurrentIsSelecting}
use Rattle.babel_state.specs.Invariants.{AreSelectable, IsWellFormed}
use Rattle.babel_state.proofs.Selecting.{current_selectable}
use Rattle.babel_state.proofs.SelectableTicks.{costs_positive}

option_mapped : {A B C : Type 0} (f : A → B) (g : B → Option C) (m : Option B) (o : Option A) → m ≡ option_map f o → option_and_then g m ≡ option_and_then (λ a. g (f a)) o
option_mapped f g m None is = ap (option_and_then g) is
option_mapped f g m (Some a) is = ap (option_and_then g) is

pub new_is_new : NewSpeakersAreNew
unfolding first_state seen selected_route
new_is_new c = record {
  router = refl;
  collects = refl;
  transports = λ iface. option_mapped new_interface transport_of (slice_get (map new_interface c.interfaces.items) iface) (slice_get c.interfaces.items iface) (slice_get-map new_interface c.interfaces.items iface);
  addresses = λ iface family. option_mapped new_interface (address_of family) (slice_get (map new_interface c.interfaces.items) iface) (slice_get c.interfaces.items iface) (slice_get-map new_interface c.interfaces.items iface);
  seqno = refl;
  raises = refl;
  announces = λ prefix. is_some-find prefix_cmp prefix (gathered c.prefixes.items []) ∙ has_ascending prefix c.prefixes.items;
  sources = λ prefix named. refl;
  entries = λ prefix from. refl;
  selected = λ prefix. refl;
}

-- ---- a route that is reported as selected

abbrev Reported : PrefixValue → State → Selected → Type 0
Reported prefix s c = (route : Selection) × (selected_at prefix s ≡ Some route) × (reported_selected prefix s route ≡ c)

advertised : (prefix : PrefixValue) (s : State) (c : Selected) → option_map (reported_selected prefix s) (selected_at prefix s) ≡ Some c → Reported prefix s c
advertised prefix s c is = by (selected_at prefix s) refl is
  where
    by : (m : Option Selection) → selected_at prefix s ≡ m → option_map (reported_selected prefix s) m ≡ Some c → Reported prefix s c
    by None at is = absurd (none-some c is)
    by (Some route) at is = (route, at, same_Some (reported_selected prefix s route) c is)

-- ---- what a candidate is

record IsGood (prefix : PrefixValue) (s : State) (route : Selection) : Type 0 where
  there : entry_at prefix route.peer s ≡ Some route.entry
  feasible : is_feasible (pair_at prefix route.entry.router s) route.entry.distance ≡ true
  finite : route_metric (cost_at s) (key_of prefix route.peer, route.entry) < 65535

good : (prefix : PrefixValue) (s : State) (route : Selection) → AreSelectable s → selected_at prefix s ≡ Some route → IsGood prefix s route
good prefix s route selectable at =
    let chosen = selectable prefix route at in
    let local = and_parts (not (announces prefix s)) (is_candidate s.sources (cost_at s) (key_of prefix route.peer, route.entry)) chosen.1 in
    let parts = and_parts (is_feasible_route s.sources (key_of prefix route.peer, route.entry)) (nat_lt (route_metric (cost_at s) (key_of prefix route.peer, route.entry)) 65535) local.1 in
    record { there = chosen.0; feasible = parts.0; finite = ltb-true (route_metric (cost_at s) (key_of prefix route.peer, route.entry)) 65535 parts.1 }

pub below_sum : (m cost : ℕ) → 1 ≤ cost → metric_sum m cost < 65535 → m < metric_sum m cost
below_sum m cost positive finite = omega arith

finite_part : (m cost : ℕ) → metric_sum m cost < 65535 → m < 65535
finite_part m cost finite = omega arith

heard : (e : Entry) → e.distance.metric < 65535 → heard_if_finite e ≡ Some (record { router = e.router; distance = e.distance; next_hop = e.next_hop })
heard e finite = rw (lt-ltb e.distance.metric 65535 finite) refl

-- ---- the three facts

reported_entry_is : (prefix : PrefixValue) (s : State) (route : Selection) → IsGood prefix s route →
    option_and_then heard_if_finite (entry_at prefix route.peer s) ≡ Some (heard_of (reported_selected prefix s route))
reported_entry_is prefix s route g =
    ap (option_and_then heard_if_finite) g.there
    ∙ heard route.entry (finite_part route.entry.distance.metric (cost_at s route.peer) g.finite)

pub selectable_selecting : (s : State) → AreCostsPositive s → AreSelectable s → IsSelecting (seen s)
unfolding seen selected_route
selectable_selecting s positive selectable = record {
  entry = λ prefix c is.
      let t = advertised prefix s c is in
      subst (λ (c : Selected). option_and_then heard_if_finite (entry_at prefix c.peer s) ≡ Some (heard_of c)) t.2
      (reported_entry_is prefix s t.0 (good prefix s t.0 selectable t.1));
  feasible = λ prefix c is.
      let t = advertised prefix s c is in
      subst (λ (c : Selected). is_feasible (pair_at prefix c.router s) c.distance ≡ true) t.2
      (good prefix s t.0 selectable t.1).feasible;
  above = λ prefix c is.
      let t = advertised prefix s c is in
      let g = good prefix s t.0 selectable t.1 in
      subst (λ (c : Selected). (c.distance.metric < c.metric) × (c.metric < 65535)) t.2
      (below_sum t.0.entry.distance.metric (cost_at s t.0.peer) (positive t.0.peer) g.finite, g.finite);
}

pub current_selecting : CurrentIsSelecting
current_selecting s sorted positive current = selectable_selecting s positive (current_selectable s sorted current)

pub well_selecting : (s : State) → IsWellFormed s → IsSelecting (seen s)
well_selecting s well = selectable_selecting s (costs_positive s well.tables) well.selections
