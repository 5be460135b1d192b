-- After a tick, a change of cost and a datagram every selected route is an entry and a candidate.
use Rattle.std.specs.Prelude.{◌≡◌, ℕ, zero, suc, ◌≤◌, Bool, true, false, ◌&&◌, ◌||◌, ◌==◌, not, nat_lt, nat_le, List, [], ◌∷◌, map, slice_get, slice_set, Option, Some, None, if◌then◌else◌}
use Rattle.std.specs.Option.{option_map, option_map_or, option_and_then}
use Rattle.std.specs.FinMap.{find, is_sorted}
use Rattle.std.proofs.Common.{refl, sym, ap, subst, ◌∙◌, arith}
use Rattle.std.proofs.lemmas.Bool.{and_parts, and_from, or_right, leb-true, ne_eqb}
use Rattle.std.proofs.lemmas.Option.{same_Some, none-some, slice_get-map}
use Rattle.babel_value.specs.declared.distances.Distance.{Distance}
use Rattle.babel_value.specs.declared.keys.Peer.{Peer}
use Rattle.babel_value.specs.declared.keys.Source.{Source}
use Rattle.babel_value.specs.Orders.{source_cmp, peer_cmp}
use Rattle.babel_value.proofs.OrderLaws.{source_total, source_exact}
use Rattle.babel_value.specs.Prefixes.{PrefixValue}
use Rattle.babel_link.specs.declared.links.Link.{Link}
use Rattle.babel_link.specs.Links.{is_up_history, link_rxcost, link_cost}
use Rattle.babel_link.specs.Neighbours.{Links, cost_of}
use Rattle.babel_choice.specs.declared.entries.Selection.{Selection}
use Rattle.babel_sources.specs.declared.sources.SourceEntry.{SourceEntry}
use Rattle.babel_sources.specs.Distances.{is_feasible}
use Rattle.babel_choice.specs.Routes.{Route, key_of}
use Rattle.babel_choice.specs.Choices.{is_candidate, is_feasible_route, route_metric}
use Rattle.babel_route.specs.Selections.{IsCurrent}
use Rattle.babel_sources.specs.Sources.{Sources, pair_of, collected, collected_entry}
use Rattle.babel_table.proofs.PlaceLemmas.{find_revised}
use Rattle.babel_state.specs.declared.interfaces.InterfaceEntry.{InterfaceEntry}
use Rattle.babel_state.specs.State.{State, announces, interface_at, nominal_cost, cost_at, entry_at, selected_at, with_interface}
use Rattle.babel_state.specs.Reselection.{reselect_all}
use Rattle.babel_state.specs.Ticks.{links_ticked, routes_ticked, requests_ticked, fired, interfaces_ticked, sources_ticked, routes_selected, ticked}
use Rattle.babel_state.specs.Calls.{cost_set, set_cost_fault, set_cost_fault_on}
use Rattle.babel_state.specs.SeenLaws.{AreCostsPositive}
use Rattle.babel_state.specs.Invariants.{AreTables, AreSelectable}
use Rattle.babel_state.proofs.Tables.{each_find}
use Rattle.babel_state.proofs.TickTables.{links_tables, expiry_tables, request_tick_tables, timer_tables, cost_free, usable_at}
use Rattle.babel_state.proofs.TableLaws.{all_tables}
use Rattle.babel_state.proofs.Selecting.{all_selectable}
use Rattle.babel_state.proofs.SelectableSteps.{IsGoodStep}
use Rattle.babel_state.proofs.CurrentLaws.{cost_fired}

-- ---- costs

pub costs_positive : (s : State) → AreTables s → AreCostsPositive s
unfolding cost_of link_cost
costs_positive s t peer = by (find peer_cmp peer s.neighbours) refl
  where
    at_least : (b : Bool) (link : Link) → 1 ≤ link.txcost → 1 ≤ (if b then 65535 else link.txcost)
    at_least true link p = omega arith
    at_least false link p = p

    by : (m : Option Link) → find peer_cmp peer s.neighbours ≡ m → 1 ≤ option_map_or (link_cost (nominal_cost peer.iface s)) m 65535
    by None at = omega arith
    by (Some link) at =
        at_least (link_rxcost (nominal_cost peer.iface s) link == 65535) link (each_find peer_cmp (λ (link : Link). 1 ≤ link.txcost) peer link s.neighbours t.neighbours.costs at)

-- what a change of the interfaces leaves, if it leaves the costs
abbrev SelectableBy : State → (Peer → ℕ) → Type 0
SelectableBy s cost =
    (prefix : PrefixValue) (route : Selection) → selected_at prefix s ≡ Some route →
    (entry_at prefix route.peer s ≡ Some route.entry) × ((not (announces prefix s) && is_candidate s.sources cost (key_of prefix route.peer, route.entry)) ≡ true)

pub interfaces_good : (s : State) (interfaces : List InterfaceEntry) → ((peer : Peer) → cost_at s peer ≡ cost_at (record s { interfaces = interfaces }) peer) → IsGoodStep s (record s { interfaces = interfaces })
interfaces_good s interfaces same =
    let costs : cost_at s ≡ cost_at (record s { interfaces = interfaces }) = λ i peer. same peer i in
    record {
      selectable = λ good. subst (SelectableBy s) costs good;
      current = λ prefix current. subst (λ cost. IsCurrent s.sources cost prefix (announces prefix s) s.routes) costs current;
    }

abbrev nominal : Option InterfaceEntry → ℕ
nominal o = option_map_or (λ i. i.cost) o 65535

set_costs : (peer : Peer) (links : Links) (is : List InterfaceEntry) (k : ℕ) (v old : InterfaceEntry) (j : ℕ) → slice_get is k ≡ Some old →
    cost_of peer old.cost links ≡ cost_of peer v.cost links → cost_of peer (nominal (slice_get is j)) links ≡ cost_of peer (nominal (slice_get (slice_set is k v) j)) links
set_costs peer links [] k v old j at same = absurd (none-some old at)
set_costs peer links (x ∷ is) zero v old zero at same = ap (λ (i : InterfaceEntry). cost_of peer i.cost links) (same_Some x old at) ∙ same
set_costs peer links (x ∷ is) zero v old (suc j) at same = refl
set_costs peer links (x ∷ is) (suc k) v old zero at same = refl
set_costs peer links (x ∷ is) (suc k) v old (suc j) at same = set_costs peer links is k v old j at same

pub interface_good : (iface : ℕ) (change : InterfaceEntry → InterfaceEntry) (s : State) →
    ((peer : Peer) (i : InterfaceEntry) → interface_at iface s ≡ Some i → cost_of peer i.cost s.neighbours ≡ cost_of peer (change i).cost s.neighbours) →
    IsGoodStep s (with_interface iface change s)
interface_good iface change s same = by (interface_at iface s) refl
  where
    by : (m : Option InterfaceEntry) → interface_at iface s ≡ m → IsGoodStep s (option_map_or (λ i. record s { interfaces = slice_set s.interfaces iface (change i) }) m s)
    by None at = record { selectable = λ good. good; current = λ prefix current. current }
    by (Some i) at =
        interfaces_good s (slice_set s.interfaces iface (change i))
        (λ peer. set_costs peer s.neighbours s.interfaces iface (change i) i peer.iface at (same peer i at))

-- a link's cost is the same by each finite nominal cost
finite_nominal : (peer : Peer) (a b : ℕ) (links : Links) → a ≤ 65534 → b ≤ 65534 → cost_of peer a links ≡ cost_of peer b links
unfolding cost_of link_cost link_rxcost
finite_nominal peer a b links low high = by (find peer_cmp peer links)
  where
    up : (heard : Bool) (link : Link) →
        (if (if heard then a else 65535) == 65535 then 65535 else link.txcost) ≡ (if (if heard then b else 65535) == 65535 then 65535 else link.txcost)
    up true link =
        ap (λ c. if c then 65535 else link.txcost) (ne_eqb a 65535 (λ e. omega (arith, e, low)))
        ∙ ap (λ c. if c then 65535 else link.txcost) (sym (ne_eqb b 65535 (λ e. omega (arith, e, high))))
    up false link = refl

    by : (m : Option Link) → option_map_or (link_cost a) m 65535 ≡ option_map_or (link_cost b) m 65535
    by None = refl
    by (Some link) = up (is_up_history link.multicast || is_up_history link.unicast) link

same_nominal : (iface cost : ℕ) (s : State) → set_cost_fault iface cost s ≡ None → AreTables s →
    (peer : Peer) (i : InterfaceEntry) → interface_at iface s ≡ Some i → cost_of peer i.cost s.neighbours ≡ cost_of peer cost s.neighbours
same_nominal iface cost s free t peer i at =
    let within = cost_free cost i (sym (ap (set_cost_fault_on cost) at) ∙ free) in
    finite_nominal peer i.cost cost s.neighbours (usable_at iface s i at t).cost.1 (leb-true cost 65534 (and_parts (nat_le 1 cost) (nat_le cost 65534) within).1)

pub cost_good : (iface cost : ℕ) (s : State) → set_cost_fault iface cost s ≡ None → AreTables s → IsGoodStep s (cost_set iface cost s)
unfolding cost_set
cost_good iface cost s free t = interface_good iface (λ i. record i { cost = cost }) s (same_nominal iface cost s free t)

-- so no link costs more or less
pub same_costs : (iface cost : ℕ) (s : State) → set_cost_fault iface cost s ≡ None → AreTables s → cost_at (cost_set iface cost s) ≡ cost_at s
unfolding cost_set
same_costs iface cost s free t = by (interface_at iface s) refl
  where
    by : (m : Option InterfaceEntry) → interface_at iface s ≡ m → cost_at (option_map_or (λ i. record s { interfaces = slice_set s.interfaces iface (record i { cost = cost }) }) m s) ≡ cost_at s
    by None at = refl
    by (Some i) at =
        λ j peer. sym (set_costs peer s.neighbours s.interfaces iface (record i { cost = cost }) i peer.iface at (same_nominal iface cost s free t peer i at)) j

-- and no selection is another
pub same_selections : (iface cost : ℕ) (s : State) (prefix : PrefixValue) → selected_at prefix (cost_set iface cost s) ≡ selected_at prefix s
unfolding cost_set
same_selections iface cost s prefix = by (interface_at iface s)
  where
    by : (m : Option InterfaceEntry) → selected_at prefix (option_map_or (λ i. record s { interfaces = slice_set s.interfaces iface (record i { cost = cost }) }) m s) ≡ selected_at prefix s
    by None = refl
    by (Some i) = refl

-- ---- a tick

pub timers_good : (now : ℕ) (s : State) → IsGoodStep s (interfaces_ticked now s)
unfolding interfaces_ticked
timers_good now s =
    let same : (iface : ℕ) → nominal (interface_at iface s) ≡ nominal (slice_get (map (fired now) s.interfaces) iface) =
    λ iface. sym (cost_fired now (interface_at iface s)) ∙ ap nominal (sym (slice_get-map (fired now) s.interfaces iface))
    in
    let g = interfaces_good s (map (fired now) s.interfaces) (λ peer. ap (λ n. cost_of peer n s.neighbours) (same peer.iface)) in
    record { selectable = λ good. g.selectable good; current = λ prefix current. g.current prefix current }

collected_feasible : (now : ℕ) (source : Source) (distance : Distance) (sources : Sources) → is_sorted source_cmp sources ≡ true →
    is_feasible (pair_of source sources) distance ≡ true → is_feasible (pair_of source (collected now sources)) distance ≡ true
collected_feasible now source distance sources sorted feasible =
    ap (λ m. is_feasible (option_map (λ e. e.distance) m) distance) (find_revised source_cmp source_total source_exact (collected_entry now) source sources sorted)
    ∙ by (find source_cmp source sources) refl
  where
    none_feasible : is_feasible None distance ≡ true
    none_feasible = or_right (not (nat_lt distance.metric 65535)) true refl

    kept : (e : SourceEntry) (b : Bool) → is_feasible (Some e.distance) distance ≡ true → is_feasible (option_map (λ e. e.distance) (if b then None else Some e)) distance ≡ true
    kept e true old = none_feasible
    kept e false old = old

    by : (m : Option SourceEntry) → find source_cmp source sources ≡ m → is_feasible (option_map (λ e. e.distance) (option_and_then (collected_entry now source) m)) distance ≡ true
    by None at = none_feasible
    by (Some e) at = kept e (nat_le e.due now) (sym (ap (λ m. is_feasible (option_map (λ e. e.distance) m) distance) at) ∙ feasible)

sources_selectable : (now : ℕ) (s : State) → is_sorted source_cmp s.sources ≡ true → AreSelectable s → AreSelectable (sources_ticked now s)
unfolding sources_ticked
sources_selectable now s sorted good = by s.collects
  where
    fewer : AreSelectable (record s { sources = collected now s.sources })
    fewer prefix route at =
        let old = good prefix route at in
        let route_of : Route = (key_of prefix route.peer, route.entry) in
        let local = and_parts (not (announces prefix s)) (is_candidate s.sources (cost_at s) route_of) old.1 in
        let parts = and_parts (is_feasible_route s.sources route_of) (nat_lt (route_metric (cost_at s) route_of) 65535) local.1 in
        let feasible : is_feasible_route (collected now s.sources) route_of ≡ true =
        collected_feasible now (record { prefix = prefix; router = route.entry.router }) route.entry.distance s.sources sorted parts.0
        in
        (old.0, and_from (not (announces prefix s)) _ local.0 (and_from _ _ feasible parts.1))

    by : (b : Bool) → AreSelectable (if b then record s { sources = collected now s.sources } else s)
    by true = fewer
    by false = good

requests_selectable : (now : ℕ) (s : State) → AreSelectable s → AreSelectable (requests_ticked now s)
unfolding requests_ticked
requests_selectable now s good = good

pub tick_selectable : (now : ℕ) (s : State) → AreTables s → AreSelectable (ticked now s)
unfolding ticked
tick_selectable now s t =
    let linked : AreTables (links_ticked now s) = links_tables now s t in
    let once : AreTables (reselect_all now (links_ticked now s)) = all_tables now (links_ticked now s) linked in
    let expired : AreTables (routes_ticked now (reselect_all now (links_ticked now s))) = expiry_tables now (reselect_all now (links_ticked now s)) once in
    let chosen : AreTables (routes_selected now s) = all_tables now (routes_ticked now (reselect_all now (links_ticked now s))) expired in
    let requested : AreTables (requests_ticked now (routes_selected now s)) = request_tick_tables now (routes_selected now s) chosen in
    let timed : AreTables (interfaces_ticked now (requests_ticked now (routes_selected now s))) = timer_tables now (requests_ticked now (routes_selected now s)) requested in
    let good : AreSelectable (routes_selected now s) =
    all_selectable now (routes_ticked now (reselect_all now (links_ticked now s))) expired.routes.entries_in_order chosen.routes.entries_in_order
    in
    sources_selectable now (interfaces_ticked now (requests_ticked now (routes_selected now s))) timed.sources.in_order
    ((timers_good now (requests_ticked now (routes_selected now s))).selectable (requests_selectable now (routes_selected now s) good))
