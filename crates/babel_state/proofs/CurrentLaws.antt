-- After all prefixes were reselected, the selection is current at each of them.
use Rattle.std.specs.Prelude.{◌≡◌, ℕ, Bool, true, false, cond, ◌||◌, List, [], ◌∷◌, map, slice_get, Option, Some, None, is_some}
use Rattle.std.specs.Option.{option_map, option_map_or}
use Rattle.std.specs.Ordering.{eq_by_cmp}
use Rattle.std.specs.FinMap.{find, put}
use Rattle.std.specs.FinMap.Entries.{find-put, is_some-find}
use Rattle.std.proofs.Common.{refl, sym, ◌∙◌, ap, subst}
use Rattle.std.proofs.lemmas.Option.{slice_get-map}
use Rattle.babel_value.specs.declared.keys.Peer.{Peer}
use Rattle.babel_value.specs.Orders.{prefix_cmp}
use Rattle.babel_value.proofs.OrderLaws.{prefix_total}
use Rattle.babel_value.specs.Prefixes.{PrefixValue}
use Rattle.babel_link.specs.Neighbours.{cost_of, gone_of, tick_of}
use Rattle.babel_table.proofs.RevisionLemmas.{sorted_revised}
use Rattle.babel_choice.specs.RouteKeys.{route_cmp}
use Rattle.babel_choice.specs.Routes.{kept_without, expired_entry}
use Rattle.babel_route.specs.RouteLaws.{each_reselected}
use Rattle.babel_route.specs.Selections.{RoutesValue, IsCurrent, prefixes_of}
use Rattle.babel_route.proofs.CurrentLemmas.{all_current}
use Rattle.babel_state.specs.declared.interfaces.InterfaceEntry.{InterfaceEntry}
use Rattle.babel_state.specs.Sameness.{has_prefix}
use Rattle.babel_state.specs.State.{State, PrefixSet, announces, interface_at, nominal_cost, cost_at, gathered, ascending, routed_prefixes}
use Rattle.babel_state.specs.Reselection.{reselect, reselect_each, reselect_all}
use Rattle.babel_state.specs.Ticks.{forget_each, links_ticked, routes_ticked, requests_ticked, fired, interfaces_ticked, routes_selected, ticked}
use Rattle.babel_state.specs.Hellos.{forget_neighbour}
use Rattle.babel_state.specs.Calls.{first_state}
use Rattle.babel_state.specs.CurrentSelections.{IsCurrentAt, AreRoutesInOrder, NewSpeakersAreCurrent, ReselectionsMakeCurrent, TicksMakeCurrent}
use Rattle.babel_state.specs.StepLaws.{kept_of, base_of}
use Rattle.babel_state.proofs.Reselecting.{reselects_kept, all_base}
use Rattle.babel_state.proofs.Keeping.{collects_before_sources, sources_ticked_is}

-- ---- the prefixes of a list, in order, are its prefixes

pub has_put : (p q : PrefixValue) (es : PrefixSet) →
    has_prefix p (map (λ e. e.0) (put prefix_cmp q tt es)) ≡ (eq_by_cmp prefix_cmp p q || has_prefix p (map (λ e. e.0) es))
has_put p q es =
    sym (is_some-find prefix_cmp p (put prefix_cmp q tt es))
    ∙ ap is_some (find-put prefix_cmp prefix_total p q tt es)
    ∙ by (eq_by_cmp prefix_cmp p q)
    ∙ ap (λ b. eq_by_cmp prefix_cmp p q || b) (is_some-find prefix_cmp p es)
  where
    by : (b : Bool) → is_some (cond b (Some tt) (find prefix_cmp p es)) ≡ (b || is_some (find prefix_cmp p es))
    by true = refl
    by false = refl

or_swap : (a b c : Bool) → (b || (a || c)) ≡ ((a || b) || c)
or_swap true true c = refl
or_swap true false c = refl
or_swap false true c = refl
or_swap false false c = refl

has_gathered : (p : PrefixValue) (ps : List PrefixValue) (es : PrefixSet) →
    has_prefix p (map (λ e. e.0) (gathered ps es)) ≡ (has_prefix p ps || has_prefix p (map (λ e. e.0) es))
has_gathered p [] es = refl
has_gathered p (q ∷ ps) es =
    has_gathered p ps (put prefix_cmp q tt es)
    ∙ ap (λ b. has_prefix p ps || b) (has_put p q es)
    ∙ or_swap (eq_by_cmp prefix_cmp p q) (has_prefix p ps) (has_prefix p (map (λ e. e.0) es))

or_false : (b : Bool) → (b || false) ≡ b
or_false true = refl
or_false false = refl

pub has_ascending : (p : PrefixValue) (ps : List PrefixValue) → has_prefix p (ascending ps) ≡ has_prefix p ps
has_ascending p ps = has_gathered p ps [] ∙ or_false (has_prefix p ps)

routed_has : (p : PrefixValue) (s : State) → has_prefix p (routed_prefixes s) ≡ has_prefix p (prefixes_of s.routes)
unfolding routed_prefixes
routed_has p s = has_ascending p (prefixes_of s.routes)

-- ---- the routes after reselections

abbrev routes_after : List PrefixValue → State → RoutesValue
routes_after ps k = each_reselected k.sources (cost_at k) (λ q. announces q k) ps k.routes

each_routes : (now : ℕ) (ps : List PrefixValue) (s : State) → (reselect_each now ps s).routes ≡ routes_after ps s
unfolding kept_of
each_routes now [] s = refl
each_routes now (p ∷ ps) s = each_routes now ps (reselect now None p s) ∙ ap (routes_after ps) (reselects_kept now None p s)

all_routes : (now : ℕ) (s : State) → (reselect_all now s).routes ≡ routes_after (routed_prefixes s) s
unfolding reselect_all
all_routes now s = each_routes now (routed_prefixes s) s

abbrev StandIn : PrefixValue → State → RoutesValue → Type 0
StandIn p k routes = IsCurrent k.sources (cost_at k) p (announces p k) routes

in_base : (p : PrefixValue) (s t : State) → base_of t ≡ base_of s → StandIn p s t.routes → IsCurrentAt p t
unfolding base_of
in_base p s t same current = subst (λ k. StandIn p k t.routes) (sym same) current

pub reselections_current : ReselectionsMakeCurrent
reselections_current now s sorted p =
    in_base p s (reselect_all now s) (all_base now s)
    (subst (StandIn p s) (sym (all_routes now s))
    (all_current s.sources (cost_at s) (λ q. announces q s) (routed_prefixes s) s.routes p sorted (λ there. routed_has p s ∙ there)))

-- ---- the order of the routes

forgets_sorted : (peers : List Peer) (s : State) → AreRoutesInOrder s → AreRoutesInOrder (forget_each peers s)
forgets_sorted [] s sorted = sorted
forgets_sorted (peer ∷ peers) s sorted =
    forgets_sorted peers (forget_neighbour peer s) (sorted_revised route_cmp (kept_without peer) s.routes.entries sorted)

links_sorted : (now : ℕ) (s : State) → AreRoutesInOrder s → AreRoutesInOrder (links_ticked now s)
unfolding links_ticked
links_sorted now s sorted = forgets_sorted (gone_of now s.neighbours) (record s { neighbours = tick_of now s.neighbours }) sorted

pub all_sorted : (now : ℕ) (s : State) → AreRoutesInOrder s → AreRoutesInOrder (reselect_all now s)
unfolding base_of
all_sorted now s sorted = subst AreRoutesInOrder (sym (all_base now s)) sorted

routes_sorted : (now : ℕ) (s : State) → AreRoutesInOrder s → AreRoutesInOrder (routes_ticked now s)
unfolding routes_ticked
routes_sorted now s sorted = sorted_revised route_cmp (expired_entry now) s.routes.entries sorted

-- ---- a tick

pub cost_fired : (now : ℕ) (o : Option InterfaceEntry) → option_map_or (λ i. i.cost) (option_map (fired now) o) 65535 ≡ option_map_or (λ i. i.cost) o 65535
cost_fired now None = refl
cost_fired now (Some i) = refl

pub timers_current : (p : PrefixValue) (now : ℕ) (s : State) → IsCurrentAt p s → IsCurrentAt p (interfaces_ticked now s)
unfolding interfaces_ticked
timers_current p now s current =
    let nominal : (iface : ℕ) → nominal_cost iface s ≡ option_map_or (λ i. i.cost) (slice_get (map (fired now) s.interfaces) iface) 65535 =
    λ iface. sym (cost_fired now (interface_at iface s)) ∙ ap (λ o. option_map_or (λ i. i.cost) o 65535) (sym (slice_get-map (fired now) s.interfaces iface))
    in
    let costs : cost_at s ≡ cost_at (interfaces_ticked now s) = λ i peer. cost_of peer (nominal peer.iface i) s.neighbours in
    subst (λ cost. IsCurrent s.sources cost p (announces p s) s.routes) costs current

pub requests_current : (p : PrefixValue) (now : ℕ) (s : State) → IsCurrentAt p s → IsCurrentAt p (requests_ticked now s)
unfolding requests_ticked
requests_current p now s current = current

pub ticks_current : TicksMakeCurrent
unfolding ticked
ticks_current now s off sorted p =
    let before : State = reselect_all now (links_ticked now s) in
    let order : AreRoutesInOrder (routes_ticked now before) = routes_sorted now before (all_sorted now (links_ticked now s) (links_sorted now s sorted)) in
    let selected : IsCurrentAt p (routes_selected now s) = reselections_current now (routes_ticked now before) order p in
    let timed : IsCurrentAt p (interfaces_ticked now (requests_ticked now (routes_selected now s))) =
    timers_current p now (requests_ticked now (routes_selected now s)) (requests_current p now (routes_selected now s) selected)
    in
    subst (IsCurrentAt p) (sym (sources_ticked_is now (interfaces_ticked now (requests_ticked now (routes_selected now s))) (collects_before_sources now s ∙ off))) timed

-- ---- a new speaker

pub new_current : NewSpeakersAreCurrent
unfolding first_state
new_current c p = by (announces p (first_state c))
  where
    by : (local : Bool) → IsCurrent [] (cost_at (first_state c)) p local (record { entries = []; selections = [] })
    by true = refl
    by false = refl
