-- What leaves the selected routes as they are.
use Rattle.std.specs.Prelude.{◌≡◌, ℕ, Bool, true, false, not, IsTrue, IsFalse, List, [], Option, Some, None, slice_get, if◌then◌else◌}
use Rattle.std.specs.Option.{option_map, option_map_or}
use Rattle.std.proofs.lemmas.Option.{same_Some}
use Rattle.std.proofs.Common.{refl, sym, ◌∙◌, ap, subst, true≢false}
use Rattle.babel_value.specs.declared.keys.Peer.{Peer}
use Rattle.babel_value.specs.Metrics.{infinity}
use Rattle.babel_value.specs.Prefixes.{PrefixValue}
use Rattle.babel_link.specs.Neighbours.{Links, cost_of}
use Rattle.babel_route.specs.declared.routes.changes.Report.TheVariants.{Alike, Other}
use Rattle.babel_route.specs.declared.routes.changes.SelectionChange.{SelectionChange}
use Rattle.babel_route.specs.SelectionChanges.{are_alike, selection_change}
use Rattle.babel_route.proofs.ChangeLemmas.{like_itself}
use Rattle.babel_choice.specs.declared.entries.Selection.{Selection}
use Rattle.babel_choice.specs.Routes.{RouteEntries}
use Rattle.babel_route.specs.Selections.{selection_at}
use Rattle.babel_state.specs.State.{State, PrefixSet, prefixes_in, nominal_cost, cost_at, selected_at, with_entries}
use Rattle.babel_state.specs.declared.items.Item.{Item}
use Rattle.babel_state.specs.declared.selected.Selected.{Selected}
use Rattle.babel_state.specs.Calls.{reported_selected, selected_route}
use Rattle.babel_state.specs.Reselection.{queue, select, reselect_each}
use Rattle.babel_state.specs.Ticks.{forget_each, routes_ticked, requests_ticked, interfaces_ticked, sources_ticked}
use Rattle.babel_state.specs.KeptRoutes.{KeepsRoutes}
use Rattle.babel_speaker.proofs.RequestsKept.{queue_kept_routes}
use Rattle.babel_speaker.proofs.SelectionChanges.{alike_of}
use Rattle.babel_state.proofs.KeptRoutes.{parts_routes, routes_through, selected_routes, timers_routes}

-- If it is false that the flag isn't set, it is set.
pub so : (b : Bool) → IsFalse (not b) → IsTrue b
so true is = refl
so false is = absurd (true≢false is)

-- Nothing is reselected.
pub none_reselected : (now : ℕ) (s t : State) (set : PrefixSet) → t ≡ reselect_each now (prefixes_in set) s → set ≡ [] → t ≡ s
none_reselected now s t set is none = is ∙ ap (λ (ps : PrefixSet). reselect_each now (prefixes_in ps) s) none

-- No selected route is due, so that none is reselected.
pub expired_routes : (now : ℕ) (s t u : State) → t ≡ routes_ticked now s → u ≡ t → KeepsRoutes s u
unfolding routes_ticked
expired_routes now s t u expires same =
    subst (KeepsRoutes s) (sym (same ∙ expires)) (parts_routes s (routes_ticked now s) (λ prefix. refl) refl)

-- An update was stored, and its prefix selected again. The same is reported of the new selection; what follows changes no route.
pub stored_routes : (prefix : PrefixValue) (entries : RouteEntries) (s t u : State) (change : SelectionChange) → t ≡ select prefix (with_entries entries s) →
    change ≡ selection_change (selected_at prefix s) (selected_at prefix t) → change.report ≡ Alike → KeepsRoutes t u → KeepsRoutes s u
stored_routes prefix entries s t u change is changed alike kept =
    let old = selected_at prefix s in
    let new = selected_at prefix t in
    routes_through s t u (selected_routes prefix entries s t old new is refl refl (alike_of old new change changed alike)) kept

-- A prefix is announced, or no longer, and its route selected again. The same is reported of the new selection.
pub advertised_routes : (prefix : PrefixValue) (s t u : State) (xs : List Item) (change : SelectionChange) → t ≡ select prefix s →
    change ≡ selection_change (selected_at prefix s) (selected_at prefix t) → change.report ≡ Alike → u ≡ queue xs t → KeepsRoutes s u
advertised_routes prefix s t u xs change selects changed alike queues =
    stored_routes prefix s.routes.entries s t u change selects changed alike (queue_kept_routes xs t u queues)

-- The same is reported of both selections, so they are alike.
alike_reports : (p : PrefixValue) (s t : State) (old new : Option Selection) → option_map (reported_selected p t) new ≡ option_map (reported_selected p s) old → are_alike old new ≡ true
alike_reports p s t None None same = refl
alike_reports p s t None (Some b) same = cc
alike_reports p s t (Some a) None same = cc
alike_reports p s t (Some a) (Some b) same =
    let one : reported_selected p t b ≡ reported_selected p s a = same_Some _ _ same in
    like_itself a b (ap (λ (r : Selected). r.peer) one) (ap (λ (r : Selected). r.router) one) (ap (λ (r : Selected). r.next_hop) one) (ap (λ (r : Selected). r.distance) one)

-- The selected routes are reported as before, so the report of the prefix says so.
pub reported_alike : (p : PrefixValue) (s t u : State) (xs : List Item) (change : SelectionChange) →
    change ≡ selection_change (selected_at p s) (selected_at p t) → u ≡ queue xs t → KeepsRoutes s u → change.report ≡ Alike
unfolding selected_route
reported_alike p s t u xs change changed queues kept =
    ap (λ (c : SelectionChange). c.report) changed
    ∙ ap (λ b. if b then Alike else Other)
    (alike_reports p s u (selected_at p s) (selected_at p t) (ap (λ o. option_map (reported_selected p u) o) (sym (ap (selected_at p) queues)) ∙ kept p))

-- Neither the routes nor what their costs depend on changed before.
pub same_before : (s t u : State) → t.routes ≡ s.routes → t.interfaces ≡ s.interfaces → t.neighbours ≡ s.neighbours → KeepsRoutes t u → KeepsRoutes s u
same_before s t u routes interfaces neighbours kept =
    let costs : cost_at t ≡ cost_at s = λ i peer. cost_of peer (option_map_or (λ n. n.cost) (slice_get (interfaces i) peer.iface) infinity) (neighbours i) in
    routes_through s t u (parts_routes s t (λ prefix. ap (selection_at prefix) routes) costs) kept

-- A tick flushes no neighbour and changes no cost.
pub ticked_routes : (s t : State) (links : Links) (gone : List Peer) → t ≡ forget_each gone (record s { neighbours = links }) →
    ((peer : Peer) (nominal : ℕ) → cost_of peer nominal links ≡ cost_of peer nominal s.neighbours) → gone ≡ [] →
    KeepsRoutes s t
ticked_routes s t links gone is same none =
    let after : State = record s { neighbours = links } in
    let here : t ≡ after = is ∙ ap (λ peers. forget_each peers after) none in
    parts_routes s t (λ prefix. ap (selected_at prefix) here)
    (ap cost_at here ∙ (λ i peer. same peer (nominal_cost peer.iface s) i))

-- The other deadlines concern no route.
pub timed_routes : (now : ℕ) (s t u v : State) → t ≡ requests_ticked now s → u ≡ interfaces_ticked now t → v ≡ sources_ticked now u → KeepsRoutes s v
timed_routes now s t u v requests timers collected =
    timers_routes now s v (collected ∙ ap (sources_ticked now) (timers ∙ ap (interfaces_ticked now) requests))
