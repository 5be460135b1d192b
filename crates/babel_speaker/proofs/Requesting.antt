-- Requests for a greater seqno: what is found of a wanted route, and what stays.
use Rattle.std.proofs.Common.{◌≡◌, ◌&&◌, ◌||◌, ◌+◌, ◌≤◌, not, ℕ, zero, suc, Bool, true, false, [], ◌∷◌, cond, nat_lt, drop, length, Option, Some, None, option_map, slice_get, if◌then◌else◌, refl, sym, ap, ◌∙◌, subst, arith}
use Rattle.std.specs.List.{list_any}
use Rattle.std.specs.Cmp.{tied_itself}
use Rattle.std.specs.Ordering.{is_eq}
use Rattle.std.proofs.Math.Bool.{or-true}
use Rattle.std.proofs.lemmas.Bool.{and_parts}
use Rattle.std.proofs.lemmas.List.{drop_all}
use Rattle.std.proofs.lemmas.Option.{none-some, same_Some}
use Rattle.babel_value.specs.declared.keys.Peer.{Peer}
use Rattle.babel_value.specs.Prefixes.{PrefixValue}
use Rattle.babel_value.proofs.OrderLaws.{prefix_total}
use Rattle.babel_table.proofs.PlaceLemmas.{past_end}
use Rattle.babel_choice.specs.declared.entries.Entry.{Entry}
use Rattle.babel_choice.specs.Choices.{is_of, route_metric, routes_of, source_of}
use Rattle.babel_choice.specs.Routes.{Route, RouteEntries, key_of}
use Rattle.babel_choice.proofs.RunLemmas.{drop_at}
use Rattle.babel_sources.specs.Sources.{Sources}
use Rattle.babel_state.specs.KeptRoutes.{KeepsRoutes}
use Rattle.babel_state.specs.PendingRequests.{has_no_room}
use Rattle.babel_state.specs.Requesting.{selected_metric, is_wanted, request_for_route, request_for_wanted, request_for_each, seqnos_requested}
use Rattle.babel_state.specs.Reselection.{is_unfeasible}
use Rattle.babel_state.specs.Restarts.{snapshot_of}
use Rattle.babel_state.specs.State.{State, announces, cost_at}
use Rattle.babel_state.specs.StepLaws.{kept_of}
use Rattle.babel_state.proofs.KeptRoutes.{kept_routes}
use Rattle.babel_state.proofs.Requesting.{wanted_kept, requests_kept_rest}

-- ---- what stays

pub requested_routes : (now : ℕ) (s t : State) → t ≡ seqnos_requested now s → KeepsRoutes s t
requested_routes now s t is = kept_routes s t (ap kept_of is ∙ requests_kept_rest now s)

kept_snapshot : (s t : State) → kept_of t ≡ kept_of s → snapshot_of t ≡ snapshot_of s
unfolding kept_of snapshot_of
kept_snapshot s t same = ap snapshot_of same

pub requested_snapshot : (now : ℕ) (s t : State) → t ≡ seqnos_requested now s → snapshot_of t ≡ snapshot_of s
requested_snapshot now s t is = kept_snapshot s t (ap kept_of is ∙ requests_kept_rest now s)

kept_entries : (s t : State) → kept_of t ≡ kept_of s → t.routes.entries ≡ s.routes.entries
unfolding kept_of
kept_entries s t same = ap (λ (v : State). v.routes.entries) same

pub requested_entries : (now : ℕ) (route : Route) (s t : State) → t ≡ request_for_wanted now route s → t.routes.entries ≡ s.routes.entries
requested_entries now route s t is = kept_entries s t (ap kept_of is ∙ wanted_kept now route s)

-- ---- a wanted route

wanted_unfeasible : (s : State) (route : Route) → is_wanted s route ≡ true → is_unfeasible s.sources route ≡ true
wanted_unfeasible s route is =
    let unfeasible : Bool = is_unfeasible s.sources route in
    let foreign : Bool = not (announces route.0.prefix s) in
    (and_parts unfeasible foreign (and_parts (unfeasible && foreign) (nat_lt (route_metric (cost_at s) route) (selected_metric route.0.prefix s)) is).0).0

-- An unfeasible route of the table is among those of its prefix.
any_unfeasible : (sources : Sources) (route : Route) (es : RouteEntries) (k : ℕ) → slice_get es k ≡ Some route → is_unfeasible sources route ≡ true →
    list_any (is_unfeasible sources) (routes_of route.0.prefix es) ≡ true
any_unfeasible sources route [] k at bad = absurd (none-some route at)
any_unfeasible sources route (e ∷ es) zero at bad =
    subst (λ x. list_any (is_unfeasible sources) (routes_of route.0.prefix (x ∷ es)) ≡ true) (sym (same_Some e route at))
    (by (is_of route.0.prefix route) (ap is_eq (tied_itself prefix_total route.0.prefix)))
  where
    by : (b : Bool) → b ≡ true → list_any (is_unfeasible sources) (cond b (route ∷ routes_of route.0.prefix es) (routes_of route.0.prefix es)) ≡ true
    by true here = ap (λ x. x || list_any (is_unfeasible sources) (routes_of route.0.prefix es)) bad
    by false here = cc
any_unfeasible sources route (e ∷ es) (suc k) at bad = by (is_of route.0.prefix e) (any_unfeasible sources route es k at bad)
  where
    by : (b : Bool) → list_any (is_unfeasible sources) (routes_of route.0.prefix es) ≡ true →
        list_any (is_unfeasible sources) (cond b (e ∷ routes_of route.0.prefix es) (routes_of route.0.prefix es)) ≡ true
    by true rest = ap (λ x. is_unfeasible sources e || x) rest ∙ or-true (is_unfeasible sources e)
    by false rest = rest

pub any_wanted : (s : State) (route : Route) (k : ℕ) → slice_get s.routes.entries k ≡ Some route → is_wanted s route ≡ true →
    list_any (is_unfeasible s.sources) (routes_of route.0.prefix s.routes.entries) ≡ true
any_wanted s route k at is = any_unfeasible s.sources route s.routes.entries k at (wanted_unfeasible s route is)

-- What is requested of it.
pub wanted_requested : (now : ℕ) (route : Route) (s t : State) → is_wanted s route ≡ true → has_no_room (source_of route) s.requests ≡ false →
    t ≡ request_for_route now route s → t ≡ request_for_wanted now route s
wanted_requested now route s t wanted room requested =
    requested
    ∙ sym (
    ap (λ b. if b && not (has_no_room (source_of route) s.requests) then request_for_route now route s else s) wanted
    ∙ ap (λ b. if not b then request_for_route now route s else s) room
    )

-- Of others nothing is requested.
pub unwanted : (now : ℕ) (route : Route) (s : State) → is_wanted s route ≡ false → request_for_wanted now route s ≡ s
unwanted now route s is = ap (λ b. if b && not (has_no_room (source_of route) s.requests) then request_for_route now route s else s) is

-- ---- route after route

-- A route is its prefix, its neighbour and its entry.
abbrev Parts : Type 0
Parts = PrefixValue × Peer × Entry

abbrev parts_of : Route → Parts
parts_of route = (route.0.prefix, route.0.peer, route.1)

abbrev pub parts_at : ℕ → RouteEntries → Option Parts
parts_at place es = option_map parts_of (slice_get es place)

pub route_at : (m : Option Route) (found : Parts) → option_map parts_of m ≡ Some found → m ≡ Some (key_of found.0 found.1, found.2)
route_at None found is = absurd (none-some found is)
route_at (Some route) found is = ap (λ (t : Parts). Some (key_of t.0 t.1, t.2)) (same_Some (parts_of route) found is)

pub no_route_at : (m : Option Route) → option_map parts_of m ≡ None → m ≡ None
no_route_at None is = refl
no_route_at (Some route) is = absurd (none-some (parts_of route) (sym is))

pub one_requested : (now : ℕ) (es : RouteEntries) (place : ℕ) (route : Route) (s t all : State) → slice_get es place ≡ Some route → t ≡ request_for_wanted now route s →
    request_for_each now (drop place es) s ≡ all → request_for_each now (drop (place + 1) es) t ≡ all
one_requested now es place route s t all at is done =
    ap (request_for_each now (drop (place + 1) es)) is ∙ sym (ap (λ rs. request_for_each now rs s) (drop_at es place route at)) ∙ done

pub none_requested_at : (now : ℕ) (es : RouteEntries) (place : ℕ) (s t all : State) → slice_get es place ≡ None → t ≡ s →
    request_for_each now (drop place es) s ≡ all → request_for_each now (drop (place + 1) es) t ≡ all
none_requested_at now es place s t all none is done =
    let past : length es ≤ place = past_end es place none in
    let later : length es ≤ place + 1 = omega (arith, past) in
    ap (λ rs. request_for_each now rs t) (drop_all (place + 1) es later) ∙ is ∙ sym (ap (λ rs. request_for_each now rs s) (drop_all place es past)) ∙ done

pub all_requested : (now : ℕ) (place : ℕ) (s t : State) → length s.routes.entries ≤ place →
    request_for_each now (drop place s.routes.entries) t ≡ request_for_each now s.routes.entries s → t ≡ seqnos_requested now s
unfolding seqnos_requested
all_requested now place s t past done = sym (ap (λ rs. request_for_each now rs t) (drop_all place s.routes.entries past)) ∙ done

-- ---- where nothing is wanted

none_requested : (now : ℕ) (routes : RouteEntries) (s : State) → list_any (is_wanted s) routes ≡ false → request_for_each now routes s ≡ s
none_requested now [] s none = refl
none_requested now (r ∷ rs) s none = by (is_wanted s r) refl none (none_requested now rs s)
  where
    by : (b : Bool) → is_wanted s r ≡ b → (b || list_any (is_wanted s) rs) ≡ false → (list_any (is_wanted s) rs ≡ false → request_for_each now rs s ≡ s) →
        request_for_each now rs (request_for_wanted now r s) ≡ s
    by true is none rest = cc
    by false is none rest = ap (request_for_each now rs) (unwanted now r s is) ∙ rest none

pub nothing_requested : (now : ℕ) (s : State) → list_any (is_wanted s) s.routes.entries ≡ false → seqnos_requested now s ≡ s
unfolding seqnos_requested
nothing_requested now s none = none_requested now s.routes.entries s none
