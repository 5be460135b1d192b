-- Sending keeps a selection current, unless an unfeasible route of its prefix became feasible.
use Rattle.std.specs.Prelude.{◌≡◌, ℕ, zero, suc, Bool, true, false, cond, ◌&&◌, not, nat_lt, List, [], ◌∷◌, slice_get, Option, Some, None}
use Rattle.std.specs.List.{filter, list_any}
use Rattle.std.specs.Option.{option_map}
use Rattle.std.specs.declared.cmp.Ordering.{Ordering}
use Rattle.std.specs.Ordering.{is_lt}
use Rattle.std.specs.Cmp.{IsTotalOrder}
use Rattle.std.specs.FinMap.{find}
use Rattle.std.proofs.Common.{refl, sym, ap, subst, ◌∙◌}
use Rattle.std.proofs.lemmas.Bool.{and_parts, and_from, or_parts, false≢true}
use Rattle.std.proofs.lemmas.Option.{same_Some, none-some}
use Rattle.babel_value.specs.declared.keys.Peer.{Peer}
use Rattle.babel_value.specs.Orders.{prefix_cmp}
use Rattle.babel_value.specs.Prefixes.{PrefixValue}
use Rattle.babel_value.proofs.OrderLaws.{prefix_exact}
use Rattle.babel_value.proofs.Orderings.{equal}
use Rattle.babel_table.specs.Firsts.{first_of, IsFirst}
use Rattle.babel_table.proofs.FirstLemmas.{is_first, none_first}
use Rattle.babel_table.proofs.PlaceLemmas.{find_hit}
use Rattle.babel_choice.specs.declared.entries.Entry.{Entry}
use Rattle.babel_choice.specs.declared.entries.Selection.{Selection}
use Rattle.babel_choice.specs.RouteKeys.{route_cmp, route_total}
use Rattle.babel_choice.specs.Routes.{Route, RouteEntries, key_of}
use Rattle.babel_choice.specs.Choices.{is_of, routes_of, is_candidate, is_feasible_route, route_metric, preference, selection_of, choice}
use Rattle.babel_route.specs.Selections.{IsCurrent}
use Rattle.babel_sources.specs.Sources.{Sources}
use Rattle.babel_route.proofs.CurrentLemmas.{preference_total, same_peer}
use Rattle.babel_state.specs.State.{State, announces, cost_at, selected_at}
use Rattle.babel_state.specs.CurrentSelections.{IsCurrentAt, AreRoutesInOrder, becomes_feasible, has_revived_route}
use Rattle.babel_state.specs.Invariants.{AreSelectable}
use Rattle.babel_state.specs.StepLaws.{KnownValue, known_of}
use Rattle.babel_state.proofs.DatagramsSent.{costs_kept, announces_kept, selection_kept}

-- ---- lists

abbrev IsAt : {X : Type 0} → List X → X → Type 0
IsAt xs x = (j : ℕ) × (slice_get xs j ≡ Some x)

later : {X : Type 0} (y x : X) (ys : List X) → IsAt ys x → IsAt (y ∷ ys) x
later y x ys found = (suc found.0, found.1)

-- what passes is left by a filter
filtered : {X : Type 0} (p : X → Bool) (xs : List X) (i : ℕ) (x : X) → slice_get xs i ≡ Some x → p x ≡ true → IsAt (filter p xs) x
filtered p [] i x at passes = absurd (none-some x at)
filtered {X} p (y ∷ ys) i x at passes = by (p y) refl i at (λ i at. filtered p ys i x at passes)
  where
    by : (b : Bool) → p y ≡ b → (i : ℕ) → slice_get (y ∷ ys) i ≡ Some x → ((i : ℕ) → slice_get ys i ≡ Some x → IsAt (filter p ys) x) → IsAt (cond b (y ∷ filter p ys) (filter p ys)) x
    by true here zero at rest = (zero, at)
    by true here (suc i) at rest = later y x (filter p ys) (rest i at)
    by false here zero at rest = absurd (false≢true (sym here ∙ ap p (same_Some y x at) ∙ passes))
    by false here (suc i) at rest = rest i at

-- what a filter leaves passes, and was there
passed : {X : Type 0} (p : X → Bool) (xs : List X) (i : ℕ) (x : X) → slice_get (filter p xs) i ≡ Some x → (p x ≡ true) × IsAt xs x
passed p [] i x at = absurd (none-some x at)
passed {X} p (y ∷ ys) i x at = by (p y) refl i at (λ i at. passed p ys i x at)
  where
    more : (p x ≡ true) × IsAt ys x → (p x ≡ true) × IsAt (y ∷ ys) x
    more found = (found.0, later y x ys found.1)

    by : (b : Bool) → p y ≡ b → (i : ℕ) → slice_get (cond b (y ∷ filter p ys) (filter p ys)) i ≡ Some x → ((i : ℕ) → slice_get (filter p ys) i ≡ Some x → (p x ≡ true) × IsAt ys x) → (p x ≡ true) × IsAt (y ∷ ys) x
    by true here zero at rest = (subst (λ z. p z ≡ true) (same_Some y x at) here, (zero, at))
    by true here (suc i) at rest = more (rest i at)
    by false here i at rest = more (rest i at)

none_such : {X : Type 0} (g : X → Bool) (xs : List X) → list_any g xs ≡ false → (i : ℕ) (x : X) → slice_get xs i ≡ Some x → g x ≡ false
none_such g [] none i x at = absurd (none-some x at)
none_such g (y ∷ ys) none zero x at = subst (λ z. g z ≡ false) (same_Some y x at) (or_parts (g y) (list_any g ys) none).0
none_such g (y ∷ ys) none (suc i) x at = none_such g ys (or_parts (g y) (list_any g ys) none).1 i x at

-- ---- the first of fewer

abbrev IsFewer : (Route → Bool) → (Route → Bool) → RouteEntries → Type 0
IsFewer p q routes = (i : ℕ) (r : Route) → slice_get routes i ≡ Some r → q r ≡ true → p r ≡ true

none_of_fewer : (order : Route → Route → Ordering) → IsTotalOrder order → (p q : Route → Bool) (routes : RouteEntries) → IsFewer p q routes → first_of order (filter p routes) ≡ None → first_of order (filter q routes) ≡ None
none_of_fewer order total p q routes fewer none = by (first_of order (filter q routes)) refl
  where
    by : (m : Option Route) → first_of order (filter q routes) ≡ m → first_of order (filter q routes) ≡ None
    by None is = is
    by (Some y) is =
        let two = is_first order total (filter q routes) y is in
        let there = passed q routes two.place y two.at in
        let among = filtered p routes there.1.0 y there.1.1 (fewer there.1.0 y there.1.1 there.0) in
        absurd (none-some y (subst (λ xs. slice_get xs among.0 ≡ Some y) (none_first order total (filter p routes) none) among.1))

-- the first of those that are left: neither it nor the first of all comes before the other
record IsFirstLeft (order : Route → Route → Ordering) (q : Route → Bool) (routes : RouteEntries) (x y : Route) : Type 0 where
  is : first_of order (filter q routes) ≡ Some y
  at : IsAt routes y
  not_before : is_lt (order y x) ≡ false
  not_after : is_lt (order x y) ≡ false

first_left : (order : Route → Route → Ordering) → IsTotalOrder order → (p q : Route → Bool) (routes : RouteEntries) (x : Route) → IsFewer p q routes → first_of order (filter p routes) ≡ Some x → q x ≡ true →
    IsAt routes x × ((y : Route) × IsFirstLeft order q routes x y)
first_left order total p q routes x fewer first passes = (there.1, by (first_of order (filter q routes)) refl)
  where
    one : IsFirst order (filter p routes) x
    one = is_first order total (filter p routes) x first

    there : (p x ≡ true) × IsAt routes x
    there = passed p routes one.place x one.at

    here : IsAt (filter q routes) x
    here = filtered q routes there.1.0 x there.1.1 passes

    by : (m : Option Route) → first_of order (filter q routes) ≡ m → (y : Route) × IsFirstLeft order q routes x y
    by None is = absurd (none-some x (subst (λ xs. slice_get xs here.0 ≡ Some x) (none_first order total (filter q routes) is) here.1))
    by (Some y) is =
        let two = is_first order total (filter q routes) y is in
        let from = passed q routes two.place y two.at in
        let among = filtered p routes from.1.0 y from.1.1 (fewer from.1.0 y from.1.1 from.0) in
        (y, record { is = is; at = from.1; not_before = one.before_all among.0 y among.1; not_after = two.before_all here.0 x here.1 })

-- ---- routes of one neighbour

-- a route of the prefix is what its neighbour advertised of it
pub record IsRouteAt (prefix : PrefixValue) (es : RouteEntries) (route : Route) : Type 0 where
  pub key : route.0 ≡ key_of prefix route.0.peer
  pub entry : find route_cmp (key_of prefix route.0.peer) es ≡ Some route.1

pub route_at : (prefix : PrefixValue) (s : State) (i : ℕ) (route : Route) → AreRoutesInOrder s → slice_get (routes_of prefix s.routes.entries) i ≡ Some route → IsRouteAt prefix s.routes.entries route
route_at prefix s i route sorted at =
    let es : RouteEntries = s.routes.entries in
    let there = passed (is_of prefix) es i route at in
    let same : route.0.prefix ≡ prefix = prefix_exact route.0.prefix prefix (equal (prefix_cmp route.0.prefix prefix) there.0) in
    let key : route.0 ≡ key_of prefix route.0.peer = ap (λ (p : PrefixValue). key_of p route.0.peer) same in
    record { key = key; entry = subst (λ k. find route_cmp k es ≡ Some route.1) key (find_hit route_cmp route_total es there.1.0 route sorted there.1.1) }

-- ---- the choice again

mapped_none : (m : Option Route) → None ≡ option_map selection_of m → m ≡ None
mapped_none None is = refl
mapped_none (Some x) is = absurd (none-some (selection_of x) is)

module _ (s : State) (sources : Sources) (prefix : PrefixValue) (sorted : AreRoutesInOrder s) where
  abbrev routes : RouteEntries
  routes = routes_of prefix s.routes.entries

  fewer : ((i : ℕ) (r : Route) → slice_get routes i ≡ Some r → is_feasible_route sources r ≡ true → is_feasible_route s.sources r ≡ true) →
      IsFewer (is_candidate s.sources (cost_at s)) (is_candidate sources (cost_at s)) routes
  fewer none i r at passes =
      let parts = and_parts (is_feasible_route sources r) (nat_lt (route_metric (cost_at s) r) 65535) passes in
      and_from (is_feasible_route s.sources r) (nat_lt (route_metric (cost_at s) r) 65535) (none i r at parts.0) parts.1

  chosen_again : (route : Selection) → IsFewer (is_candidate s.sources (cost_at s)) (is_candidate sources (cost_at s)) routes → is_candidate sources (cost_at s) (key_of prefix route.peer, route.entry) ≡ true →
      Some route ≡ choice s.sources (cost_at s) prefix false (Some route) s.routes.entries → Some route ≡ choice sources (cost_at s) prefix false (Some route) s.routes.entries
  chosen_again route fewer good current = by (first_of (preference (cost_at s) (Some route.peer)) (filter (is_candidate s.sources (cost_at s)) routes)) refl current
    where
      order : Route → Route → Ordering
      order = preference (cost_at s) (Some route.peer)

      by : (m : Option Route) → first_of order (filter (is_candidate s.sources (cost_at s)) routes) ≡ m → Some route ≡ option_map selection_of m → Some route ≡ option_map selection_of (first_of order (filter (is_candidate sources (cost_at s)) routes))
      by None first is = absurd (none-some route (sym is))
      by (Some x) first is = last
        where
          same : route ≡ selection_of x
          same = same_Some route (selection_of x) is

          x_at : IsAt routes x
          x_at =
              let one = is_first order (preference_total (cost_at s) (Some route.peer)) (filter (is_candidate s.sources (cost_at s)) routes) x first in
              (passed (is_candidate s.sources (cost_at s)) routes one.place x one.at).1

          x_route : IsRouteAt prefix s.routes.entries x
          x_route = route_at prefix s x_at.0 x sorted x_at.1

          x_good : is_candidate sources (cost_at s) x ≡ true
          x_good =
              subst (λ k. is_candidate sources (cost_at s) (k, x.1) ≡ true) (sym x_route.key)
              (subst (λ (c : Selection). is_candidate sources (cost_at s) (key_of prefix c.peer, c.entry) ≡ true) same good)

          left : (y : Route) × IsFirstLeft order (is_candidate sources (cost_at s)) routes x y
          left = (first_left order (preference_total (cost_at s) (Some route.peer)) (is_candidate s.sources (cost_at s)) (is_candidate sources (cost_at s)) routes x fewer first x_good).1

          y_route : IsRouteAt prefix s.routes.entries left.0
          y_route = route_at prefix s left.1.at.0 left.0 sorted left.1.at.1

          peer_is : route.peer ≡ x.0.peer
          peer_is = ap (λ (c : Selection). c.peer) same

          one_peer : left.0.0.peer ≡ x.0.peer
          one_peer =
              same_peer (cost_at s) (Some x.0.peer) left.0 x
              (subst (λ p. is_lt (preference (cost_at s) (Some p) left.0 x) ≡ false) peer_is left.1.not_before)
              (subst (λ p. is_lt (preference (cost_at s) (Some p) x left.0) ≡ false) peer_is left.1.not_after)

          one_entry : left.0.1 ≡ x.1
          one_entry = same_Some left.0.1 x.1 (sym y_route.entry ∙ ap (λ p. find route_cmp (key_of prefix p) s.routes.entries) one_peer ∙ x_route.entry)

          last : Some route ≡ option_map selection_of (first_of order (filter (is_candidate sources (cost_at s)) routes))
          last =
              ap (λ c. Some c) same
              ∙ sym (ap (λ (e : Peer × Entry). Some (record { peer = e.0; entry = e.1 })) (λ i. (one_peer i, one_entry i)))
              ∙ sym (ap (option_map selection_of) left.1.is)

  pub stays_chosen : (local : Bool) (before : Option Selection) →
      (local ≡ false → (i : ℕ) (r : Route) → slice_get routes i ≡ Some r → is_feasible_route sources r ≡ true → is_feasible_route s.sources r ≡ true) →
      ((route : Selection) → before ≡ Some route → is_candidate sources (cost_at s) (key_of prefix route.peer, route.entry) ≡ true) →
      before ≡ choice s.sources (cost_at s) prefix local before s.routes.entries → before ≡ choice sources (cost_at s) prefix local before s.routes.entries
  stays_chosen true before none good current = current
  stays_chosen false None none good current =
      sym (ap (option_map selection_of) (none_of_fewer (preference (cost_at s) None) (preference_total (cost_at s) None) (is_candidate s.sources (cost_at s)) (is_candidate sources (cost_at s)) routes (fewer (none refl))
      (mapped_none (first_of (preference (cost_at s) None) (filter (is_candidate s.sources (cost_at s)) routes)) current)))
  stays_chosen false (Some route) none good current = chosen_again route (fewer (none refl)) (good route refl) current

-- ---- a state after it that knows the same

pub routes_kept : (s t : State) → known_of t ≡ known_of s → t.routes ≡ s.routes
unfolding known_of
routes_kept s t same = ap (λ (k : KnownValue). k.routes) same

pub stays_current : (s t : State) (prefix : PrefixValue) → known_of t ≡ known_of s → AreRoutesInOrder s → AreSelectable t →
    (announces prefix s ≡ false → (i : ℕ) (r : Route) → slice_get (routes_of prefix s.routes.entries) i ≡ Some r → is_feasible_route t.sources r ≡ true → is_feasible_route s.sources r ≡ true) →
    IsCurrentAt prefix s → IsCurrentAt prefix t
stays_current s t prefix same sorted selectable none current =
    subst (λ cost. IsCurrent t.sources cost prefix (announces prefix t) t.routes) (sym (costs_kept s t same))
    (subst (λ local. IsCurrent t.sources (cost_at s) prefix local t.routes) (sym (announces_kept s t same prefix))
    (subst (IsCurrent t.sources (cost_at s) prefix (announces prefix s)) (sym (routes_kept s t same))
    (stays_chosen s t.sources prefix sorted (announces prefix s) (selected_at prefix s) none good current)))
  where
    good : (route : Selection) → selected_at prefix s ≡ Some route → is_candidate t.sources (cost_at s) (key_of prefix route.peer, route.entry) ≡ true
    good route at =
        let here = (selectable prefix route (selection_kept s t same prefix ∙ at)).1 in
        subst (λ cost. is_candidate t.sources cost (key_of prefix route.peer, route.entry) ≡ true) (costs_kept s t same)
        (and_parts (not (announces prefix t)) (is_candidate t.sources (cost_at t) (key_of prefix route.peer, route.entry)) here).1

revived : (f g : Bool) → (not f && g) ≡ false → g ≡ true → f ≡ true
revived true g none feasible = refl
revived false g none feasible = absurd (false≢true (sym none ∙ feasible))

-- What wasn't revived wasn't feasible, or was feasible before.
pub revives_none : (s t : State) (prefix : PrefixValue) → has_revived_route prefix s t ≡ false →
    (i : ℕ) (r : Route) → slice_get (routes_of prefix s.routes.entries) i ≡ Some r → is_feasible_route t.sources r ≡ true → is_feasible_route s.sources r ≡ true
revives_none s t prefix none i r at feasible =
    revived (is_feasible_route s.sources r) (is_feasible_route t.sources r) (none_such (becomes_feasible s t) (routes_of prefix s.routes.entries) none i r at) feasible
