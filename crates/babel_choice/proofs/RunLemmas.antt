-- In the route table the routes of a prefix are next to each other, before those of greater prefixes.
use Rattle.std.proofs.Common.{◌≡◌, ℕ, zero, suc, ◌+◌, Bool, true, false, cond, not, List, [], ◌∷◌, ◌++◌, take, drop, slice_get, Option, Some, None, refl, sym, ap, subst, ◌∙◌, add-one}
use Rattle.std.specs.List.{list_all, take_while}
use Rattle.std.specs.Option.{option_map_or}
use Rattle.std.proofs.lemmas.Bool.{and_parts}
use Rattle.std.proofs.lemmas.List.{take-append-drop}
use Rattle.std.proofs.lemmas.List.Elements.{filter-append}
use Rattle.std.proofs.lemmas.List.Sums.{take_while-cons}
use Rattle.std.proofs.lemmas.Option.{same_Some, none-some}
use Rattle.std.specs.declared.cmp.Ordering.{Ordering}
use Rattle.std.specs.declared.cmp.Ordering.TheVariants.{Less, Equal, Greater}
use Rattle.std.specs.Ordering.{is_lt, is_gt, is_eq}
use Rattle.std.specs.FinMap.{is_sorted}
use Rattle.babel_value.specs.Prefixes.{PrefixValue}
use Rattle.babel_value.specs.Orders.{prefix_cmp}
use Rattle.babel_value.proofs.OrderLaws.{prefix_total}
use Rattle.babel_value.proofs.Orderings.{greater_else}
use Rattle.babel_choice.specs.RouteKeys.{route_cmp}
use Rattle.babel_choice.specs.Routes.{Route, RouteEntries}
use Rattle.babel_choice.specs.Choices.{is_of, routes_of, others_of}
use Rattle.babel_choice.specs.PrefixBounds.{is_before, route_not_after}
use Rattle.babel_table.specs.Places.{are_greater}
use Rattle.babel_table.proofs.PlaceLemmas.{turned, turned_back, head_greater, tail_greater, others_greater, tail_sorted}

-- a route of a lesser prefix isn't of this one
not_equal : (r : Ordering) → is_lt r ≡ true → is_eq r ≡ false
not_equal Less h = refl
not_equal Equal h = sym h
not_equal Greater h = refl

pub none_before : (p : PrefixValue) (es : RouteEntries) → list_all (λ e. is_before p e.0.prefix) es ≡ true → routes_of p es ≡ []
none_before p [] all = refl
none_before p (e ∷ es) all =
    let parts = and_parts (is_before p e.0.prefix) (list_all (λ e. is_before p e.0.prefix) es) all in
    rw (not_equal (prefix_cmp e.0.prefix p) parts.0) (none_before p es parts.1)

-- after a route of a greater prefix all are of greater prefixes
pub none_after : (p : PrefixValue) (e : Route) (es : RouteEntries) → prefix_cmp e.0.prefix p ≡ Greater → are_greater route_cmp e.0 es ≡ true → routes_of p es ≡ []
none_after p e [] beyond all = refl
none_after p e (f ∷ es) beyond all =
    let upwards : route_cmp e.0 f.0 ≡ Less = head_greater route_cmp e.0 f es all in
    let here : prefix_cmp f.0.prefix p ≡ Greater = by (prefix_cmp e.0.prefix f.0.prefix) refl (route_not_after e.0 f.0 (ap is_gt upwards)) in
    rw here (none_after p e es beyond (tail_greater route_cmp e.0 f es all))
  where
    by : (r : Ordering) → prefix_cmp e.0.prefix f.0.prefix ≡ r → is_gt r ≡ false → prefix_cmp f.0.prefix p ≡ Greater
    by Less step h = turned prefix_total p f.0.prefix (prefix_total.trans p e.0.prefix f.0.prefix (turned_back prefix_total e.0.prefix p beyond) step)
    by Equal step h = sym (prefix_total.congr e.0.prefix f.0.prefix p step) ∙ beyond
    by Greater step h = cc

-- so a walk that ends at another prefix meets all of this one
pub run_of : (p : PrefixValue) (es : RouteEntries) → is_sorted route_cmp es ≡ true → list_all (λ e. not (is_before p e.0.prefix)) es ≡ true → take_while (is_of p) es ≡ routes_of p es
run_of p [] sorted all = refl
run_of p (e ∷ es) sorted all =
    let parts = and_parts (not (is_before p e.0.prefix)) (list_all (λ e. not (is_before p e.0.prefix)) es) all in
    take_while-cons (is_of p) e es ∙ by (prefix_cmp e.0.prefix p) refl parts.0 (run_of p es (tail_sorted route_cmp e es sorted) parts.1)
  where
    by : (r : Ordering) → prefix_cmp e.0.prefix p ≡ r → not (is_lt r) ≡ true → take_while (is_of p) es ≡ routes_of p es → cond (is_eq r) (e ∷ take_while (is_of p) es) [] ≡ cond (is_eq r) (e ∷ routes_of p es) (routes_of p es)
    by Less is h rest = cc
    by Equal is h rest = ap (λ fs. e ∷ fs) rest
    by Greater is h rest = sym (none_after p e es is (others_greater route_cmp e es sorted))

-- ---- a walk over them
pub drop_at : {A : Type 0} (xs : List A) (i : ℕ) (x : A) → slice_get xs i ≡ Some x → drop i xs ≡ x ∷ drop (i + 1) xs
drop_at {A = A} xs i x at = rw (add-one i) (by xs i at)
  where
    by : (ys : List A) (i : ℕ) → slice_get ys i ≡ Some x → drop i ys ≡ x ∷ drop (suc i) ys
    by [] i at = absurd (none-some x at)
    by (y ∷ ys) zero at = ap (λ z. z ∷ ys) (same_Some y x at)
    by (y ∷ ys) (suc i) at = by ys i at

pub walk_next : (p : PrefixValue) (es : RouteEntries) (i : ℕ) (e : Route) → slice_get es i ≡ Some e → is_of p e ≡ true → take_while (is_of p) (drop i es) ≡ e ∷ take_while (is_of p) (drop (i + 1) es)
walk_next p es i e at here =
    ap (take_while (is_of p)) (drop_at es i e at) ∙ take_while-cons (is_of p) e (drop (i + 1) es) ∙ rw here refl

pub walk_end : (p : PrefixValue) (es : RouteEntries) (i : ℕ) (e : Route) → slice_get es i ≡ Some e → is_of p e ≡ false → take_while (is_of p) (drop i es) ≡ []
walk_end p es i e at other =
    ap (take_while (is_of p)) (drop_at es i e at) ∙ take_while-cons (is_of p) e (drop (i + 1) es) ∙ rw other refl

-- from the first place of the prefix on it meets all of them
pub sorted_drop : {K V : Type 0} (R : K → K → Ordering) (es : List (K × V)) (i : ℕ) → is_sorted R es ≡ true → is_sorted R (drop i es) ≡ true
sorted_drop R [] zero sorted = sorted
sorted_drop R [] (suc i) sorted = sorted
sorted_drop R (e ∷ es) zero sorted = sorted
sorted_drop R (e ∷ es) (suc i) sorted = sorted_drop R es i (tail_sorted R e es sorted)

pub drop_past : {A : Type 0} (xs : List A) (i : ℕ) → slice_get xs i ≡ None → drop i xs ≡ []
drop_past [] zero at = refl
drop_past [] (suc i) at = refl
drop_past (x ∷ xs) zero at = absurd (none-some x (sym at))
drop_past (x ∷ xs) (suc i) at = drop_past xs i at

pub all_routes_from : (p : PrefixValue) (es : RouteEntries) (i : ℕ) → list_all (λ e. is_before p e.0.prefix) (take i es) ≡ true → routes_of p (drop i es) ≡ routes_of p es
all_routes_from p es i before =
    ap (λ fs. fs ++ routes_of p (drop i es)) (sym (none_before p (take i es) before))
    ∙ sym (filter-append (is_of p) (take i es) (drop i es))
    ∙ ap (routes_of p) (take-append-drop i es)

pub walk_from_first : (p : PrefixValue) (es : RouteEntries) (i : ℕ) → is_sorted route_cmp es ≡ true → list_all (λ e. is_before p e.0.prefix) (take i es) ≡ true → list_all (λ e. not (is_before p e.0.prefix)) (drop i es) ≡ true → take_while (is_of p) (drop i es) ≡ routes_of p es
walk_from_first p es i sorted before following =
    run_of p (drop i es) (sorted_drop route_cmp es i sorted) following ∙ all_routes_from p es i before

-- ---- a walk over the run of a prefix, from an index on where all before are passed
abbrev pub are_not_before : PrefixValue → RouteEntries → Bool
are_not_before p = list_all (λ e. not (is_before p e.0.prefix))

pub record IsRunStep (p : PrefixValue) (es : RouteEntries) (i : ℕ) (e : Route) : Type 0 where
  pub from : are_not_before p (drop (i + 1) es) ≡ true
  pub routes : routes_of p (drop i es) ≡ e ∷ routes_of p (drop (i + 1) es)
  pub others : others_of p (drop i es) ≡ others_of p (drop (i + 1) es)

pub run_step : (p : PrefixValue) (es : RouteEntries) (i : ℕ) (e : Route) → slice_get es i ≡ Some e → is_of p e ≡ true → are_not_before p (drop i es) ≡ true → IsRunStep p es i e
run_step p es i e at here from =
    let next = drop_at es i e at in
    record {
      from = (and_parts (not (is_before p e.0.prefix)) (are_not_before p (drop (i + 1) es)) (subst (λ fs. are_not_before p fs ≡ true) next from)).1;
      routes = ap (routes_of p) next ∙ rw here refl;
      others = ap (others_of p) next ∙ rw here refl;
    }

none_other : (p : PrefixValue) (es : RouteEntries) → routes_of p es ≡ [] → others_of p es ≡ es
none_other p [] none = refl
none_other p (e ∷ es) none = by (is_of p e) none (none_other p es)
  where
    by : (b : Bool) → cond b (e ∷ routes_of p es) (routes_of p es) ≡ [] → (routes_of p es ≡ [] → others_of p es ≡ es) → cond (not b) (e ∷ others_of p es) (others_of p es) ≡ e ∷ es
    by true none rest = cc
    by false none rest = ap (λ fs. e ∷ fs) (rest none)

pub record IsRunEnd (p : PrefixValue) (es : RouteEntries) (i : ℕ) : Type 0 where
  pub routes : routes_of p (drop i es) ≡ []
  pub others : others_of p (drop i es) ≡ drop i es

pub run_end : (p : PrefixValue) (es : RouteEntries) (i : ℕ) (e : Route) → is_sorted route_cmp es ≡ true → slice_get es i ≡ Some e → is_of p e ≡ false → are_not_before p (drop i es) ≡ true → IsRunEnd p es i
run_end p es i e sorted at other from =
    let next = drop_at es i e at in
    let parts = and_parts (not (is_before p e.0.prefix)) (are_not_before p (drop (i + 1) es)) (subst (λ fs. are_not_before p fs ≡ true) next from) in
    let rest = subst (λ fs. is_sorted route_cmp fs ≡ true) next (sorted_drop route_cmp es i sorted) in
    let none : routes_of p (drop i es) ≡ [] =
    ap (routes_of p) next ∙ rw other (none_after p e (drop (i + 1) es) (greater_else (prefix_cmp e.0.prefix p) parts.0 other) (others_greater route_cmp e (drop (i + 1) es) rest)) in
    record { routes = none; others = none_other p (drop i es) none }

pub run_past : (p : PrefixValue) (es : RouteEntries) (i : ℕ) → drop i es ≡ [] → IsRunEnd p es i
run_past p es i past = record { routes = ap (routes_of p) past; others = ap (others_of p) past ∙ sym past }

-- the same of a route that isn't there
pub run_ends : (p : PrefixValue) (es : RouteEntries) (i : ℕ) → is_sorted route_cmp es ≡ true → option_map_or (is_of p) (slice_get es i) false ≡ false → are_not_before p (drop i es) ≡ true → IsRunEnd p es i
run_ends p es i sorted other from = by (slice_get es i) refl other
  where
    by : (o : Option Route) → slice_get es i ≡ o → option_map_or (is_of p) o false ≡ false → IsRunEnd p es i
    by None at h = run_past p es i (drop_past es i at)
    by (Some e) at h = run_end p es i e sorted at h from

-- the one route of a prefix
pub record IsAlone (p : PrefixValue) (es : RouteEntries) (i : ℕ) (e : Route) : Type 0 where
  pub routes : routes_of p (drop i es) ≡ e ∷ []
  pub others : others_of p (drop i es) ≡ drop (i + 1) es

pub run_alone : (p : PrefixValue) (es : RouteEntries) (i : ℕ) (e : Route) → is_sorted route_cmp es ≡ true → slice_get es i ≡ Some e → is_of p e ≡ true → option_map_or (is_of p) (slice_get es (i + 1)) false ≡ false → are_not_before p (drop i es) ≡ true → IsAlone p es i e
run_alone p es i e sorted at here other from =
    let step = run_step p es i e at here from in
    let end = run_ends p es (i + 1) sorted other step.from in
    record { routes = step.routes ∙ ap (λ rs. e ∷ rs) end.routes; others = step.others ∙ end.others }
