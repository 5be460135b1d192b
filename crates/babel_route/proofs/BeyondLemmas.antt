-- The least prefix beyond a bound is that of the first entry beyond it, since the prefixes rise.
use Rattle.std.proofs.Common.{◌≡◌, ℕ, ◌+◌, Bool, true, false, not, List, [], ◌∷◌, ◌++◌, map, filter, take, drop, slice_get, Option, Some, None, refl, sym, ap, subst, ◌∙◌}
use Rattle.std.specs.List.{list_all}
use Rattle.std.proofs.lemmas.Bool.{and_parts, and_from}
use Rattle.std.proofs.lemmas.List.{take-append-drop, map-append}
use Rattle.std.proofs.lemmas.List.Elements.{filter-append}
use Rattle.std.specs.declared.cmp.Ordering.{Ordering}
use Rattle.std.specs.declared.cmp.Ordering.TheVariants.{Less}
use Rattle.std.specs.Ordering.{is_lt, is_gt}
use Rattle.std.specs.FinMap.{is_sorted}
use Rattle.babel_value.specs.Prefixes.{PrefixValue}
use Rattle.babel_value.specs.Orders.{prefix_cmp}
use Rattle.babel_value.proofs.OrderLaws.{prefix_total}
use Rattle.babel_value.proofs.Orderings.{less_reversed}
use Rattle.babel_choice.specs.declared.entries.RouteKey.{RouteKey}
use Rattle.babel_choice.specs.RouteKeys.{route_cmp}
use Rattle.babel_table.specs.Firsts.{first_of, lesser_of}
use Rattle.babel_choice.specs.PrefixBounds.{is_beyond, is_through, route_not_after}
use Rattle.babel_choice.specs.Choices.{Selections}
use Rattle.babel_route.specs.Selections.{prefix_after}
use Rattle.babel_choice.specs.Routes.{RouteEntries}
use Rattle.babel_table.specs.Places.{are_greater}
use Rattle.babel_table.proofs.PlaceLemmas.{others_greater, head_greater, tail_greater}
use Rattle.babel_choice.proofs.RunLemmas.{drop_at, drop_past, sorted_drop}
use Rattle.babel_table.proofs.FirstLemmas.{head_is_first, first_of_row}

module _ {K V : Type 0} (R : K → K → Ordering) (prefix : K → PrefixValue) (rises : (x y : K) → R x y ≡ Less → is_lt (prefix_cmp (prefix y) (prefix x)) ≡ false) (after : Option PrefixValue) where
  none_through : (es : List (K × V)) → list_all (λ e. is_through after (prefix e.0)) es ≡ true → filter (is_beyond after) (map (λ e. prefix e.0) es) ≡ []
  none_through [] all = refl
  none_through (e ∷ es) all =
      let parts = and_parts (is_through after (prefix e.0)) (list_all (λ e. is_through after (prefix e.0)) es) all in
      rw (is_not (is_beyond after (prefix e.0)) parts.0) (none_through es parts.1)
    where
      is_not : (b : Bool) → not b ≡ true → b ≡ false
      is_not true h = sym h
      is_not false h = refl

  all_beyond : (es : List (K × V)) → list_all (λ e. not (is_through after (prefix e.0))) es ≡ true → filter (is_beyond after) (map (λ e. prefix e.0) es) ≡ map (λ e. prefix e.0) es
  all_beyond [] all = refl
  all_beyond (e ∷ es) all =
      let parts = and_parts (not (is_through after (prefix e.0))) (list_all (λ e. not (is_through after (prefix e.0))) es) all in
      rw (is_so (is_beyond after (prefix e.0)) parts.0) (ap (λ ps. prefix e.0 ∷ ps) (all_beyond es parts.1))
    where
      is_so : (b : Bool) → not (not b) ≡ true → b ≡ true
      is_so true h = refl
      is_so false h = h

  none_lesser : (k : K) (es : List (K × V)) → are_greater R k es ≡ true → list_all (λ p. not (is_lt (prefix_cmp p (prefix k)))) (map (λ e. prefix e.0) es) ≡ true
  none_lesser k [] all = refl
  none_lesser k (e ∷ es) all =
      and_from (not (is_lt (prefix_cmp (prefix e.0) (prefix k)))) (list_all (λ p. not (is_lt (prefix_cmp p (prefix k)))) (map (λ e. prefix e.0) es))
      (ap not (rises k e.0 (head_greater R k e es all))) (none_lesser k es (tail_greater R k e es all))

  from_place : (es : List (K × V)) (i : ℕ) → list_all (λ e. is_through after (prefix e.0)) (take i es) ≡ true → list_all (λ e. not (is_through after (prefix e.0))) (drop i es) ≡ true → filter (is_beyond after) (map (λ e. prefix e.0) es) ≡ map (λ e. prefix e.0) (drop i es)
  from_place es i below above =
      ap (λ fs. filter (is_beyond after) (map (λ e. prefix e.0) fs)) (sym (take-append-drop i es))
      ∙ ap (filter (is_beyond after)) (map-append (λ e. prefix e.0) (take i es) (drop i es))
      ∙ filter-append (is_beyond after) (map (λ e. prefix e.0) (take i es)) (map (λ e. prefix e.0) (drop i es))
      ∙ ap (λ ps. ps ++ filter (is_beyond after) (map (λ e. prefix e.0) (drop i es))) (none_through (take i es) below)
      ∙ all_beyond (drop i es) above

  pub least_beyond : (es : List (K × V)) (i : ℕ) (e : K × V) → is_sorted R es ≡ true → list_all (λ e. is_through after (prefix e.0)) (take i es) ≡ true → list_all (λ e. not (is_through after (prefix e.0))) (drop i es) ≡ true → slice_get es i ≡ Some e → first_of prefix_cmp (filter (is_beyond after) (map (λ e. prefix e.0) es)) ≡ Some (prefix e.0)
  least_beyond es i e sorted below above at =
      let here = drop_at es i e at in
      let rest = subst (λ fs. is_sorted R fs ≡ true) here (sorted_drop R es i sorted) in
      ap (first_of prefix_cmp) (from_place es i below above ∙ ap (map (λ e. prefix e.0)) here)
      ∙ head_is_first prefix_cmp prefix_total (prefix e.0) (map (λ e. prefix e.0) (drop (i + 1) es)) (none_lesser e.0 (drop (i + 1) es) (others_greater R e (drop (i + 1) es) rest))

  pub none_beyond : (es : List (K × V)) (i : ℕ) → list_all (λ e. is_through after (prefix e.0)) (take i es) ≡ true → list_all (λ e. not (is_through after (prefix e.0))) (drop i es) ≡ true → slice_get es i ≡ None → first_of prefix_cmp (filter (is_beyond after) (map (λ e. prefix e.0) es)) ≡ None
  none_beyond es i below above at =
      ap (first_of prefix_cmp) (from_place es i below above ∙ ap (map (λ e. prefix e.0)) (drop_past es i at))

-- ---- the prefixes of selections and of routes rise

not_lesser : (p q : PrefixValue) → is_gt (prefix_cmp p q) ≡ false → is_lt (prefix_cmp q p) ≡ false
not_lesser p q h = ap is_lt (prefix_total.antisymm q p) ∙ less_reversed (prefix_cmp p q) ∙ h

pub prefix_rises : (p q : PrefixValue) → prefix_cmp p q ≡ Less → is_lt (prefix_cmp q p) ≡ false
prefix_rises p q lt = not_lesser p q (ap is_gt lt)

pub route_prefix_rises : (x y : RouteKey) → route_cmp x y ≡ Less → is_lt (prefix_cmp y.prefix x.prefix) ≡ false
route_prefix_rises x y lt = not_lesser x.prefix y.prefix (route_not_after x y (ap is_gt lt))

-- the least of both is the lesser of the two least
pub prefix_after_both : (after : Option PrefixValue) (es : RouteEntries) (ss : Selections) (route selection : Option PrefixValue) → route ≡ first_of prefix_cmp (filter (is_beyond after) (map (λ e. e.0.prefix) es)) → selection ≡ first_of prefix_cmp (filter (is_beyond after) (map (λ s. s.0) ss)) → lesser_of prefix_cmp route selection ≡ prefix_after after (record { entries = es; selections = ss })
prefix_after_both after es ss route selection of_routes of_selections =
    ap (λ o. lesser_of prefix_cmp o selection) of_routes
    ∙ ap (lesser_of prefix_cmp (first_of prefix_cmp (filter (is_beyond after) (map (λ e. e.0.prefix) es)))) of_selections
    ∙ sym (first_of_row prefix_cmp prefix_total (filter (is_beyond after) (map (λ e. e.0.prefix) es)) (filter (is_beyond after) (map (λ s. s.0) ss)))
    ∙ ap (first_of prefix_cmp) (sym (filter-append (is_beyond after) (map (λ e. e.0.prefix) es) (map (λ s. s.0) ss)))
