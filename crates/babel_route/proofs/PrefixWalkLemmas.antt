-- A walk over the prefixes of two tables, whose keys rise.
use Rattle.std.proofs.Common.{◌≡◌, ℕ, ◌+◌, Bool, true, false, cond, not, ◌||◌, List, [], ◌∷◌, map, drop, slice_get, Option, Some, None, option_map, IsNone, IfSome, refl, sym, ap, subst, ◌∙◌}
use Rattle.std.specs.List.{list_all}
use Rattle.std.proofs.lemmas.Bool.{and_parts, and_from}
use Rattle.std.proofs.lemmas.List.Folds.{list_any-append}
use Rattle.std.specs.declared.cmp.Ordering.{Ordering}
use Rattle.std.specs.declared.cmp.Ordering.TheVariants.{Less}
use Rattle.std.specs.Ordering.{is_lt, is_gt, is_eq, eq_by_cmp}
use Rattle.std.specs.Cmp.{tied_itself}
use Rattle.std.specs.FinMap.{find, is_sorted}
use Rattle.babel_value.specs.Orders.{prefix_cmp}
use Rattle.babel_value.specs.Prefixes.{PrefixValue}
use Rattle.babel_value.proofs.OrderLaws.{prefix_total, prefix_exact}
use Rattle.babel_value.proofs.Orderings.{greater_else, less, equal}
use Rattle.babel_table.specs.Entries.{without}
use Rattle.babel_table.specs.Firsts.{lesser_of}
use Rattle.babel_table.specs.Places.{are_greater}
use Rattle.babel_table.proofs.LookupLemmas.{eq_turned}
use Rattle.babel_table.proofs.PlaceLemmas.{turned, turned_back, head_greater, tail_greater, others_greater, find_gap, without_gap, greater_from}
use Rattle.babel_choice.specs.declared.entries.Selection.{Selection}
use Rattle.babel_choice.specs.PrefixBounds.{is_before, route_not_after, before_falls}
use Rattle.babel_route.specs.PrefixWalks.{are_from}
use Rattle.babel_choice.specs.RouteKeys.{route_cmp}
use Rattle.babel_route.specs.RouteLaws.{is_among}
use Rattle.babel_choice.specs.Routes.{Route, RouteEntries}
use Rattle.babel_choice.specs.Choices.{Selections}
use Rattle.babel_route.specs.Selections.{RoutesValue, prefixes_of}
use Rattle.babel_choice.proofs.RunLemmas.{drop_at, drop_past, sorted_drop}

-- ---- the selection of a prefix, from an index on where none before is of the prefix
pub record IsPassed (p : PrefixValue) (ss : Selections) (j : ℕ) (value : Option Selection) (next : ℕ) : Type 0 where
  pub found : value ≡ find prefix_cmp p (drop j ss)
  pub rest : drop next ss ≡ without prefix_cmp p (drop j ss)

module _ (p : PrefixValue) (ss : Selections) (j : ℕ) where
  beyond : are_greater prefix_cmp p (drop j ss) ≡ true → IsPassed p ss j None j
  beyond greater = record { found = sym (find_gap prefix_cmp p (drop j ss) 0 refl greater); rest = sym (without_gap prefix_cmp p (drop j ss) 0 refl greater) }

  pub selection_past : drop j ss ≡ [] → IsPassed p ss j None j
  selection_past past = beyond (ap (are_greater prefix_cmp p) past)

  pub selection_here : (s : PrefixValue × Selection) → is_sorted prefix_cmp ss ≡ true → slice_get ss j ≡ Some s → eq_by_cmp prefix_cmp s.0 p ≡ true → IsPassed p ss j (Some s.1) (j + 1)
  selection_here s sorted at same =
      let next = drop_at ss j s at in
      let here : eq_by_cmp prefix_cmp p s.0 ≡ true = eq_turned prefix_cmp prefix_total p s.0 ∙ same in
      let rest = others_greater prefix_cmp s (drop (j + 1) ss) (subst (λ xs. is_sorted prefix_cmp xs ≡ true) next (sorted_drop prefix_cmp ss j sorted)) in
      let later : are_greater prefix_cmp p (drop (j + 1) ss) ≡ true = subst (λ q. are_greater prefix_cmp q (drop (j + 1) ss) ≡ true) (prefix_exact s.0 p (equal (prefix_cmp s.0 p) same)) rest in
      record {
        found = sym (ap (find prefix_cmp p) next ∙ rw here refl);
        rest = sym (ap (without prefix_cmp p) next ∙ rw here (without_gap prefix_cmp p (drop (j + 1) ss) 0 refl later));
      }

  pub selection_beyond : (s : PrefixValue × Selection) → is_sorted prefix_cmp ss ≡ true → slice_get ss j ≡ Some s → eq_by_cmp prefix_cmp s.0 p ≡ false → list_all (λ f. not (is_before p f.0)) (drop j ss) ≡ true → IsPassed p ss j None j
  selection_beyond s sorted at other from =
      let here = (and_parts (not (is_before p s.0)) (list_all (λ f. not (is_before p f.0)) (drop (j + 1) ss)) (subst (λ xs. list_all (λ f. not (is_before p f.0)) xs ≡ true) (drop_at ss j s at) from)).0 in
      beyond (greater_from prefix_cmp prefix_total p ss j s sorted at (turned_back prefix_total s.0 p (greater_else (prefix_cmp s.0 p) here other)))

-- ---- the least prefix
is_not : (b : Bool) → (b ≡ true → false ≡ true) → b ≡ false
is_not true h = sym (h refl)
is_not false h = refl

-- after a key whose prefix isn't lesser all are so
module _ {K V : Type 0} (R : K → K → Ordering) (prefix : K → PrefixValue) (rises : (x y : K) → R x y ≡ Less → is_gt (prefix_cmp (prefix x) (prefix y)) ≡ false) (p : PrefixValue) where
  later_from : (e : K × V) (es : List (K × V)) → are_greater R e.0 es ≡ true → is_before p (prefix e.0) ≡ false → list_all (λ f. not (is_before p (prefix f.0))) es ≡ true
  later_from e [] all here = refl
  later_from e (f ∷ es) all here =
      let one : is_before p (prefix f.0) ≡ false = is_not (is_before p (prefix f.0)) (λ before. sym here ∙ before_falls p (prefix e.0) (prefix f.0) (rises e.0 f.0 (head_greater R e.0 f es all)) before) in
      and_from (not (is_before p (prefix f.0))) (list_all (λ f. not (is_before p (prefix f.0))) es) (ap not one) (later_from e es (tail_greater R e.0 f es all) here)

  all_from : (es : List (K × V)) (i : ℕ) (e : K × V) → is_sorted R es ≡ true → slice_get es i ≡ Some e → is_before p (prefix e.0) ≡ false → list_all (λ f. not (is_before p (prefix f.0))) (drop i es) ≡ true
  all_from es i e sorted at here =
      let next = drop_at es i e at in
      let rest = others_greater R e (drop (i + 1) es) (subst (λ xs. is_sorted R xs ≡ true) next (sorted_drop R es i sorted)) in
      subst (λ xs. list_all (λ f. not (is_before p (prefix f.0))) xs ≡ true) (sym next)
      (and_from (not (is_before p (prefix e.0))) (list_all (λ f. not (is_before p (prefix f.0))) (drop (i + 1) es)) (ap not here) (later_from e (drop (i + 1) es) rest here))

not_before_itself : (p : PrefixValue) → is_before p p ≡ false
not_before_itself p = ap is_lt (tied_itself prefix_total p)

or_true : (a b : Bool) → (a || (true || b)) ≡ true
or_true true b = refl
or_true false b = refl

is_itself : (p : PrefixValue) → eq_by_cmp prefix_cmp p p ≡ true
is_itself p = ap is_eq (tied_itself prefix_total p)

among_entries : (e : Route) (es : RouteEntries) (ss : Selections) → is_among e.0.prefix (prefixes_of (record { entries = e ∷ es; selections = ss })) ≡ true
among_entries e es ss = rw (is_itself e.0.prefix) refl

among_selections : (es : RouteEntries) (s : PrefixValue × Selection) (ss : Selections) → is_among s.0 (prefixes_of (record { entries = es; selections = s ∷ ss })) ≡ true
among_selections es s ss =
    list_any-append (eq_by_cmp prefix_cmp s.0) (map (λ e. e.0.prefix) es) (s.0 ∷ map (λ f. f.0) ss)
    ∙ ap (λ b. is_among s.0 (map (λ e. e.0.prefix) es) || (b || is_among s.0 (map (λ f. f.0) ss))) (is_itself s.0)
    ∙ or_true (is_among s.0 (map (λ e. e.0.prefix) es)) (is_among s.0 (map (λ f. f.0) ss))

-- It is of one of the tables, and none is lesser.
abbrev pub IsLeast : RoutesValue → Option PrefixValue → Type 0
IsLeast routes None = routes ≡ record { entries = []; selections = [] }
IsLeast routes (Some p) = (is_among p (prefixes_of routes) ≡ true) × (are_from p routes ≡ true)

module _ (es : RouteEntries) (ss : Selections) (i j : ℕ) (es_sorted : is_sorted route_cmp es ≡ true) (ss_sorted : is_sorted prefix_cmp ss ≡ true) where
  abbrev rest : RoutesValue
  rest = record { entries = drop i es; selections = drop j ss }

  entries_from : (p : PrefixValue) (e : Route) → slice_get es i ≡ Some e → is_before p e.0.prefix ≡ false → list_all (λ f. not (is_before p f.0.prefix)) (drop i es) ≡ true
  entries_from p e at here = all_from route_cmp (λ k. k.prefix) (λ x y lt. route_not_after x y (ap is_gt lt)) p es i e es_sorted at here

  selections_from : (p : PrefixValue) (s : PrefixValue × Selection) → slice_get ss j ≡ Some s → is_before p s.0 ≡ false → list_all (λ f. not (is_before p f.0)) (drop j ss) ≡ true
  selections_from p s at here = all_from prefix_cmp (λ k. k) (λ x y lt. ap is_gt lt) p ss j s ss_sorted at here

  both_from : (p : PrefixValue) → list_all (λ f. not (is_before p f.0.prefix)) (drop i es) ≡ true → list_all (λ f. not (is_before p f.0)) (drop j ss) ≡ true → are_from p rest ≡ true
  both_from p a b = and_from (list_all (λ f. not (is_before p f.0.prefix)) (drop i es)) (list_all (λ f. not (is_before p f.0)) (drop j ss)) a b

  entry_least : (e : Route) → slice_get es i ≡ Some e → list_all (λ f. not (is_before e.0.prefix f.0)) (drop j ss) ≡ true → IsLeast rest (Some e.0.prefix)
  entry_least e at later = (
    subst (λ xs. is_among e.0.prefix (prefixes_of (record { entries = xs; selections = drop j ss })) ≡ true) (sym (drop_at es i e at)) (among_entries e (drop (i + 1) es) (drop j ss)),
    both_from e.0.prefix (entries_from e.0.prefix e at (not_before_itself e.0.prefix)) later,
  )

  selection_least : (s : PrefixValue × Selection) → slice_get ss j ≡ Some s → list_all (λ f. not (is_before s.0 f.0.prefix)) (drop i es) ≡ true → IsLeast rest (Some s.0)
  selection_least s at later = (
    subst (λ xs. is_among s.0 (prefixes_of (record { entries = drop i es; selections = xs })) ≡ true) (sym (drop_at ss j s at)) (among_selections (drop i es) s (drop (j + 1) ss)),
    both_from s.0 later (selections_from s.0 s at (not_before_itself s.0)),
  )

  least_of : (a : Option Route) (b : Option (PrefixValue × Selection)) → slice_get es i ≡ a → slice_get ss j ≡ b → IsLeast rest (lesser_of prefix_cmp (option_map (λ e. e.0.prefix) a) (option_map (λ s. s.0) b))
  least_of None None at_e at_s =
      let entries = drop_past es i at_e in
      let selections = drop_past ss j at_s in
      λ k. record { entries = entries k; selections = selections k }
  least_of (Some e) None at_e at_s = entry_least e at_e (ap (list_all (λ f. not (is_before e.0.prefix f.0))) (drop_past ss j at_s))
  least_of None (Some s) at_e at_s = selection_least s at_s (ap (list_all (λ f. not (is_before s.0 f.0.prefix))) (drop_past es i at_e))
  least_of (Some e) (Some s) at_e at_s = by (is_lt (prefix_cmp s.0 e.0.prefix)) refl
    where
      by : (b : Bool) → is_lt (prefix_cmp s.0 e.0.prefix) ≡ b → IsLeast rest (Some (cond b s.0 e.0.prefix))
      by true before = selection_least s at_s (entries_from s.0 e at_e (ap is_lt (turned prefix_total s.0 e.0.prefix (less (prefix_cmp s.0 e.0.prefix) before))))
      by false before = entry_least e at_e (selections_from e.0.prefix s at_s before)

  pub is_least : (o : Option PrefixValue) → o ≡ lesser_of prefix_cmp (option_map (λ e. e.0.prefix) (slice_get es i)) (option_map (λ s. s.0) (slice_get ss j)) → IsLeast rest o
  is_least o is = subst (IsLeast rest) (sym is) (least_of (slice_get es i) (slice_get ss j) refl refl)

pub least_none : (routes : RoutesValue) (o : Option PrefixValue) → IsLeast routes o → IsNone o → routes ≡ record { entries = []; selections = [] }
least_none routes None is none = is
least_none routes (Some p) is none = cc

pub least_among : (routes : RoutesValue) (o : Option PrefixValue) → IsLeast routes o → IfSome o (λ p. is_among p (prefixes_of routes) ≡ true)
least_among routes None is = tt
least_among routes (Some p) is = is.0

pub least_from : (routes : RoutesValue) (o : Option PrefixValue) → IsLeast routes o → IfSome o (λ p. are_from p routes ≡ true)
least_from routes None is = tt
least_from routes (Some p) is = is.1
