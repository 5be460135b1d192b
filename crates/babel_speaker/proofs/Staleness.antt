-- A walk over the prefixes finds those whose selection isn't current.
use Rattle.std.specs.Prelude.{◌≡◌, ◌⊎◌, ℕ, ◌+◌, ◌<◌, ◌≤◌, Bool, true, false, cond, not, ◌||◌, List, [], ◌∷◌, map, filter, length, Option, None, is_some}
use Rattle.std.specs.Option.{option_map}
use Rattle.std.specs.Ordering.{is_eq, eq_by_cmp}
use Rattle.std.specs.Cmp.{tied_itself}
use Rattle.std.specs.FinMap.{find, put}
use Rattle.std.proofs.Common.{refl, sym, ◌∙◌, ap, subst, inl, inr, arith}
use Rattle.std.proofs.lemmas.Bool.{false≢true}
use Rattle.std.proofs.lemmas.List.Folds.{list_any-append}
use Rattle.babel_value.specs.declared.keys.Peer.{Peer}
use Rattle.babel_value.specs.Orders.{prefix_cmp}
use Rattle.babel_value.specs.Prefixes.{PrefixValue}
use Rattle.babel_value.proofs.OrderLaws.{prefix_total, prefix_exact}
use Rattle.babel_value.proofs.Orderings.{equal}
use Rattle.babel_table.specs.Entries.{without}
use Rattle.babel_table.specs.Firsts.{first_of}
use Rattle.babel_table.proofs.LookupLemmas.{eq_turned, find_with_value}
use Rattle.babel_choice.specs.declared.entries.Selection.{Selection}
use Rattle.babel_route.specs.Currency.{is_same_selection, is_current}
use Rattle.babel_choice.specs.Choices.{others_of, Selections, is_of, routes_of, is_candidate, preference, peer_before, selection_of, choice}
use Rattle.babel_route.specs.PrefixWalks.{without_prefix}
use Rattle.babel_route.specs.RouteLaws.{is_among}
use Rattle.babel_choice.specs.Routes.{RouteEntries}
use Rattle.babel_route.specs.Selections.{RoutesValue, prefixes_of, selection_at}
use Rattle.babel_sources.specs.Sources.{Sources}
use Rattle.babel_state.specs.Sameness.{has_prefix}
use Rattle.babel_state.specs.State.{PrefixSet, prefixes_in}
use Rattle.babel_state.proofs.CurrentLaws.{has_put}
use Rattle.babel_speaker.specs.StalePrefixes.{is_stale}

-- ---- what is left after a prefix

others_routes : (p q : PrefixValue) (es : RouteEntries) → eq_by_cmp prefix_cmp p q ≡ false → routes_of p (others_of q es) ≡ routes_of p es
others_routes p q [] other = refl
others_routes p q (e ∷ es) other = by (is_of q e) (is_of p e) refl refl (others_routes p q es other)
  where
    by : (b here : Bool) → is_of q e ≡ b → is_of p e ≡ here → routes_of p (others_of q es) ≡ routes_of p es → routes_of p (cond (not b) (e ∷ others_of q es) (others_of q es)) ≡ cond here (e ∷ routes_of p es) (routes_of p es)
    by true true b here rest =
        let one : e.0.prefix ≡ p = prefix_exact e.0.prefix p (equal (prefix_cmp e.0.prefix p) here) in
        absurd (false≢true (sym other ∙ eq_turned prefix_cmp prefix_total p q ∙ eq_turned prefix_cmp prefix_total q p ∙ subst (λ x. eq_by_cmp prefix_cmp x q ≡ true) one b))
    by true false b here rest = rest
    by false true b here rest = rw here (ap (λ fs. e ∷ fs) rest)
    by false false b here rest = rw here rest

none_left : (p : PrefixValue) (es : RouteEntries) → routes_of p (others_of p es) ≡ []
none_left p [] = refl
none_left p (e ∷ es) = by (is_of p e) refl (none_left p es)
  where
    by : (b : Bool) → is_of p e ≡ b → routes_of p (others_of p es) ≡ [] → routes_of p (cond (not b) (e ∷ others_of p es) (others_of p es)) ≡ []
    by true here rest = rest
    by false here rest = rw here rest

others_selected : (p q : PrefixValue) (ss : Selections) → eq_by_cmp prefix_cmp p q ≡ false → find prefix_cmp p (without prefix_cmp q ss) ≡ find prefix_cmp p ss
others_selected p q ss other = find_with_value prefix_cmp prefix_total prefix_exact p q None ss ∙ ap (λ b. cond b None (find prefix_cmp p ss)) other

none_selected : (p : PrefixValue) (ss : Selections) → find prefix_cmp p (without prefix_cmp p ss) ≡ None
none_selected p ss = find_with_value prefix_cmp prefix_total prefix_exact p p None ss ∙ ap (λ o. cond (is_eq o) None (find prefix_cmp p ss)) (tied_itself prefix_total p)

-- The tables have the same of the prefix.
pub record IsSame (p : PrefixValue) (one other : RoutesValue) : Type 0 where
  pub routes : routes_of p one.entries ≡ routes_of p other.entries
  pub selection : selection_at p one ≡ selection_at p other

abbrev pub empty : RoutesValue
empty = record { entries = []; selections = [] }

same_past : (p q : PrefixValue) (one other : RoutesValue) → eq_by_cmp prefix_cmp p q ≡ false → IsSame p one other → IsSame p (without_prefix q one) other
same_past p q one other differs same =
    record { routes = others_routes p q one.entries differs ∙ same.routes; selection = others_selected p q one.selections differs ∙ same.selection }

none_past : (p : PrefixValue) (routes : RoutesValue) → IsSame p (without_prefix p routes) empty
none_past p routes = record { routes = none_left p routes.entries; selection = none_selected p routes.selections }

-- ---- whether a selection is current depends on the routes and the selection of its prefix alone

module _ (sources : Sources) (cost : Peer → ℕ) where
  same_choice : (p : PrefixValue) (local : Bool) (before : Option Selection) (es fs : RouteEntries) → routes_of p es ≡ routes_of p fs → choice sources cost p local before es ≡ choice sources cost p local before fs
  same_choice p true before es fs same = refl
  same_choice p false before es fs same = ap (λ routes. option_map selection_of (first_of (preference cost (peer_before before)) (filter (is_candidate sources cost) routes))) same

  same_current : (p : PrefixValue) (local : Bool) (one other : RoutesValue) → IsSame p one other → is_current sources cost p local one ≡ is_current sources cost p local other
  same_current p local one other same =
      ap (λ before. is_same_selection before (choice sources cost p local before one.entries)) same.selection
      ∙ ap (is_same_selection (selection_at p other)) (same_choice p local (selection_at p other) one.entries other.entries same.routes)

  none_current : (p : PrefixValue) (local : Bool) → is_current sources cost p local empty ≡ true
  unfolding is_same_selection
  none_current p true = refl
  none_current p false = refl

-- ---- the walk

has_itself : (q : PrefixValue) (set : PrefixSet) → has_prefix q (prefixes_in (put prefix_cmp q tt set)) ≡ true
has_itself q set = has_put q q set ∙ ap (λ o. is_eq o || has_prefix q (prefixes_in set)) (tied_itself prefix_total q)

has_other : (p q : PrefixValue) (set : PrefixSet) → eq_by_cmp prefix_cmp p q ≡ false → has_prefix p (prefixes_in (put prefix_cmp q tt set)) ≡ has_prefix p (prefixes_in set)
has_other p q set differs = has_put p q set ∙ ap (λ b. b || has_prefix p (prefixes_in set)) differs

module _ (sources : Sources) (cost : Peer → ℕ) (announced : PrefixSet) (routes : RoutesValue) where
  abbrev is_own : PrefixValue → Bool
  is_own p = is_some (find prefix_cmp p announced)

  -- The prefix is passed, and in the set if it's stale; or it is still to come.
  abbrev pub IsDone : PrefixSet → RoutesValue → PrefixValue → Type 0
  IsDone set rest p =
      ((has_prefix p (prefixes_in set) ≡ is_stale sources cost announced routes p) × IsSame p rest empty)
      ⊎ ((has_prefix p (prefixes_in set) ≡ false) × IsSame p rest routes)

  abbrev pub AreDone : PrefixSet → RoutesValue → Type 0
  AreDone set rest = (p : PrefixValue) → IsDone set rest p

  pub all_done : (set : PrefixSet) → AreDone set empty → (p : PrefixValue) → has_prefix p (prefixes_in set) ≡ is_stale sources cost announced routes p
  all_done set done p = by (done p)
    where
      by : IsDone set empty p → has_prefix p (prefixes_in set) ≡ is_stale sources cost announced routes p
      by (inl passed) = passed.0
      by (inr ahead) = ahead.0 ∙ sym (ap not (sym (same_current sources cost p (is_own p) empty routes ahead.1) ∙ none_current sources cost p (is_own p)))

  -- the set and the rest after a prefix
  step_at : (q : PrefixValue) (set new : PrefixSet) (rest : RoutesValue) → ((p : PrefixValue) → eq_by_cmp prefix_cmp p q ≡ false → has_prefix p (prefixes_in new) ≡ has_prefix p (prefixes_in set)) → IsDone new (without_prefix q rest) q → AreDone set rest → AreDone new (without_prefix q rest)
  step_at q set new rest same here done p = by (eq_by_cmp prefix_cmp p q) refl (done p)
    where
      by : (b : Bool) → eq_by_cmp prefix_cmp p q ≡ b → IsDone set rest p → IsDone new (without_prefix q rest) p
      by true is one = subst (IsDone new (without_prefix q rest)) (sym (prefix_exact p q (equal (prefix_cmp p q) is))) here
      by false is (inl passed) = inl (same p is ∙ passed.0, same_past p q rest empty is passed.1)
      by false is (inr ahead) = inr (same p is ∙ ahead.0, same_past p q rest routes is ahead.1)

  pub step_current : (q : PrefixValue) (set : PrefixSet) (rest : RoutesValue) → is_current sources cost q (is_own q) rest ≡ true → AreDone set rest → AreDone set (without_prefix q rest)
  step_current q set rest current done = step_at q set set rest (λ p differs. refl) (by (done q)) done
    where
      by : IsDone set rest q → IsDone set (without_prefix q rest) q
      by (inl passed) = inl (passed.0, none_past q rest)
      by (inr ahead) = inl (ahead.0 ∙ sym (ap not (sym (same_current sources cost q (is_own q) rest routes ahead.1) ∙ current)), none_past q rest)

  pub step_stale : (q : PrefixValue) (set : PrefixSet) (rest : RoutesValue) → is_current sources cost q (is_own q) rest ≡ false → AreDone set rest → AreDone (put prefix_cmp q tt set) (without_prefix q rest)
  step_stale q set rest stale done = step_at q set (put prefix_cmp q tt set) rest (λ p differs. has_other p q set differs) (by (done q)) done
    where
      by : IsDone set rest q → IsDone (put prefix_cmp q tt set) (without_prefix q rest) q
      by (inl passed) = absurd (false≢true (sym stale ∙ same_current sources cost q (is_own q) rest empty passed.1 ∙ none_current sources cost q (is_own q)))
      by (inr ahead) = inl (has_itself q set ∙ sym (ap not (sym (same_current sources cost q (is_own q) rest routes ahead.1) ∙ stale)), none_past q rest)

  -- ---- the same of the values after a step, by what they are equal to

  same_test : (q : PrefixValue) (own passed : Bool) (rest : RoutesValue) → own ≡ is_own q → passed ≡ is_current sources cost q own rest → is_current sources cost q (is_own q) rest ≡ passed
  same_test q own passed rest same test = ap (λ local. is_current sources cost q local rest) (sym same) ∙ sym test

  pub after_current : (q : PrefixValue) (own : Bool) (set : PrefixSet) (rest left : RoutesValue) → own ≡ is_own q → left ≡ without_prefix q rest → true ≡ is_current sources cost q own rest → AreDone set rest → AreDone set left
  after_current q own set rest left same is current done = subst (AreDone set) (sym is) (step_current q set rest (same_test q own true rest same current) done)

  pub after_stale : (q : PrefixValue) (own : Bool) (set new : PrefixSet) (rest left : RoutesValue) → own ≡ is_own q → new ≡ put prefix_cmp q tt set → left ≡ without_prefix q rest → false ≡ is_current sources cost q own rest → AreDone set rest → AreDone new left
  after_stale q own set new rest left same more is stale done =
      subst (AreDone new) (sym is) (subst (λ (s : PrefixSet). AreDone s (without_prefix q rest)) (sym more) (step_stale q set rest (same_test q own false rest same stale) done))

-- ---- the walk ends

abbrev pub size : RoutesValue → ℕ
size routes = length routes.entries + length routes.selections

at_most : {X : Type 0} (f : X → Bool) (xs : List X) → length (filter f xs) ≤ length xs
at_most f [] = omega arith
at_most f (x ∷ xs) = by (f x) refl (at_most f xs)
  where
    by : (b : Bool) → f x ≡ b → length (filter f xs) ≤ length xs → length (filter f (x ∷ xs)) ≤ length (x ∷ xs)
    by true is rest = rw is (omega (arith, rest))
    by false is rest = rw is (omega (arith, rest))

fewer : {X : Type 0} (p : PrefixValue) (key : X → PrefixValue) (f : X → Bool) → ((x : X) → f x ≡ not (eq_by_cmp prefix_cmp p (key x))) → (xs : List X) → is_among p (map key xs) ≡ true → length (filter f xs) < length xs
fewer p key f is [] among = absurd (false≢true among)
fewer p key f is (x ∷ xs) among = by (eq_by_cmp prefix_cmp p (key x)) (is x) among (at_most f xs) (fewer p key f is xs)
  where
    by : (b : Bool) → f x ≡ not b → (b || is_among p (map key xs)) ≡ true → length (filter f xs) ≤ length xs → (is_among p (map key xs) ≡ true → length (filter f xs) < length xs) → length (filter f (x ∷ xs)) < length (x ∷ xs)
    by true here among most less = rw here (omega (arith, most))
    by false here among most less = rw here (omega (arith, less among))

pub passed_less : (p : PrefixValue) (routes : RoutesValue) → is_among p (prefixes_of routes) ≡ true → size (without_prefix p routes) < size routes
passed_less p routes among = by (is_among p (map (λ e. e.0.prefix) routes.entries)) refl (sym (list_any-append (eq_by_cmp prefix_cmp p) (map (λ e. e.0.prefix) routes.entries) (map (λ s. s.0) routes.selections)) ∙ among)
  where
    entries : length (others_of p routes.entries) ≤ length routes.entries
    entries = at_most (λ e. not (is_of p e)) routes.entries

    selections : length (without prefix_cmp p routes.selections) ≤ length routes.selections
    selections = at_most (λ s. not (eq_by_cmp prefix_cmp p s.0)) routes.selections

    by : (b : Bool) → is_among p (map (λ e. e.0.prefix) routes.entries) ≡ b → (b || is_among p (map (λ s. s.0) routes.selections)) ≡ true → size (without_prefix p routes) < size routes
    by true here there = omega (arith, selections, fewer p (λ e. e.0.prefix) (λ e. not (is_of p e)) (λ e. ap not (eq_turned prefix_cmp prefix_total e.0.prefix p)) routes.entries here)
    by false here there = omega (arith, entries, fewer p (λ s. s.0) (λ s. not (eq_by_cmp prefix_cmp p s.0)) (λ s. refl) routes.selections there)

pub left_less : (p : PrefixValue) (routes left : RoutesValue) → left ≡ without_prefix p routes → is_among p (prefixes_of routes) ≡ true → size left < size routes
left_less p routes left is among = subst (λ (w : RoutesValue). size w < size routes) (sym is) (passed_less p routes among)
