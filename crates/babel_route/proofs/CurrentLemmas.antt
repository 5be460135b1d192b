-- A selection that a reselection left is the one that another reselection would leave.
use Rattle.std.proofs.Common.{◌≡◌, ℕ, zero, suc, Bool, true, false, cond, not, ◌||◌, List, [], ◌∷◌, ◌++◌, map, filter, slice_get, Option, Some, None, option_map, refl, sym, ap, subst, ◌∙◌, arith}
use Rattle.std.proofs.lemmas.Bool.{false≢true}
use Rattle.std.proofs.lemmas.Option.{same_Some, none-some}
use Rattle.std.specs.declared.cmp.Ordering.TheVariants.{Equal}
use Rattle.std.specs.Ordering.{is_lt, is_eq, eq_by_cmp, nat_cmp, bool_cmp, ordering_then}
use Rattle.std.proofs.lemmas.Map.Keys.{ge_from_not_lt}
use Rattle.std.specs.Cmp.{IsTotalOrder, tied_itself, on_total, then_total, nat_cmp_total, bool_cmp_total}
use Rattle.std.specs.FinMap.{find, is_sorted}
use Rattle.babel_value.specs.declared.keys.Peer.{Peer}
use Rattle.babel_value.specs.Prefixes.{PrefixValue}
use Rattle.babel_value.specs.Orders.{prefix_cmp, peer_cmp}
use Rattle.babel_value.proofs.OrderLaws.{prefix_total, prefix_exact, peer_total, peer_exact}
use Rattle.babel_value.proofs.Orderings.{first_not_less, equal}
use Rattle.babel_choice.specs.declared.entries.Entry.{Entry}
use Rattle.babel_choice.specs.declared.entries.Selection.{Selection}
use Rattle.babel_sources.specs.Sources.{Sources}
use Rattle.babel_choice.specs.RouteKeys.{route_cmp, route_total}
use Rattle.babel_choice.specs.Routes.{Route, RouteEntries, key_of}
use Rattle.babel_table.specs.Firsts.{first_of, IsFirst}
use Rattle.babel_route.specs.RouteLaws.{each_reselected, is_among}
use Rattle.babel_choice.specs.Choices.{is_of, routes_of, is_candidate, candidates, rank_cmp, rank_of, preference, selection_of, peer_before, choice, is_change, route_metric, Selections}
use Rattle.babel_route.specs.Selections.{RoutesValue, selection_at, choice_at, reselected, IsCurrent, SelectsTheFirst, prefixes_of}
use Rattle.babel_table.proofs.PlaceLemmas.{find_hit}
use Rattle.babel_table.proofs.FirstLemmas.{first_is_first, is_first, none_first}
use Rattle.babel_table.specs.Entries.{with_value}
use Rattle.babel_table.proofs.LookupLemmas.{find_with_value, eq_turned, with_value_same}

rank_total : IsTotalOrder rank_cmp
rank_total =
    then_total (on_total (λ r. r.metric) nat_cmp_total)
    (then_total (on_total (λ r. r.is_change) bool_cmp_total) (on_total (λ r. r.peer) peer_total))

pub preference_total : (cost : Peer → ℕ) (before : Option Peer) → IsTotalOrder (preference cost before)
preference_total cost before = on_total (rank_of cost before) rank_total

-- what a filter leaves passes, and was there
pub in_filter : {X : Type 0} (p : X → Bool) (xs : List X) (i : ℕ) (x : X) → slice_get (filter p xs) i ≡ Some x → (p x ≡ true) × ((j : ℕ) × (slice_get xs j ≡ Some x))
in_filter p [] i x at = absurd (none-some x at)
in_filter {X} p (y ∷ xs) i x at = by (p y) refl i (λ i at. in_filter p xs i x at) at
  where
    later : (p x ≡ true) × ((j : ℕ) × (slice_get xs j ≡ Some x)) → (p x ≡ true) × ((j : ℕ) × (slice_get (y ∷ xs) j ≡ Some x))
    later found = (found.0, (suc found.1.0, found.1.1))

    by : (b : Bool) → p y ≡ b → (i : ℕ) → ((i : ℕ) → slice_get (filter p xs) i ≡ Some x → (p x ≡ true) × ((j : ℕ) × (slice_get xs j ≡ Some x))) → slice_get (cond b (y ∷ filter p xs) (filter p xs)) i ≡ Some x → (p x ≡ true) × ((j : ℕ) × (slice_get (y ∷ xs) j ≡ Some x))
    by true here zero rest at = (subst (λ z. p z ≡ true) (same_Some y x at) here, (zero, at))
    by true here (suc i) rest at = later (rest i at)
    by false here i rest at = later (rest i at)

-- a route among the candidates of a prefix is what its neighbour advertises of it
pub record IsEntryAt (sources : Sources) (cost : Peer → ℕ) (prefix : PrefixValue) (es : RouteEntries) (route : Route) : Type 0 where
  pub key : route.0 ≡ key_of prefix route.0.peer
  pub updated_by : find route_cmp (key_of prefix route.0.peer) es ≡ Some route.1
  pub candidate : is_candidate sources cost (key_of prefix route.0.peer, route.1) ≡ true

pub is_entry_at : (sources : Sources) (cost : Peer → ℕ) (prefix : PrefixValue) (es : RouteEntries) (i : ℕ) (route : Route) → is_sorted route_cmp es ≡ true → slice_get (candidates sources cost prefix false es) i ≡ Some route → IsEntryAt sources cost prefix es route
is_entry_at sources cost prefix es i route sorted at =
    let passes = in_filter (is_candidate sources cost) (routes_of prefix es) i route at in
    let there = in_filter (is_of prefix) es passes.1.0 route passes.1.1 in
    let same : route.0.prefix ≡ prefix = prefix_exact route.0.prefix prefix (equal (prefix_cmp route.0.prefix prefix) there.0) in
    let key : route.0 ≡ key_of prefix route.0.peer = ap (λ (p : PrefixValue). key_of p route.0.peer) same in
    record {
      key = key;
      updated_by = subst (λ k. find route_cmp k es ≡ Some route.1) key (find_hit route_cmp route_total es there.1.0 route sorted there.1.1);
      candidate = subst (λ k. is_candidate sources cost (k, route.1) ≡ true) key passes.0;
    }

pub chosen_is_candidate : (sources : Sources) (cost : Peer → ℕ) (prefix : PrefixValue) (local : Bool) (before : Option Selection) (es : RouteEntries) (s : Selection) → is_sorted route_cmp es ≡ true → choice sources cost prefix local before es ≡ Some s → (local ≡ false) × (find route_cmp (key_of prefix s.peer) es ≡ Some s.entry) × (is_candidate sources cost (key_of prefix s.peer, s.entry) ≡ true)
chosen_is_candidate sources cost prefix true before es s sorted chosen = absurd (none-some s chosen)
chosen_is_candidate sources cost prefix false before es s sorted chosen = by (first_of (preference cost (peer_before before)) (candidates sources cost prefix false es)) refl chosen
  where
    by : (first : Option Route) → first_of (preference cost (peer_before before)) (candidates sources cost prefix false es) ≡ first → option_map selection_of first ≡ Some s → (false ≡ false) × (find route_cmp (key_of prefix s.peer) es ≡ Some s.entry) × (is_candidate sources cost (key_of prefix s.peer, s.entry) ≡ true)
    by None is chosen = absurd (none-some s chosen)
    by (Some route) is chosen =
        let first = is_first (preference cost (peer_before before)) (preference_total cost (peer_before before)) (candidates sources cost prefix false es) route is in
        let updated_by = is_entry_at sources cost prefix es first.place route sorted first.at in
        subst (λ (t : Selection). (false ≡ false) × (find route_cmp (key_of prefix t.peer) es ≡ Some t.entry) × (is_candidate sources cost (key_of prefix t.peer, t.entry) ≡ true)) (same_Some (selection_of route) s chosen)
        (refl, updated_by.updated_by, updated_by.candidate)

-- ---- a choice made again

-- where neither comes before the other, once by the neighbour before and once by the one chosen, they are of one neighbour
pub same_peer : (cost : Peer → ℕ) (before : Option Peer) (q r : Route) → is_lt (preference cost before q r) ≡ false → is_lt (preference cost (Some r.0.peer) r q) ≡ false → q.0.peer ≡ r.0.peer
same_peer cost before q r not_before not_after = by (eq_by_cmp peer_cmp q.0.peer r.0.peer) refl
  where
    metric : Route → ℕ
    metric = route_metric cost

    change : Peer → Bool
    change = is_change (Some r.0.peer)

    same : metric r ≡ metric q
    same = omega (arith, ge_from_not_lt (metric q) (metric r) (first_not_less (nat_cmp (metric q) (metric r)) _ not_before), ge_from_not_lt (metric r) (metric q) (first_not_less (nat_cmp (metric r) (metric q)) _ not_after))

    tie : nat_cmp (metric r) (metric q) ≡ Equal
    tie = subst (λ m. nat_cmp (metric r) m ≡ Equal) same (tied_itself nat_cmp_total (metric r))

    unchanged : change r.0.peer ≡ false
    unchanged = ap (λ o. not (is_eq o)) (tied_itself peer_total r.0.peer)

    rest : is_lt (ordering_then (bool_cmp false (change q.0.peer)) (peer_cmp r.0.peer q.0.peer)) ≡ false
    rest = subst (λ b. is_lt (ordering_then (bool_cmp b (change q.0.peer)) (peer_cmp r.0.peer q.0.peer)) ≡ false) unchanged (subst (λ o. is_lt (ordering_then o (ordering_then (bool_cmp (change r.0.peer) (change q.0.peer)) (peer_cmp r.0.peer q.0.peer))) ≡ false) tie not_after)

    by : (b : Bool) → eq_by_cmp peer_cmp q.0.peer r.0.peer ≡ b → q.0.peer ≡ r.0.peer
    by true here = peer_exact q.0.peer r.0.peer (equal (peer_cmp q.0.peer r.0.peer) here)
    by false here = absurd (false≢true (sym (subst (λ b. is_lt (ordering_then (bool_cmp false (not b)) (peer_cmp r.0.peer q.0.peer)) ≡ false) here rest)))

chosen_again : (sources : Sources) (cost : Peer → ℕ) (prefix : PrefixValue) (local : Bool) (before : Option Selection) (es : RouteEntries) → is_sorted route_cmp es ≡ true → choice sources cost prefix local (choice sources cost prefix local before es) es ≡ choice sources cost prefix local before es
chosen_again sources cost prefix true before es sorted = refl
chosen_again sources cost prefix false before es sorted = by (first_of (preference cost (peer_before before)) (candidates sources cost prefix false es)) refl
  where
    by : (first : Option Route) → first_of (preference cost (peer_before before)) (candidates sources cost prefix false es) ≡ first → choice sources cost prefix false (choice sources cost prefix false before es) es ≡ choice sources cost prefix false before es
    by None is =
        let none = none_first (preference cost (peer_before before)) (preference_total cost (peer_before before)) (candidates sources cost prefix false es) is in
        subst (λ cs. option_map selection_of (first_of (preference cost (peer_before (option_map selection_of (first_of (preference cost (peer_before before)) cs)))) cs) ≡ option_map selection_of (first_of (preference cost (peer_before before)) cs)) (sym none) refl
    by (Some r) is =
        subst (λ first. option_map selection_of (first_of (preference cost (peer_before (option_map selection_of first))) (candidates sources cost prefix false es)) ≡ option_map selection_of first) (sym is)
        (again (first_of (preference cost (Some r.0.peer)) (candidates sources cost prefix false es)) refl)
      where
        one : IsFirst (preference cost (peer_before before)) (candidates sources cost prefix false es) r
        one = is_first (preference cost (peer_before before)) (preference_total cost (peer_before before)) (candidates sources cost prefix false es) r is

        again : (next : Option Route) → first_of (preference cost (Some r.0.peer)) (candidates sources cost prefix false es) ≡ next → option_map selection_of next ≡ Some (selection_of r)
        again None none =
            let empty = none_first (preference cost (Some r.0.peer)) (preference_total cost (Some r.0.peer)) (candidates sources cost prefix false es) none in
            absurd (none-some r (subst (λ cs. slice_get cs one.place ≡ Some r) empty one.at))
        again (Some q) next =
            let other = is_first (preference cost (Some r.0.peer)) (preference_total cost (Some r.0.peer)) (candidates sources cost prefix false es) q next in
            let peer = same_peer cost (peer_before before) q r (one.before_all other.place q other.at) (other.before_all one.place r one.at) in
            let updated_by = is_entry_at sources cost prefix es one.place r sorted one.at in
            let entry_too = is_entry_at sources cost prefix es other.place q sorted other.at in
            let entry : q.1 ≡ r.1 = same_Some q.1 r.1 (sym entry_too.updated_by ∙ ap (λ p. find route_cmp (key_of prefix p) es) peer ∙ updated_by.updated_by) in
            ap (λ (e : Peer × Entry). Some (record { peer = e.0; entry = e.1 })) (λ i. (peer i, entry i))

-- ---- what is current
module _ (sources : Sources) (cost : Peer → ℕ) (is_local : PrefixValue → Bool) where
  pub current_after : (p : PrefixValue) (routes : RoutesValue) → is_sorted route_cmp routes.entries ≡ true → IsCurrent sources cost p (is_local p) (reselected sources cost p (is_local p) routes)
  current_after p routes sorted =
      let chosen = choice_at sources cost p (is_local p) routes in
      let here : selection_at p (reselected sources cost p (is_local p) routes) ≡ chosen =
      find_with_value prefix_cmp prefix_total prefix_exact p p chosen routes.selections ∙ ap (λ o. cond (is_eq o) chosen (selection_at p routes)) (tied_itself prefix_total p) in
      subst (λ s. s ≡ choice sources cost p (is_local p) s routes.entries) (sym here) (sym (chosen_again sources cost p (is_local p) (selection_at p routes) routes.entries sorted))

  pub still_current : (p q : PrefixValue) (routes : RoutesValue) → is_sorted route_cmp routes.entries ≡ true → IsCurrent sources cost p (is_local p) routes → IsCurrent sources cost p (is_local p) (reselected sources cost q (is_local q) routes)
  still_current p q routes sorted current = by (eq_by_cmp prefix_cmp p q) refl
    where
      by : (b : Bool) → eq_by_cmp prefix_cmp p q ≡ b → IsCurrent sources cost p (is_local p) (reselected sources cost q (is_local q) routes)
      by true here =
          subst (λ r. IsCurrent sources cost p (is_local p) (reselected sources cost r (is_local r) routes)) (prefix_exact p q (equal (prefix_cmp p q) here)) (current_after p routes sorted)
      by false here =
          let kept = find_with_value prefix_cmp prefix_total prefix_exact p q (choice_at sources cost q (is_local q) routes) routes.selections ∙ ap (λ b. cond b (choice_at sources cost q (is_local q) routes) (selection_at p routes)) here in
          subst (λ s. s ≡ choice sources cost p (is_local p) s routes.entries) (sym kept) current

  current_on : (ps : List PrefixValue) (p : PrefixValue) (routes : RoutesValue) → is_sorted route_cmp routes.entries ≡ true → IsCurrent sources cost p (is_local p) routes → IsCurrent sources cost p (is_local p) (each_reselected sources cost is_local ps routes)
  current_on [] p routes sorted current = current
  current_on (q ∷ ps) p routes sorted current = current_on ps p (reselected sources cost q (is_local q) routes) sorted (still_current p q routes sorted current)

  each_current : (ps : List PrefixValue) (p : PrefixValue) (routes : RoutesValue) → is_sorted route_cmp routes.entries ≡ true → is_among p ps ≡ true → IsCurrent sources cost p (is_local p) (each_reselected sources cost is_local ps routes)
  each_current [] p routes sorted among = absurd (false≢true among)
  each_current (q ∷ ps) p routes sorted among =
      by (eq_by_cmp prefix_cmp p q) refl among (each_current ps p (reselected sources cost q (is_local q) routes) sorted)
    where
      by : (b : Bool) → eq_by_cmp prefix_cmp p q ≡ b → b || is_among p ps ≡ true → (is_among p ps ≡ true → IsCurrent sources cost p (is_local p) (each_reselected sources cost is_local ps (reselected sources cost q (is_local q) routes))) → IsCurrent sources cost p (is_local p) (each_reselected sources cost is_local ps (reselected sources cost q (is_local q) routes))
      by true here among rest =
          current_on ps p (reselected sources cost q (is_local q) routes) sorted
          (subst (λ r. IsCurrent sources cost p (is_local p) (reselected sources cost r (is_local r) routes)) (prefix_exact p q (equal (prefix_cmp p q) here)) (current_after p routes sorted))
      by false here among rest = rest among

  -- ---- a prefix without an entry and without a selection
  nothing_selected : (p : PrefixValue) (ss : Selections) → is_among p (map (λ s. s.0) ss) ≡ false → find prefix_cmp p ss ≡ None
  nothing_selected p [] none = refl
  nothing_selected p (s ∷ ss) none = by (eq_by_cmp prefix_cmp p s.0) none (nothing_selected p ss)
    where
      by : (b : Bool) → b || is_among p (map (λ s. s.0) ss) ≡ false → (is_among p (map (λ s. s.0) ss) ≡ false → find prefix_cmp p ss ≡ None) → cond b (Some s.1) (find prefix_cmp p ss) ≡ None
      by true none rest = absurd (false≢true (sym none))
      by false none rest = rest none

  nothing_received : (p : PrefixValue) (es : RouteEntries) → is_among p (map (λ e. e.0.prefix) es) ≡ false → routes_of p es ≡ []
  nothing_received p [] none = refl
  nothing_received p (e ∷ es) none =
      rw (eq_turned prefix_cmp prefix_total e.0.prefix p) (by (eq_by_cmp prefix_cmp p e.0.prefix) none (nothing_received p es))
    where
      by : (b : Bool) → b || is_among p (map (λ e. e.0.prefix) es) ≡ false → (is_among p (map (λ e. e.0.prefix) es) ≡ false → routes_of p es ≡ []) → cond b (e ∷ routes_of p es) (routes_of p es) ≡ []
      by true none rest = absurd (false≢true (sym none))
      by false none rest = rest none

  neither : (p : PrefixValue) (ps qs : List PrefixValue) → is_among p (ps ++ qs) ≡ false → (is_among p ps ≡ false) × (is_among p qs ≡ false)
  neither p [] qs none = (refl, none)
  neither p (r ∷ ps) qs none = by (eq_by_cmp prefix_cmp p r) none (neither p ps qs)
    where
      by : (b : Bool) → b || is_among p (ps ++ qs) ≡ false → (is_among p (ps ++ qs) ≡ false → (is_among p ps ≡ false) × (is_among p qs ≡ false)) → (b || is_among p ps ≡ false) × (is_among p qs ≡ false)
      by true none rest = absurd (false≢true (sym none))
      by false none rest = rest none

  pub idle_current : (p : PrefixValue) (routes : RoutesValue) → is_among p (prefixes_of routes) ≡ false → IsCurrent sources cost p (is_local p) routes
  idle_current p routes none =
      let parts = neither p (map (λ e. e.0.prefix) routes.entries) (map (λ s. s.0) routes.selections) none in
      let unselected = nothing_selected p routes.selections parts.1 in
      unselected ∙ by (is_local p) (nothing_received p routes.entries parts.0)
    where
      by : (local : Bool) → routes_of p routes.entries ≡ [] → None ≡ choice_at sources cost p local routes
      by true empty = refl
      by false empty = ap (λ es. option_map selection_of (first_of (preference cost (peer_before (selection_at p routes))) (filter (is_candidate sources cost) es))) (sym empty)

  pub all_current : (ps : List PrefixValue) (routes : RoutesValue) (p : PrefixValue) → is_sorted route_cmp routes.entries ≡ true → (is_among p (prefixes_of routes) ≡ true → is_among p ps ≡ true) → IsCurrent sources cost p (is_local p) (each_reselected sources cost is_local ps routes)
  all_current ps routes p sorted within = by (is_among p (prefixes_of routes)) refl
    where
      by : (b : Bool) → is_among p (prefixes_of routes) ≡ b → IsCurrent sources cost p (is_local p) (each_reselected sources cost is_local ps routes)
      by true here = each_current ps p routes sorted (within here)
      by false here = current_on ps p routes sorted (idle_current p routes here)

  -- ---- nothing to reselect
  pub settled : (p : PrefixValue) (routes : RoutesValue) → is_sorted prefix_cmp routes.selections ≡ true → IsCurrent sources cost p (is_local p) routes → reselected sources cost p (is_local p) routes ≡ routes
  settled p routes sorted current =
      ap (λ (ss : Selections). record { entries = routes.entries; selections = ss })
      (with_value_same prefix_cmp prefix_total prefix_exact p (choice_at sources cost p (is_local p) routes) routes.selections sorted current)

  pub all_settled : (ps : List PrefixValue) (routes : RoutesValue) → is_sorted prefix_cmp routes.selections ≡ true → ((p : PrefixValue) → IsCurrent sources cost p (is_local p) routes) → each_reselected sources cost is_local ps routes ≡ routes
  all_settled [] routes sorted current = refl
  all_settled (p ∷ ps) routes sorted current =
      ap (each_reselected sources cost is_local ps) (settled p routes sorted (current p)) ∙ all_settled ps routes sorted current

-- A reselection changes nothing of tables whose selection is current.
pub unchanged_reselected : (sources : Sources) (cost : Peer → ℕ) (prefix : PrefixValue) (local : Bool) (inside routes : RoutesValue) → is_sorted prefix_cmp inside.selections ≡ true → inside ≡ routes → IsCurrent sources cost prefix local inside → routes ≡ reselected sources cost prefix local routes
unchanged_reselected sources cost prefix local inside routes sorted is current =
    sym (ap (reselected sources cost prefix local) (sym is) ∙ settled sources cost (λ q. local) prefix inside sorted current ∙ is)

-- ---- the selection that a reselection leaves
pub selected_here : (prefix : PrefixValue) (value : Option Selection) (ss : Selections) → find prefix_cmp prefix (with_value prefix_cmp prefix value ss) ≡ value
selected_here prefix value ss =
    find_with_value prefix_cmp prefix_total prefix_exact prefix prefix value ss ∙ ap (λ o. cond (is_eq o) value (find prefix_cmp prefix ss)) (tied_itself prefix_total prefix)

pub selects_first : (sources : Sources) (cost : Peer → ℕ) (prefix : PrefixValue) (local : Bool) (old new : RoutesValue) → new ≡ reselected sources cost prefix local old → SelectsTheFirst sources cost prefix local old new
selects_first sources cost prefix local old new is =
    let chosen = choice_at sources cost prefix local old in
    let order = preference cost (peer_before (selection_at prefix old)) in
    let routes = candidates sources cost prefix local old.entries in
    let here : selection_at prefix (reselected sources cost prefix local old) ≡ chosen =
    find_with_value prefix_cmp prefix_total prefix_exact prefix prefix chosen old.selections ∙ ap (λ o. cond (is_eq o) chosen (selection_at prefix old)) (tied_itself prefix_total prefix) in
    (first_of order routes, ap (selection_at prefix) is ∙ here, first_is_first order (preference_total cost (peer_before (selection_at prefix old))) routes)
