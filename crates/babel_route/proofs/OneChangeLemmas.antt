-- If the selection is another neighbour's, what a choice leaves follows from the selection and the routes of one neighbour.
use Rattle.std.proofs.Common.{◌≡◌, ℕ, zero, suc, Bool, true, false, cond, not, ◌&&◌, if◌then◌else◌, List, [], ◌∷◌, filter, slice_get, Option, Some, None, option_map, refl, sym, ap, subst, ◌∙◌}
use Rattle.std.proofs.lemmas.Option.{same_Some, none-some}
use Rattle.std.specs.Option.{option_map_or}
use Rattle.std.specs.declared.cmp.Ordering.{Ordering}
use Rattle.std.specs.declared.cmp.Ordering.TheVariants.{Less, Equal, Greater}
use Rattle.std.specs.Ordering.{is_lt, is_eq, eq_by_cmp, nat_cmp, bool_cmp, ordering_then, ordering_reverse}
use Rattle.std.specs.Cmp.{IsTotalOrder, tied_itself, nat_cmp_total}
use Rattle.std.specs.FinMap.{find, put, is_sorted}
use Rattle.babel_value.specs.declared.keys.Peer.{Peer}
use Rattle.babel_value.specs.Prefixes.{PrefixValue}
use Rattle.babel_value.specs.Orders.{prefix_cmp, peer_cmp}
use Rattle.babel_value.proofs.OrderLaws.{prefix_total, prefix_exact, peer_total, peer_exact}
use Rattle.babel_value.proofs.Orderings.{equal, first_not_less}
use Rattle.babel_table.specs.Firsts.{first_of, lesser_of}
use Rattle.babel_table.proofs.FirstLemmas.{first_of_row, is_first, none_first, rises}
use Rattle.babel_table.proofs.LookupLemmas.{eq_turned, find_with_value}
use Rattle.babel_table.proofs.PlaceLemmas.{find_hit}
use Rattle.babel_sources.specs.Sources.{Sources}
use Rattle.babel_choice.specs.declared.entries.Entry.{Entry}
use Rattle.babel_choice.specs.declared.entries.RouteKey.{RouteKey}
use Rattle.babel_choice.specs.declared.entries.Selection.{Selection}
use Rattle.babel_choice.specs.RouteKeys.{route_cmp, route_total, route_exact}
use Rattle.babel_choice.specs.Routes.{Route, RouteEntries, key_of, is_from, routes_but}
use Rattle.babel_choice.specs.Choices.{is_of, routes_of, is_candidate, candidates, route_metric, selection_metric, is_change, preference, selection_of, peer_before, overtakes, choice}
use Rattle.babel_route.specs.Selections.{RoutesValue, selection_at, choice_at, reselected, IsCurrent, IsCurrentBut}
use Rattle.babel_route.proofs.CurrentLemmas.{preference_total, in_filter, is_entry_at, current_after}

-- ---- parts of a list

filters_turned : {X : Type 0} (p q : X → Bool) (xs : List X) → filter p (filter q xs) ≡ filter q (filter p xs)
filters_turned p q [] = refl
filters_turned p q (x ∷ xs) = by (p x) (q x) refl refl (filters_turned p q xs)
  where
    by : (b c : Bool) → p x ≡ b → q x ≡ c → filter p (filter q xs) ≡ filter q (filter p xs) → filter p (cond c (x ∷ filter q xs) (filter q xs)) ≡ filter q (cond b (x ∷ filter p xs) (filter p xs))
    by true true one other rest = rw one (rw other (ap (λ ys. x ∷ ys) rest))
    by true false one other rest = rw other rest
    by false true one other rest = rw one rest
    by false false one other rest = rest

into_filter : {X : Type 0} (p : X → Bool) (xs : List X) (j : ℕ) (x : X) → p x ≡ true → slice_get xs j ≡ Some x → (i : ℕ) × (slice_get (filter p xs) i ≡ Some x)
into_filter p [] j x passes at = absurd (none-some x at)
into_filter p (y ∷ ys) zero x passes at =
    let here : p y ≡ true = subst (λ z. p z ≡ true) (sym (same_Some y x at)) passes in
    (zero, rw here at)
into_filter p (y ∷ ys) (suc j) x passes at = by (p y) (into_filter p ys j x passes at)
  where
    by : (b : Bool) → (i : ℕ) × (slice_get (filter p ys) i ≡ Some x) → (i : ℕ) × (slice_get (cond b (y ∷ filter p ys) (filter p ys)) i ≡ Some x)
    by true rest = (suc rest.0, rest.1)
    by false rest = rest

-- the first of a list is the first of each part that has it
module _ {X : Type 0} (order : X → X → Ordering) (o : IsTotalOrder order) (q : X → Bool) where
  with_head : (y : X) (ys : List X) → first_of order (y ∷ ys) ≡ lesser_of order (Some y) (first_of order ys)
  with_head y ys = first_of_row order o (y ∷ []) ys

  head_stays : (y d : X) (ys : List X) → first_of order ys ≡ Some d → is_lt (order d y) ≡ false → lesser_of order (Some y) (first_of order (filter q ys)) ≡ Some y
  head_stays y d ys is ge = by (first_of order (filter q ys)) refl
    where
      by : (e : Option X) → first_of order (filter q ys) ≡ e → lesser_of order (Some y) e ≡ Some y
      by None found = refl
      by (Some e) found =
          let part = is_first order o (filter q ys) e found in
          let there = in_filter q ys part.place e part.at in
          let after = (is_first order o ys d is).before_all there.1.0 e there.1.1 in
          ap (λ b. Some (if b then e else y)) (rises order o y d e ge after)

  pub first_of_part : (xs : List X) (x : X) → first_of order xs ≡ Some x → q x ≡ true → first_of order (filter q xs) ≡ Some x
  first_of_part [] x is passes = absurd (none-some x is)
  first_of_part (y ∷ ys) x is passes = by (first_of order ys) refl (first_of_part ys) (sym (with_head y ys) ∙ is)
    where
      stays : y ≡ x → lesser_of order (Some y) (first_of order (filter q ys)) ≡ Some y → first_of order (filter q (y ∷ ys)) ≡ Some x
      stays same kept =
          let here : q y ≡ true = subst (λ z. q z ≡ true) (sym same) passes in
          ap (λ b. first_of order (cond b (y ∷ filter q ys) (filter q ys))) here ∙ with_head y (filter q ys) ∙ kept ∙ ap Some same

      passed : (b : Bool) (d : X) → is_lt (order d y) ≡ true → first_of order (filter q ys) ≡ Some d → first_of order (cond b (y ∷ filter q ys) (filter q ys)) ≡ Some d
      passed true d lt rest = with_head y (filter q ys) ∙ ap (lesser_of order (Some y)) rest ∙ ap (λ b. Some (if b then d else y)) lt
      passed false d lt rest = rest

      pick : (b : Bool) (d : X) → is_lt (order d y) ≡ b → first_of order ys ≡ Some d → ((e : X) → first_of order ys ≡ Some e → q e ≡ true → first_of order (filter q ys) ≡ Some e) → Some (if b then d else y) ≡ Some x → first_of order (filter q (y ∷ ys)) ≡ Some x
      pick true d lt first later found =
          passed (q y) d lt (later d first (subst (λ z. q z ≡ true) (sym (same_Some d x found)) passes)) ∙ found
      pick false d ge first later found = stays (same_Some y x found) (head_stays y d ys first ge)

      by : (d : Option X) → first_of order ys ≡ d → ((e : X) → first_of order ys ≡ Some e → q e ≡ true → first_of order (filter q ys) ≡ Some e) → lesser_of order (Some y) d ≡ Some x → first_of order (filter q (y ∷ ys)) ≡ Some x
      by None none later found =
          stays (same_Some y x found) (ap (λ zs. lesser_of order (Some y) (first_of order (filter q zs))) (none_first order o ys none))
      by (Some d) first later found = pick (is_lt (order d y)) d refl first later found

-- ---- a choice without the routes of a neighbour

abbrev is_other : Peer → Route → Bool
is_other peer e = not (is_from peer e.0)

candidates_but : (sources : Sources) (cost : Peer → ℕ) (peer : Peer) (prefix : PrefixValue) (es : RouteEntries) → candidates sources cost prefix false (routes_but peer es) ≡ filter (is_other peer) (candidates sources cost prefix false es)
candidates_but sources cost peer prefix es =
    ap (filter (is_candidate sources cost)) (filters_turned (is_of prefix) (is_other peer) es)
    ∙ filters_turned (is_candidate sources cost) (is_other peer) (routes_of prefix es)

-- a selection that is current is current but for the routes of any neighbour
pub current_but : (sources : Sources) (cost : Peer → ℕ) (peer : Peer) (prefix : PrefixValue) (local : Bool) (before : Option Selection) (es : RouteEntries) → before ≡ choice sources cost prefix local before es → is_change (peer_before before) peer ≡ true → before ≡ choice sources cost prefix local before (routes_but peer es)
current_but sources cost peer prefix true before es current other = current
current_but sources cost peer prefix false before es current other =
    by (first_of order cs) refl current
    ∙ ap (λ rs. option_map selection_of (first_of order rs)) (sym (candidates_but sources cost peer prefix es))
  where
    order : Route → Route → Ordering
    order = preference cost (peer_before before)

    cs : RouteEntries
    cs = candidates sources cost prefix false es

    by : (first : Option Route) → first_of order cs ≡ first → before ≡ option_map selection_of first → before ≡ option_map selection_of (first_of order (filter (is_other peer) cs))
    by None none is =
        is ∙ ap (λ rs. option_map selection_of (first_of order (filter (is_other peer) rs))) (sym (none_first order (preference_total cost (peer_before before)) cs none))
    by (Some x) first is =
        let passes : is_other peer x ≡ true = ap not (eq_turned peer_cmp peer_total x.0.peer peer) ∙ subst (λ b. is_change (peer_before b) peer ≡ true) is other in
        is ∙ ap (option_map selection_of) (sym (first_of_part order (preference_total cost (peer_before before)) (is_other peer) cs x first passes))

greater : (a : Ordering) → is_lt (ordering_then a Less) ≡ false → a ≡ Greater
greater Less h = cc
greater Equal h = cc
greater Greater h = refl

is_so : (b : Bool) → not b ≡ false → b ≡ true
is_so true h = refl
is_so false h = sym h

-- The route of the neighbour, and the selection of another one that is current but for that neighbour's routes.
module _ (sources : Sources) (cost : Peer → ℕ) (peer : Peer) (prefix : PrefixValue) (before : Option Selection) (es : RouteEntries) (place : ℕ) (route : Route) (sorted : is_sorted route_cmp es ≡ true) (at : slice_get es place ≡ Some route) (key : route.0 ≡ key_of prefix peer) (other : is_change (peer_before before) peer ≡ true) (current : before ≡ choice sources cost prefix false before (routes_but peer es)) where
  abbrev order : Route → Route → Ordering
  order = preference cost (peer_before before)

  total : IsTotalOrder order
  total = preference_total cost (peer_before before)

  abbrev cs : RouteEntries
  cs = candidates sources cost prefix false es

  part : before ≡ option_map selection_of (first_of order (filter (is_other peer) cs))
  part = current ∙ ap (λ rs. option_map selection_of (first_of order rs)) (candidates_but sources cost peer prefix es)

  abbrev is_lesser : Option Selection → Bool
  is_lesser selection = option_map_or (λ s. is_lt (nat_cmp (route_metric cost route) (selection_metric cost s))) selection true

  abbrev taken : Bool → Option Selection
  taken b = if b then Some (selection_of route) else before

  -- a candidate is in their list
  among : is_candidate sources cost route ≡ true → (i : ℕ) × (slice_get cs i ≡ Some route)
  among passes =
      let here : is_of prefix route ≡ true = ap (λ (k : RouteKey). eq_by_cmp prefix_cmp k.prefix prefix) key ∙ ap is_eq (tied_itself prefix_total prefix) in
      let listed = into_filter (is_of prefix) es place route here at in
      into_filter (is_candidate sources cost) (routes_of prefix es) listed.0 route passes listed.1

  -- there is no candidate
  none_taken : cs ≡ [] → taken (overtakes sources cost before route) ≡ before
  none_taken empty = by (is_candidate sources cost route) refl
    where
      by : (b : Bool) → is_candidate sources cost route ≡ b → taken (b && is_lesser before) ≡ before
      by true passes =
          let there = among passes in
          absurd (none-some route (subst (λ rs. slice_get rs there.0 ≡ Some route) empty there.1))
      by false passes = refl

  -- the first candidate is another neighbour's, so it is the selection
  other_taken : (x : Route) → first_of order cs ≡ Some x → before ≡ Some (selection_of x) → taken (overtakes sources cost before route) ≡ before
  other_taken x first is = by (is_candidate sources cost route) refl
    where
      by : (b : Bool) → is_candidate sources cost route ≡ b → taken (b && is_lesser before) ≡ before
      by true passes =
          let there = among passes in
          let after = (is_first order total cs x first).before_all there.0 route there.1 in
          ap taken (ap is_lesser is ∙ first_not_less (nat_cmp (route_metric cost route) (route_metric cost x)) _ after)
      by false passes = refl

  -- the first candidate is the neighbour's, so its metric is lesser than that of the selection
  lesser_metric : (x : Route) → first_of order cs ≡ Some x → x.0.peer ≡ peer → (s : Selection) → before ≡ Some s → is_lt (nat_cmp (route_metric cost x) (selection_metric cost s)) ≡ true
  lesser_metric x first from s is = by (first_of order (filter (is_other peer) cs)) refl
    where
      by : (y : Option Route) → first_of order (filter (is_other peer) cs) ≡ y → is_lt (nat_cmp (route_metric cost x) (selection_metric cost s)) ≡ true
      by None none = absurd (none-some s (sym (part ∙ ap (option_map selection_of) none) ∙ is))
      by (Some y) found =
          let selected : before ≡ Some (selection_of y) = part ∙ ap (option_map selection_of) found in
          let same : s ≡ selection_of y = same_Some s (selection_of y) (sym is ∙ selected) in
          let in_part = is_first order total (filter (is_other peer) cs) y found in
          let there = in_filter (is_other peer) cs in_part.place y in_part.at in
          let after : is_lt (order y x) ≡ false = (is_first order total cs x first).before_all there.1.0 y there.1.1 in
          let stays : is_change (peer_before before) y.0.peer ≡ false = ap (λ b. is_change (peer_before b) y.0.peer) selected ∙ ap (λ r. not (is_eq r)) (tied_itself peer_total y.0.peer) in
          let changes : is_change (peer_before before) x.0.peer ≡ true = ap (is_change (peer_before before)) from ∙ other in
          let ranks = subst (λ b. is_lt (ordering_then (nat_cmp (route_metric cost y) (route_metric cost x)) (ordering_then (bool_cmp b true) (peer_cmp y.0.peer x.0.peer))) ≡ false) stays
          (subst (λ b. is_lt (ordering_then (nat_cmp (route_metric cost y) (route_metric cost x)) (ordering_then (bool_cmp (is_change (peer_before before) y.0.peer) b) (peer_cmp y.0.peer x.0.peer))) ≡ false) changes after) in
          let more : nat_cmp (route_metric cost y) (route_metric cost x) ≡ Greater = greater (nat_cmp (route_metric cost y) (route_metric cost x)) ranks in
          ap (λ t. is_lt (nat_cmp (route_metric cost x) (selection_metric cost t))) same
          ∙ ap is_lt (nat_cmp_total.antisymm (route_metric cost x) (route_metric cost y))
          ∙ ap (λ r. is_lt (ordering_reverse r)) more

  own_taken : (x : Route) → first_of order cs ≡ Some x → is_other peer x ≡ false → taken (overtakes sources cost before route) ≡ Some (selection_of x)
  own_taken x first own =
      let one = is_first order total cs x first in
      let from : x.0.peer ≡ peer = peer_exact x.0.peer peer (equal (peer_cmp x.0.peer peer) (is_so (is_from peer x.0) own)) in
      let held = is_entry_at sources cost prefix es one.place x sorted one.at in
      let here : find route_cmp (key_of prefix peer) es ≡ Some route.1 = subst (λ k. find route_cmp k es ≡ Some route.1) key (find_hit route_cmp route_total es place route sorted at) in
      let keyed : x.0 ≡ route.0 = held.key ∙ ap (key_of prefix) from ∙ sym key in
      let entry : x.1 ≡ route.1 = same_Some x.1 route.1 (sym held.updated_by ∙ ap (λ p. find route_cmp (key_of prefix p) es) from ∙ here) in
      let same : x ≡ route = λ i. (keyed i, entry i) in
      let passes : is_candidate sources cost route ≡ true = ap (is_candidate sources cost) (sym same) ∙ (in_filter (is_candidate sources cost) (routes_of prefix es) one.place x one.at).0 in
      ap (λ b. taken (b && is_lesser before)) passes
      ∙ ap taken (by before refl (λ r. lesser_metric x first from) same)
      ∙ ap (λ r. Some (selection_of r)) (sym same)
    where
      by : (b : Option Selection) → before ≡ b → (Route → (s : Selection) → before ≡ Some s → is_lt (nat_cmp (route_metric cost x) (selection_metric cost s)) ≡ true) → x ≡ route → is_lesser b ≡ true
      by None is lesser same = refl
      by (Some s) is lesser same = ap (λ (r : Route). is_lt (nat_cmp (route_metric cost r) (selection_metric cost s))) (sym same) ∙ lesser x s is

  chosen_of_two : (if overtakes sources cost before route then Some (selection_of route) else before) ≡ choice sources cost prefix false before es
  chosen_of_two = by (first_of order cs) refl
    where
      pick : (b : Bool) (x : Route) → is_other peer x ≡ b → first_of order cs ≡ Some x → taken (overtakes sources cost before route) ≡ Some (selection_of x)
      pick true x passes first =
          let is : before ≡ Some (selection_of x) = part ∙ ap (option_map selection_of) (first_of_part order total (is_other peer) cs x first passes) in
          other_taken x first is ∙ is
      pick false x own first = own_taken x first own

      by : (first : Option Route) → first_of order cs ≡ first → taken (overtakes sources cost before route) ≡ option_map selection_of first
      by None none =
          let empty = none_first order total cs none in
          none_taken empty ∙ part ∙ ap (λ rs. option_map selection_of (first_of order (filter (is_other peer) rs))) empty
      by (Some x) first = pick (is_other peer x) x refl first

-- A selection that the neighbour's route doesn't overtake stays current.
pub stays_current : (sources : Sources) (cost : Peer → ℕ) (peer : Peer) (prefix : PrefixValue) (local : Bool) (routes : RoutesValue) (place : ℕ) (route : Route) → is_sorted route_cmp routes.entries ≡ true → slice_get routes.entries place ≡ Some route → route.0 ≡ key_of prefix peer → is_change (peer_before (selection_at prefix routes)) peer ≡ true → false ≡ overtakes sources cost (selection_at prefix routes) route → IsCurrentBut sources cost peer prefix local routes → IsCurrent sources cost prefix local routes
stays_current sources cost peer prefix true routes place route sorted at key other worse current = current other
stays_current sources cost peer prefix false routes place route sorted at key other worse current =
    ap (λ b. if b then Some (selection_of route) else selection_at prefix routes) worse
    ∙ chosen_of_two sources cost peer prefix (selection_at prefix routes) routes.entries place route sorted at key other (current other)

-- ---- what keeps a selection current but for a neighbour's routes

-- a reselection
pub still_but : (sources : Sources) (cost : Peer → ℕ) (is_local : PrefixValue → Bool) (peer : Peer) (p q : PrefixValue) (routes : RoutesValue) → is_sorted route_cmp routes.entries ≡ true → IsCurrentBut sources cost peer p (is_local p) routes → IsCurrentBut sources cost peer p (is_local p) (reselected sources cost q (is_local q) routes)
still_but sources cost is_local peer p q routes sorted current = by (eq_by_cmp prefix_cmp p q) refl
  where
    by : (b : Bool) → eq_by_cmp prefix_cmp p q ≡ b → IsCurrentBut sources cost peer p (is_local p) (reselected sources cost q (is_local q) routes)
    by true here =
        let after : IsCurrent sources cost p (is_local p) (reselected sources cost q (is_local q) routes) =
        subst (λ r. IsCurrent sources cost p (is_local p) (reselected sources cost r (is_local r) routes)) (prefix_exact p q (equal (prefix_cmp p q) here)) (current_after sources cost is_local p routes sorted) in
        current_but sources cost peer p (is_local p) (selection_at p (reselected sources cost q (is_local q) routes)) routes.entries after
    by false here =
        let kept = find_with_value prefix_cmp prefix_total prefix_exact p q (choice_at sources cost q (is_local q) routes) routes.selections ∙ ap (λ b. cond b (choice_at sources cost q (is_local q) routes) (selection_at p routes)) here in
        subst (λ s. is_change (peer_before s) peer ≡ true → s ≡ choice sources cost p (is_local p) s (routes_but peer routes.entries)) (sym kept) current

-- a change of the neighbour's own entries
pub routes_but_put : (peer : Peer) (prefix : PrefixValue) (entry : Entry) (es : RouteEntries) → routes_but peer (put route_cmp (key_of prefix peer) entry es) ≡ routes_but peer es
routes_but_put peer prefix entry [] = ap (λ o. cond (not (is_eq o)) ((key_of prefix peer, entry) ∷ []) []) (tied_itself peer_total peer)
routes_but_put peer prefix entry (e ∷ es) = by (route_cmp (key_of prefix peer) e.0) refl (routes_but_put peer prefix entry es)
  where
    dropped : (rest : RouteEntries) → routes_but peer ((key_of prefix peer, entry) ∷ rest) ≡ routes_but peer rest
    dropped rest = ap (λ o. cond (not (is_eq o)) ((key_of prefix peer, entry) ∷ routes_but peer rest) (routes_but peer rest)) (tied_itself peer_total peer)

    by : (r : Ordering) → route_cmp (key_of prefix peer) e.0 ≡ r → routes_but peer (put route_cmp (key_of prefix peer) entry es) ≡ routes_but peer es → routes_but peer (put route_cmp (key_of prefix peer) entry (e ∷ es)) ≡ routes_but peer (e ∷ es)
    by Less is rest = rw is (dropped (e ∷ es))
    by Equal is rest =
        let own : is_from peer e.0 ≡ true = ap (λ (k : RouteKey). is_from peer k) (sym (route_exact (key_of prefix peer) e.0 is)) ∙ ap is_eq (tied_itself peer_total peer) in
        rw is (ap (λ b. cond (not b) ((e.0, entry) ∷ routes_but peer es) (routes_but peer es)) own ∙ sym (ap (λ b. cond (not b) (e ∷ routes_but peer es) (routes_but peer es)) own))
    by Greater is rest = rw is (ap (λ fs. cond (is_other peer e) (e ∷ fs) fs) rest)
