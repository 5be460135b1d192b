-- Reselecting the prefixes whose selection isn't current is reselecting all.
use Rattle.std.specs.Prelude.{◌≡◌, ℕ, Bool, true, false, cond, not, ◌&&◌, ◌||◌, List, [], ◌∷◌, ◌+◌, ◌<◌, drop, length, slice_get, filter, map, T, ⊤, Option, Some, None, option_and_then, if◌then◌else◌}
use Rattle.std.specs.declared.cmp.Ordering.{Ordering}
use Rattle.std.specs.declared.cmp.Ordering.TheVariants.{Less, Equal, Greater}
use Rattle.std.specs.Cmp.{tied_itself}
use Rattle.std.specs.Ordering.{eq_by_cmp, is_lt, ordering_then}
use Rattle.std.specs.FinMap.{find, put, is_sorted}
use Rattle.std.specs.FinMap.Entries.{below_all, find-put, find-where_key, is_sorted-put, is_sorted-where_key, same_entries}
use Rattle.std.proofs.Common.{refl, sym, ◌∙◌, ap, subst}
use Rattle.std.proofs.lemmas.Bool.{false≢true, and_parts}
use Rattle.std.proofs.lemmas.Option.{same_Some, none-some}
use Rattle.babel_value.specs.declared.keys.Peer.{Peer}
use Rattle.babel_value.specs.Orders.{prefix_cmp, peer_cmp}
use Rattle.babel_value.specs.Prefixes.{PrefixValue}
use Rattle.babel_value.proofs.OrderLaws.{prefix_total, prefix_exact, peer_total, peer_exact}
use Rattle.babel_value.proofs.Orderings.{equal}
use Rattle.babel_table.specs.Entries.{with_value}
use Rattle.babel_table.proofs.PlaceLemmas.{holds, so, sorted_put, sorted_without}
use Rattle.babel_choice.specs.declared.entries.Selection.{Selection}
use Rattle.babel_route.specs.Currency.{is_current}
use Rattle.babel_choice.specs.declared.entries.RouteKey.{RouteKey}
use Rattle.babel_choice.specs.RouteKeys.{route_cmp}
use Rattle.babel_choice.specs.Routes.{Route, RouteEntries, is_from}
use Rattle.babel_choice.proofs.RunLemmas.{drop_at}
use Rattle.circular_buffer.proofs.Places.{slice_get-some}
use Rattle.babel_choice.specs.Choices.{Selections}
use Rattle.babel_route.specs.Selections.{RoutesValue, IsCurrent, IsCurrentBut, selection_at, choice_at, prefixes_of}
use Rattle.babel_route.proofs.CurrencyLemmas.{same_selection}
use Rattle.babel_route.proofs.OneChangeLemmas.{still_but}
use Rattle.babel_route.proofs.CurrentLemmas.{settled, still_current, idle_current}
use Rattle.babel_state.specs.Sameness.{has_prefix}
use Rattle.babel_state.specs.State.{State, PrefixSet, announces, cost_at, selected_at, gathered, prefixes_in, routed_prefixes}
use Rattle.babel_state.specs.Reselection.{select, follow_up, reselect, reselect_each, reselect_all}
use Rattle.babel_state.specs.StepLaws.{kept_of}
use Rattle.babel_state.specs.CurrentSelections.{IsCurrentAt, AreRoutesInOrder}
use Rattle.babel_state.specs.SettledLaws.{AreSelectionsInOrder}
use Rattle.babel_state.proofs.CurrentLaws.{has_ascending}
use Rattle.babel_state.proofs.Reselecting.{reselects_kept}
use Rattle.babel_state.proofs.SettledLemmas.{nothing_follows}
use Rattle.babel_speaker.specs.LinkChanges.{prefixes_from, AreCurrentBut, AreOthersCurrent}
use Rattle.babel_speaker.specs.StalePrefixes.{is_stale}

-- ---- a prefix whose selection is current may be left out

reselect_current : (now : ℕ) (p : PrefixValue) (s : State) → AreSelectionsInOrder s → IsCurrentAt p s → reselect now None p s ≡ s
unfolding reselect
reselect_current now p s sorted current =
    let same : select p s ≡ s = ap (λ (r : RoutesValue). record s { routes = r }) (settled s.sources (cost_at s) (λ q. announces q s) p s.routes sorted current) in
    ap (λ t. follow_up now None p (selected_at p s) (selected_at p t) t) same ∙ nothing_follows now p s (selected_at p s)

keeps_current : (now : ℕ) (p q : PrefixValue) (s : State) → AreRoutesInOrder s → IsCurrentAt p s → IsCurrentAt p (reselect now None q s)
unfolding kept_of
keeps_current now p q s sorted current =
    subst (λ (k : State). IsCurrent k.sources (cost_at k) p (announces p k) k.routes) (sym (reselects_kept now None q s))
    (still_current s.sources (cost_at s) (λ x. announces x s) p q s.routes sorted current)

pub keeps_but : (now : ℕ) (peer : Peer) (q : PrefixValue) (s t : State) → AreRoutesInOrder s → t ≡ reselect now None q s → AreCurrentBut peer s → AreCurrentBut peer t
unfolding kept_of
keeps_but now peer q s t sorted is current =
    subst (AreCurrentBut peer) (sym is)
    (λ p. subst (λ (k : State). IsCurrentBut k.sources (cost_at k) peer p (announces p k) k.routes) (sym (reselects_kept now None q s))
    (still_but s.sources (cost_at s) (λ x. announces x s) peer p q s.routes sorted (current p)))

keeps_routes : (now : ℕ) (q : PrefixValue) (s : State) → AreRoutesInOrder s → AreRoutesInOrder (reselect now None q s)
unfolding kept_of
keeps_routes now q s sorted = subst (λ (k : State). AreRoutesInOrder k) (sym (reselects_kept now None q s)) sorted

sorted_with : (q : PrefixValue) (value : Option Selection) (ss : Selections) → is_sorted prefix_cmp ss ≡ true → is_sorted prefix_cmp (with_value prefix_cmp q value ss) ≡ true
sorted_with q None ss sorted = sorted_without prefix_cmp q ss sorted
sorted_with q (Some v) ss sorted = sorted_put prefix_cmp prefix_total q v ss sorted

keeps_selections : (now : ℕ) (q : PrefixValue) (s : State) → AreSelectionsInOrder s → AreSelectionsInOrder (reselect now None q s)
unfolding kept_of
keeps_selections now q s sorted =
    subst (λ (k : State). AreSelectionsInOrder k) (sym (reselects_kept now None q s))
    (sorted_with q (choice_at s.sources (cost_at s) q (announces q s) s.routes) s.routes.selections sorted)

left_out : (now : ℕ) (kept : PrefixValue → Bool) (ps : List PrefixValue) (s : State) → AreRoutesInOrder s → AreSelectionsInOrder s → ((p : PrefixValue) → kept p ≡ false → IsCurrentAt p s) → reselect_each now (filter kept ps) s ≡ reselect_each now ps s
left_out now kept [] s routes selections others = refl
left_out now kept (p ∷ ps) s routes selections others =
    by (kept p) refl
    (left_out now kept ps (reselect now None p s) (keeps_routes now p s routes) (keeps_selections now p s selections) (λ q other. keeps_current now q p s routes (others q other)))
    (left_out now kept ps s routes selections others)
  where
    by : (b : Bool) → kept p ≡ b → reselect_each now (filter kept ps) (reselect now None p s) ≡ reselect_each now ps (reselect now None p s) → reselect_each now (filter kept ps) s ≡ reselect_each now ps s → reselect_each now (cond b (p ∷ filter kept ps) (filter kept ps)) s ≡ reselect_each now ps (reselect now None p s)
    by true is selected rest = selected
    by false is selected rest = rest ∙ ap (reselect_each now ps) (sym (reselect_current now p s selections (others p is)))

-- ---- sets of prefixes

sorted_gathered : (ps : List PrefixValue) (es : PrefixSet) → T (is_sorted prefix_cmp es) → T (is_sorted prefix_cmp (gathered ps es))
sorted_gathered [] es sorted = sorted
sorted_gathered (p ∷ ps) es sorted = sorted_gathered ps (put prefix_cmp p tt es) (is_sorted-put prefix_cmp prefix_total p tt es sorted)

find_gathered : (q : PrefixValue) (ps : List PrefixValue) (es : PrefixSet) → find prefix_cmp q (gathered ps es) ≡ cond (has_prefix q ps) (Some tt) (find prefix_cmp q es)
find_gathered q [] es = refl
find_gathered q (p ∷ ps) es =
    find_gathered q ps (put prefix_cmp p tt es)
    ∙ ap (λ o. cond (has_prefix q ps) (Some tt) o) (find-put prefix_cmp prefix_total q p tt es)
    ∙ by (eq_by_cmp prefix_cmp q p) (has_prefix q ps)
  where
    by : (here later : Bool) → cond later (Some tt) (cond here (Some tt) (find prefix_cmp q es)) ≡ cond (here || later) (Some tt) (find prefix_cmp q es)
    by true true = refl
    by true false = refl
    by false true = refl
    by false false = refl

keys_filtered : (kept : PrefixValue → Bool) (es : PrefixSet) → filter kept (prefixes_in es) ≡ prefixes_in (filter (λ e. kept e.0) es)
keys_filtered kept [] = refl
keys_filtered kept (e ∷ es) = by (kept e.0) (keys_filtered kept es)
  where
    by : (b : Bool) → filter kept (prefixes_in es) ≡ prefixes_in (filter (λ e. kept e.0) es) → cond b (e.0 ∷ filter kept (prefixes_in es)) (filter kept (prefixes_in es)) ≡ prefixes_in (cond b (e ∷ filter (λ e. kept e.0) es) (filter (λ e. kept e.0) es))
    by true rest = ap (λ ps. e.0 ∷ ps) rest
    by false rest = rest

find_has : (q : PrefixValue) (es : PrefixSet) → find prefix_cmp q es ≡ cond (has_prefix q (prefixes_in es)) (Some tt) None
find_has q [] = refl
find_has q (e ∷ es) = by (eq_by_cmp prefix_cmp q e.0) (find_has q es)
  where
    by : (b : Bool) → find prefix_cmp q es ≡ cond (has_prefix q (prefixes_in es)) (Some tt) None → cond b (Some e.1) (find prefix_cmp q es) ≡ cond (b || has_prefix q (prefixes_in es)) (Some tt) None
    by true rest = refl
    by false rest = rest

-- the prefixes of a set that are in a part of it are that part
part_of : (part set : PrefixSet) → is_sorted prefix_cmp part ≡ true → is_sorted prefix_cmp set ≡ true → ((q : PrefixValue) → has_prefix q (prefixes_in part) ≡ true → find prefix_cmp q set ≡ Some tt) → filter (λ e. has_prefix e.0 (prefixes_in part)) set ≡ part
part_of part set part_sorted sorted within =
    same_entries prefix_cmp prefix_total prefix_exact (filter (λ e. has_prefix e.0 (prefixes_in part)) set) part
    (is_sorted-where_key prefix_cmp (λ p. has_prefix p (prefixes_in part)) set (holds (is_sorted prefix_cmp set) sorted)) (holds (is_sorted prefix_cmp part) part_sorted)
    (λ q. find-where_key prefix_cmp (λ p. has_prefix p (prefixes_in part)) q (λ x e. ap (λ p. has_prefix p (prefixes_in part)) (sym (prefix_exact q x e))) set
    ∙ by q (has_prefix q (prefixes_in part)) refl ∙ sym (find_has q part))
  where
    by : (q : PrefixValue) (b : Bool) → has_prefix q (prefixes_in part) ≡ b → cond b (find prefix_cmp q set) None ≡ cond b (Some tt) None
    by q true is = within q is
    by q false is = refl

either : (b : Bool) (o : Option ⊤) → o ≡ Some tt → cond b (Some tt) o ≡ Some tt
either true o is = refl
either false o is = is

-- ---- the others may be left out

module _ (now : ℕ) (s : State) (routes : AreRoutesInOrder s) (selections : AreSelectionsInOrder s) where
  part_reselected : (part set : PrefixSet) → is_sorted prefix_cmp part ≡ true → is_sorted prefix_cmp set ≡ true → ((q : PrefixValue) → has_prefix q (prefixes_in part) ≡ true → find prefix_cmp q set ≡ Some tt) → ((q : PrefixValue) → has_prefix q (prefixes_in part) ≡ false → IsCurrentAt q s) → reselect_each now (prefixes_in part) s ≡ reselect_each now (prefixes_in set) s
  part_reselected part set part_sorted sorted within others =
      let kept : PrefixValue → Bool = λ q. has_prefix q (prefixes_in part) in
      ap (λ ps. reselect_each now ps s) (sym (keys_filtered kept set ∙ ap prefixes_in (part_of part set part_sorted sorted within)))
      ∙ left_out now kept (prefixes_in set) s routes selections others

  pub all_reselected : (set : PrefixSet) → is_sorted prefix_cmp set ≡ true → ((q : PrefixValue) → has_prefix q (prefixes_in set) ≡ false → IsCurrentAt q s) → reselect_each now (prefixes_in set) s ≡ reselect_all now s
  unfolding reselect_all routed_prefixes
  all_reselected set sorted others =
      let ps : List PrefixValue = prefixes_of s.routes in
      let all : PrefixSet = gathered ps [] in
      let union : PrefixSet = gathered ps set in
      let union_sorted : is_sorted prefix_cmp union ≡ true = so (is_sorted prefix_cmp union) (sorted_gathered ps set (holds (is_sorted prefix_cmp set) sorted)) in
      part_reselected set union sorted union_sorted (λ q is. find_gathered q ps set ∙ either (has_prefix q ps) (find prefix_cmp q set) (find_has q set ∙ ap (λ b. cond b (Some tt) None) is)) others
      ∙ sym (part_reselected all union (so (is_sorted prefix_cmp all) (sorted_gathered ps [] tt)) union_sorted
      (λ q is. find_gathered q ps set ∙ ap (λ b. cond b (Some tt) (find prefix_cmp q set)) (sym (has_ascending q ps) ∙ is))
      (λ q none. idle_current s.sources (cost_at s) (λ p. announces p s) q s.routes (sym (has_ascending q ps) ∙ none)))

-- ---- the prefixes that a walk found

current_at : (p : PrefixValue) (s : State) → is_stale s.sources (cost_at s) s.announced s.routes p ≡ false → IsCurrentAt p s
current_at p s fresh = same_selection (selection_at p s.routes) (choice_at s.sources (cost_at s) p (announces p s) s.routes) (is_so (is_current s.sources (cost_at s) p (announces p s) s.routes) fresh)
  where
    is_so : (b : Bool) → not b ≡ false → b ≡ true
    is_so true h = refl
    is_so false h = sym h

pub stale_reselected : (now : ℕ) (s t : State) (set : PrefixSet) → is_sorted route_cmp s.routes.entries ≡ true → is_sorted prefix_cmp s.routes.selections ≡ true → is_sorted prefix_cmp set ≡ true → ((p : PrefixValue) → has_prefix p (prefixes_in set) ≡ is_stale s.sources (cost_at s) s.announced s.routes p) → t ≡ reselect_each now (prefixes_in set) s → t ≡ reselect_all now s
stale_reselected now s t set routes selections sorted stale is =
    is ∙ all_reselected now s routes selections set sorted (λ p none. current_at p s (sym (stale p) ∙ none))

-- ---- one reselection

pub unchanged_reselected : (now : ℕ) (p : PrefixValue) (s t : State) → t ≡ select p s → t ≡ s → t ≡ reselect now None p s
unfolding reselect
unchanged_reselected now p s t selected is =
    is ∙ sym (ap (λ u. follow_up now None p (selected_at p s) (selected_at p u) u) (sym selected ∙ is) ∙ nothing_follows now p s (selected_at p s))

pub changed_reselected : (now : ℕ) (p : PrefixValue) (s t u : State) (old new : Option Selection) → t ≡ select p s → old ≡ selected_at p s → new ≡ selected_at p t → u ≡ follow_up now None p old new t → u ≡ reselect now None p s
unfolding reselect
changed_reselected now p s t u old new selected before after follows =
    follows ∙ (λ i. follow_up now None p (before i) (after i) t) ∙ ap (λ v. follow_up now None p (selected_at p s) (selected_at p v) v) selected

pub entries_kept : (now : ℕ) (p : PrefixValue) (s t : State) → t ≡ reselect now None p s → t.routes.entries ≡ s.routes.entries
unfolding kept_of
entries_kept now p s t is = ap (λ (u : State). u.routes.entries) is ∙ ap (λ (u : State). u.routes.entries) (reselects_kept now None p s)

pub costs_kept : (now : ℕ) (p : PrefixValue) (peer : Peer) (s t : State) → t ≡ reselect now None p s → cost_at s peer ≡ cost_at t peer
unfolding kept_of
costs_kept now p peer s t is = sym (ap (λ (u : State). cost_at u peer) is ∙ ap (λ (u : State). cost_at u peer) (reselects_kept now None p s))

-- ---- the prefixes of a neighbour's routes

abbrev pub units : List PrefixValue → PrefixSet
units [] = []
units (p ∷ ps) = (p, tt) ∷ units ps

pub of_units : (ps : List PrefixValue) → prefixes_in (units ps) ≡ ps
of_units [] = refl
of_units (p ∷ ps) = ap (λ qs. p ∷ qs) (of_units ps)

both : (a b : Bool) → a ≡ true → b ≡ true → (a && b) ≡ true
both a b one other = rw one other

first_lesser : (o p : Ordering) → p ≡ Equal → is_lt (ordering_then o p) ≡ true → is_lt o ≡ true
first_lesser Less p tied lesser = refl
first_lesser Equal p tied lesser = absurd (false≢true (ap is_lt (sym tied) ∙ lesser))
first_lesser Greater p tied lesser = lesser

module _ (peer : Peer) where
  tied : (a b : RouteKey) → is_from peer a ≡ true → is_from peer b ≡ true → peer_cmp a.peer b.peer ≡ Equal
  tied a b one other =
      ap (λ q. peer_cmp q b.peer) (peer_exact a.peer peer (equal (peer_cmp a.peer peer) one))
      ∙ ap (peer_cmp peer) (peer_exact b.peer peer (equal (peer_cmp b.peer peer) other))
      ∙ tied_itself peer_total peer

  from_below : (key : RouteKey) (es : RouteEntries) → is_from peer key ≡ true → below_all route_cmp key es ≡ true → below_all prefix_cmp key.prefix (units (prefixes_from peer es)) ≡ true
  from_below key [] from below = refl
  from_below key (e ∷ es) from below =
      let parts = and_parts (is_lt (route_cmp key e.0)) (below_all route_cmp key es) below in
      by (is_from peer e.0) refl parts.0 (from_below key es from parts.1)
    where
      by : (b : Bool) → is_from peer e.0 ≡ b → is_lt (route_cmp key e.0) ≡ true → below_all prefix_cmp key.prefix (units (prefixes_from peer es)) ≡ true → below_all prefix_cmp key.prefix (units (map (λ f. f.0.prefix) (cond b (e ∷ filter (λ f. is_from peer f.0) es) (filter (λ f. is_from peer f.0) es)))) ≡ true
      by true is lesser rest =
          both (is_lt (prefix_cmp key.prefix e.0.prefix)) (below_all prefix_cmp key.prefix (units (prefixes_from peer es)))
          (first_lesser (prefix_cmp key.prefix e.0.prefix) (peer_cmp key.peer e.0.peer) (tied key e.0 from is) lesser) rest
      by false is lesser rest = rest

  from_sorted : (es : RouteEntries) → is_sorted route_cmp es ≡ true → is_sorted prefix_cmp (units (prefixes_from peer es)) ≡ true
  from_sorted [] sorted = refl
  from_sorted (e ∷ es) sorted =
      let parts = and_parts (below_all route_cmp e.0 es) (is_sorted route_cmp es) sorted in
      by (is_from peer e.0) refl parts.0 (from_sorted es parts.1)
    where
      by : (b : Bool) → is_from peer e.0 ≡ b → below_all route_cmp e.0 es ≡ true → is_sorted prefix_cmp (units (prefixes_from peer es)) ≡ true → is_sorted prefix_cmp (units (map (λ f. f.0.prefix) (cond b (e ∷ filter (λ f. is_from peer f.0) es) (filter (λ f. is_from peer f.0) es)))) ≡ true
      by true is below rest =
          both (below_all prefix_cmp e.0.prefix (units (prefixes_from peer es))) (is_sorted prefix_cmp (units (prefixes_from peer es)))
          (from_below e.0 es is below) rest
      by false is below rest = rest

-- All prefixes of the neighbour were reselected.
pub from_reselected : (now : ℕ) (peer : Peer) (s t : State) → is_sorted route_cmp s.routes.entries ≡ true → is_sorted prefix_cmp s.routes.selections ≡ true → AreOthersCurrent peer s → t ≡ reselect_each now (prefixes_from peer s.routes.entries) s → t ≡ reselect_all now s
from_reselected now peer s t routes selections others is =
    let ps : List PrefixValue = prefixes_from peer s.routes.entries in
    is ∙ ap (λ qs. reselect_each now qs s) (sym (of_units ps))
    ∙ all_reselected now s routes selections (units ps) (from_sorted peer s.routes.entries routes)
    (λ p none. others.0 p (ap (has_prefix p) (sym (of_units ps)) ∙ none))

-- ---- the walk over the routes

module _ (peer : Peer) where
  abbrev pub prefix_in : Option Route → Option PrefixValue
  prefix_in = option_and_then (λ e. if is_from peer e.0 then Some e.0.prefix else None)

  from_here : (es : RouteEntries) (place : ℕ) (p : PrefixValue) → prefix_in (slice_get es place) ≡ Some p → prefixes_from peer (drop place es) ≡ p ∷ prefixes_from peer (drop (place + 1) es)
  from_here es place p is = by (slice_get es place) refl is
    where
      here : (e : Route) (b : Bool) → is_from peer e.0 ≡ b → cond b (Some e.0.prefix) None ≡ Some p → prefixes_from peer (e ∷ drop (place + 1) es) ≡ p ∷ prefixes_from peer (drop (place + 1) es)
      here e true so found = rw so (ap (λ q. q ∷ prefixes_from peer (drop (place + 1) es)) (same_Some e.0.prefix p found))
      here e false so found = absurd (none-some p found)

      by : (o : Option Route) → slice_get es place ≡ o → prefix_in o ≡ Some p → prefixes_from peer (drop place es) ≡ p ∷ prefixes_from peer (drop (place + 1) es)
      by None at found = absurd (none-some p found)
      by (Some e) at found = ap (prefixes_from peer) (drop_at es place e at) ∙ here e (is_from peer e.0) refl found

  none_here : (es : RouteEntries) (place : ℕ) → place < length es → prefix_in (slice_get es place) ≡ None → prefixes_from peer (drop place es) ≡ prefixes_from peer (drop (place + 1) es)
  none_here es place within is =
      let found = slice_get-some es place within in
      ap (prefixes_from peer) (drop_at es place found.0 found.1) ∙ here found.0 (is_from peer found.0.0) refl (ap prefix_in (sym found.1) ∙ is)
    where
      here : (e : Route) (b : Bool) → is_from peer e.0 ≡ b → cond b (Some e.0.prefix) None ≡ None → prefixes_from peer (e ∷ drop (place + 1) es) ≡ prefixes_from peer (drop (place + 1) es)
      here e true so none = absurd (none-some e.0.prefix (sym none))
      here e false so none = rw so refl

  pub one_walked : (now : ℕ) (es : RouteEntries) (place : ℕ) (p : PrefixValue) (s t goal : State) → Some p ≡ prefix_in (slice_get s.routes.entries place) → s.routes.entries ≡ es → t ≡ reselect now None p s → reselect_each now (prefixes_from peer (drop place es)) s ≡ goal → reselect_each now (prefixes_from peer (drop (place + 1) es)) t ≡ goal
  one_walked now es place p s t goal found kept is done =
      ap (reselect_each now (prefixes_from peer (drop (place + 1) es))) is
      ∙ ap (λ ps. reselect_each now ps s) (sym (from_here es place p (ap (λ fs. prefix_in (slice_get fs place)) (sym kept) ∙ sym found)))
      ∙ done

  pub none_walked : (now : ℕ) (es : RouteEntries) (place : ℕ) (s t goal : State) → place < length s.routes.entries → None ≡ prefix_in (slice_get s.routes.entries place) → s.routes.entries ≡ es → t ≡ s → reselect_each now (prefixes_from peer (drop place es)) s ≡ goal → reselect_each now (prefixes_from peer (drop (place + 1) es)) t ≡ goal
  none_walked now es place s t goal within found kept is done =
      ap (reselect_each now (prefixes_from peer (drop (place + 1) es))) is
      ∙ ap (λ ps. reselect_each now ps s) (sym (none_here es place (subst (λ fs. place < length fs) kept within) (ap (λ fs. prefix_in (slice_get fs place)) (sym kept) ∙ sym found)))
      ∙ done
