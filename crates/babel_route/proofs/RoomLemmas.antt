-- The places that are taken: no revision, update or reselection takes more than it should, since each selection has a prefix of its own.
use Rattle.std.proofs.Math.Bool.{or-true}
use Rattle.std.proofs.lemmas.Bool.{false≢true}
use Rattle.std.proofs.Common.{◌≡◌, ℕ, zero, suc, ◌+◌, ◌≤◌, ◌<◌, Bool, true, false, cond, not, ◌||◌, [], ◌∷◌, length, drop, filter, slice_get, Option, Some, None, IsNone, IsSome, is_some, refl, sym, ap, subst, ◌∙◌, arith, add-one}
use Rattle.std.specs.List.{cons_option}
use Rattle.std.specs.Option.{option_map, option_map_or}
use Rattle.std.specs.declared.cmp.Ordering.{Ordering}
use Rattle.std.specs.declared.cmp.Ordering.TheVariants.{Less, Equal, Greater}
use Rattle.std.specs.Ordering.{is_eq, eq_by_cmp}
use Rattle.std.specs.FinMap.{find, put, is_sorted}
use Rattle.std.specs.FinMap.Entries.{length-put}
use Rattle.babel_value.specs.Prefixes.{PrefixValue}
use Rattle.babel_value.specs.Orders.{prefix_cmp}
use Rattle.babel_value.proofs.OrderLaws.{prefix_total, prefix_exact}
use Rattle.babel_choice.specs.declared.entries.RouteKey.{RouteKey}
use Rattle.babel_choice.specs.declared.entries.Entry.{Entry}
use Rattle.babel_choice.specs.declared.entries.Selection.{Selection}
use Rattle.babel_table.specs.Entries.{without, with_value, revised_entries}
use Rattle.babel_table.specs.Places.{are_greater}
use Rattle.babel_choice.specs.RouteKeys.{route_cmp, route_total}
use Rattle.babel_choice.specs.Routes.{Route, RouteEntries}
use Rattle.babel_choice.specs.Choices.{has_entry, Selections}
use Rattle.babel_route.specs.Selections.{orphans}
use Rattle.babel_table.proofs.PlaceLemmas.{holds, others_greater, tail_sorted, head_greater, tail_greater, sorted_put}

-- ---- orphans, but for prefixes that were seen

abbrev counted : Bool → ℕ
counted found = cond found 0 1

abbrev orphans_but : (PrefixValue → Bool) → RouteEntries → Selections → ℕ
orphans_but seen es [] = 0
orphans_but seen es (s ∷ ss) = counted (seen s.0 || has_entry es s.0) + orphans_but seen es ss

abbrev unseen : PrefixValue → Bool
unseen p = false

-- the prefixes that were seen, and one more
abbrev and_one : (PrefixValue → Bool) → PrefixValue → PrefixValue → Bool
and_one seen q p = seen p || eq_by_cmp prefix_cmp q p

orphans_are : (es : RouteEntries) (ss : Selections) → orphans es ss ≡ orphans_but unseen es ss
orphans_are es [] = refl
orphans_are es (s ∷ ss) = by (has_entry es s.0) (orphans_are es ss)
  where
    by : (found : Bool) → orphans es ss ≡ orphans_but unseen es ss → length (cond (not found) (s ∷ filter (λ t. not (has_entry es t.0)) ss) (filter (λ t. not (has_entry es t.0)) ss)) ≡ counted found + orphans_but unseen es ss
    by true rest = omega (arith, rest)
    by false rest = omega (arith, rest)

-- an entry is a prefix that was seen
entry_is_seen : (seen : PrefixValue → Bool) (e : Route) (es : RouteEntries) (ss : Selections) → orphans_but seen (e ∷ es) ss ≡ orphans_but (and_one seen e.0.prefix) es ss
entry_is_seen seen e es [] = refl
entry_is_seen seen e es (s ∷ ss) =
    by (seen s.0) (eq_by_cmp prefix_cmp e.0.prefix s.0) (entry_is_seen seen e es ss)
  where
    by : (a b : Bool) → orphans_but seen (e ∷ es) ss ≡ orphans_but (and_one seen e.0.prefix) es ss → counted (a || (b || has_entry es s.0)) + orphans_but seen (e ∷ es) ss ≡ counted ((a || b) || has_entry es s.0) + orphans_but (and_one seen e.0.prefix) es ss
    by true b rest = omega (arith, rest)
    by false b rest = ap (λ n. counted (b || has_entry es s.0) + n) rest

-- one more that was seen is no prefix of greater selections
none_greater : (seen : PrefixValue → Bool) (q : PrefixValue) (es : RouteEntries) (ss : Selections) → are_greater prefix_cmp q ss ≡ true → orphans_but seen es ss ≡ orphans_but (and_one seen q) es ss
none_greater seen q es [] all = refl
none_greater seen q es (s ∷ ss) all =
    let here : prefix_cmp q s.0 ≡ Less = head_greater prefix_cmp q s ss all in
    rw here (by (seen s.0) (none_greater seen q es ss (tail_greater prefix_cmp q s ss all)))
  where
    by : (a : Bool) → orphans_but seen es ss ≡ orphans_but (and_one seen q) es ss → counted (a || has_entry es s.0) + orphans_but seen es ss ≡ counted ((a || false) || has_entry es s.0) + orphans_but (and_one seen q) es ss
    by true rest = omega (arith, rest)
    by false rest = ap (λ n. counted (has_entry es s.0) + n) rest

-- so one more that was seen is at most one orphan less
one_less : (seen : PrefixValue → Bool) (q : PrefixValue) (es : RouteEntries) (ss : Selections) → is_sorted prefix_cmp ss ≡ true → orphans_but seen es ss ≤ suc (orphans_but (and_one seen q) es ss)
one_less seen q es [] sorted = omega arith
one_less seen q es (s ∷ ss) sorted =
    by (seen s.0) (prefix_cmp q s.0) refl (one_less seen q es ss (tail_sorted prefix_cmp s ss sorted))
  where
    few : (b : Bool) → counted b ≤ 1
    few true = omega arith
    few false = omega arith

    by : (a : Bool) (r : Ordering) → prefix_cmp q s.0 ≡ r → orphans_but seen es ss ≤ suc (orphans_but (and_one seen q) es ss) → counted (a || has_entry es s.0) + orphans_but seen es ss ≤ suc (counted ((a || is_eq r) || has_entry es s.0) + orphans_but (and_one seen q) es ss)
    by true r is rest = omega (arith, rest)
    by false Less is rest = omega (arith, rest)
    by false Greater is rest = omega (arith, rest)
    by false Equal is rest =
        let same : q ≡ s.0 = prefix_exact q s.0 is in
        let others = none_greater seen q es ss (subst (λ p. are_greater prefix_cmp p ss ≡ true) (sym same) (others_greater prefix_cmp s ss sorted)) in
        omega (arith, others, few (has_entry es s.0))

-- ---- revisions

-- a revision that removes an entry makes at most one more orphan
revised_but : (f : RouteKey → Entry → Option Entry) (seen : PrefixValue → Bool) (es : RouteEntries) (ss : Selections) → is_sorted prefix_cmp ss ≡ true → length (revised_entries f es) + orphans_but seen (revised_entries f es) ss ≤ length es + orphans_but seen es ss
revised_but f seen [] ss sorted = omega arith
revised_but f seen (e ∷ es) ss sorted = by (f e.0 e.1) (revised_but f (and_one seen e.0.prefix) es ss sorted)
  where
    rest : RouteEntries
    rest = revised_entries f es

    by : (r : Option Entry) → length rest + orphans_but (and_one seen e.0.prefix) rest ss ≤ length es + orphans_but (and_one seen e.0.prefix) es ss → length (cons_option (option_map (λ v. (e.0, v)) r) rest) + orphans_but seen (cons_option (option_map (λ v. (e.0, v)) r) rest) ss ≤ suc (length es) + orphans_but seen (e ∷ es) ss
    by (Some v) step = omega (arith, step, entry_is_seen seen (e.0, v) rest ss, entry_is_seen seen e es ss)
    by None step = omega (arith, step, one_less seen e.0.prefix rest ss sorted, entry_is_seen seen e es ss)

pub room_revised : (f : RouteKey → Entry → Option Entry) (es : RouteEntries) (ss : Selections) → is_sorted prefix_cmp ss ≡ true → length (revised_entries f es) + orphans (revised_entries f es) ss ≤ length es + orphans es ss
room_revised f es ss sorted =
    omega (arith, revised_but f unseen es ss sorted, orphans_are es ss, orphans_are (revised_entries f es) ss)

-- ---- updates

entry_stays : (k : RouteKey) (v : Entry) (es : RouteEntries) (p : PrefixValue) → has_entry es p ≡ true → has_entry (put route_cmp k v es) p ≡ true
entry_stays k v [] p h = sym (absurd (false≢true h))
entry_stays k v (e ∷ es) p h = by (entry_stays k v es p) (route_cmp k e.0) refl (eq_by_cmp prefix_cmp e.0.prefix p) refl h
  where
    by : (has_entry es p ≡ true → has_entry (put route_cmp k v es) p ≡ true) → (r : Ordering) → route_cmp k e.0 ≡ r → (b : Bool) → eq_by_cmp prefix_cmp e.0.prefix p ≡ b → b || has_entry es p ≡ true → has_entry (put route_cmp k v (e ∷ es)) p ≡ true
    by rest Less is b here h = rw is (rw here (ap (λ x. eq_by_cmp prefix_cmp k.prefix p || x) h ∙ or-true (eq_by_cmp prefix_cmp k.prefix p)))
    by rest Equal is b here h = rw is (rw here h)
    by rest Greater is true here h = rw is (rw here refl)
    by rest Greater is false here h = rw is (rw here (rest h))

orphans_after_put : (k : RouteKey) (v : Entry) (es : RouteEntries) (ss : Selections) → orphans_but unseen (put route_cmp k v es) ss ≤ orphans_but unseen es ss
orphans_after_put k v es [] = omega arith
orphans_after_put k v es (s ∷ ss) =
    by (has_entry es s.0) (has_entry (put route_cmp k v es) s.0) (entry_stays k v es s.0) (orphans_after_put k v es ss)
  where
    by : (old new : Bool) → (old ≡ true → new ≡ true) → orphans_but unseen (put route_cmp k v es) ss ≤ orphans_but unseen es ss → counted new + orphans_but unseen (put route_cmp k v es) ss ≤ counted old + orphans_but unseen es ss
    by old true stays rest = omega (arith, rest)
    by true false stays rest = absurd (false≢true (stays refl))
    by false false stays rest = omega (arith, rest)

pub orphans_put : (k : RouteKey) (v : Entry) (es : RouteEntries) (ss : Selections) → orphans (put route_cmp k v es) ss ≤ orphans es ss
orphans_put k v es ss = omega (arith, orphans_after_put k v es ss, orphans_are es ss, orphans_are (put route_cmp k v es) ss)

-- ---- selections

orphans_without_but : (p : PrefixValue) (es : RouteEntries) (ss : Selections) → orphans_but unseen es (without prefix_cmp p ss) ≤ orphans_but unseen es ss
orphans_without_but p es [] = omega arith
orphans_without_but p es (s ∷ ss) = by (eq_by_cmp prefix_cmp p s.0) (orphans_without_but p es ss)
  where
    by : (b : Bool) → orphans_but unseen es (without prefix_cmp p ss) ≤ orphans_but unseen es ss → orphans_but unseen es (cond (not b) (s ∷ without prefix_cmp p ss) (without prefix_cmp p ss)) ≤ counted (has_entry es s.0) + orphans_but unseen es ss
    by true rest = omega (arith, rest)
    by false rest = omega (arith, rest)

pub orphans_without : (p : PrefixValue) (es : RouteEntries) (ss : Selections) → orphans es (without prefix_cmp p ss) ≤ orphans es ss
orphans_without p es ss = omega (arith, orphans_without_but p es ss, orphans_are es ss, orphans_are es (without prefix_cmp p ss))

orphans_select_but : (p : PrefixValue) (x : Selection) (es : RouteEntries) (ss : Selections) → has_entry es p ≡ true → orphans_but unseen es (put prefix_cmp p x ss) ≤ orphans_but unseen es ss
orphans_select_but p x es [] has = rw has (omega arith)
orphans_select_but p x es (s ∷ ss) has = by (prefix_cmp p s.0) refl (orphans_select_but p x es ss has)
  where
    by : (r : Ordering) → prefix_cmp p s.0 ≡ r → orphans_but unseen es (put prefix_cmp p x ss) ≤ orphans_but unseen es ss → orphans_but unseen es (put prefix_cmp p x (s ∷ ss)) ≤ counted (has_entry es s.0) + orphans_but unseen es ss
    by Less is rest = rw is (rw has (omega arith))
    by Equal is rest = rw is (omega arith)
    by Greater is rest = rw is (omega (arith, rest))

pub orphans_select : (p : PrefixValue) (x : Selection) (es : RouteEntries) (ss : Selections) → has_entry es p ≡ true → orphans es (put prefix_cmp p x ss) ≤ orphans es ss
orphans_select p x es ss has =
    omega (arith, orphans_select_but p x es ss has, orphans_are es ss, orphans_are es (put prefix_cmp p x ss))

-- without entries each selection is an orphan
all_orphans : (ss : Selections) → orphans_but unseen [] ss ≡ length ss
all_orphans [] = refl
all_orphans (s ∷ ss) = omega (arith, all_orphans ss)

none_left : (es : RouteEntries) → revised_entries (λ k e. None) es ≡ []
none_left [] = refl
none_left (e ∷ es) = none_left es

-- each selection takes a place of its own, that of an entry or of an orphan
selections_within : (es : RouteEntries) (ss : Selections) → is_sorted prefix_cmp ss ≡ true → length ss ≤ length es + orphans_but unseen es ss
selections_within es ss sorted =
    let bound = subst (λ rs. length rs + orphans_but unseen rs ss ≤ length es + orphans_but unseen es ss) (none_left es) (revised_but (λ k e. None) unseen es ss sorted) in
    omega (arith, bound, all_orphans ss)

-- so there is room for a new selection, where its prefix has an entry
pub selection_fits_new : (p : PrefixValue) (es : RouteEntries) (ss : Selections) → is_sorted prefix_cmp ss ≡ true → has_entry es p ≡ true → IsNone (find prefix_cmp p ss) → length es + orphans es ss ≤ 256 → length ss < 256
selection_fits_new p [] ss sorted has none room = absurd (false≢true has)
selection_fits_new p (e ∷ es) ss sorted has none room =
    let x : Selection = record { peer = e.0.peer; entry = e.1 } in
    let longer : length (put prefix_cmp p x ss) ≡ length ss + 1 =
    length-put prefix_cmp prefix_total p x ss (holds (is_sorted prefix_cmp ss) sorted) ∙ ap (λ b. cond b (length ss) (length ss + 1)) none in
    omega (arith, room, longer, selections_within (e ∷ es) (put prefix_cmp p x ss) (sorted_put prefix_cmp prefix_total p x ss sorted), orphans_select_but p x (e ∷ es) ss has, orphans_are (e ∷ es) ss)

-- ---- all places at once
pub revised_within : (most : ℕ) (f : RouteKey → Entry → Option Entry) (old new : RouteEntries) (ss : Selections) → is_sorted prefix_cmp ss ≡ true → new ≡ revised_entries f old → length old + orphans old ss ≤ most → length new + orphans new ss ≤ most
revised_within most f old new ss sorted is room =
    subst (λ es. length es + orphans es ss ≤ most) (sym is) (omega (arith, room_revised f old ss sorted, room))

pub put_within : (most : ℕ) (k : RouteKey) (v : Entry) (old new : RouteEntries) (ss : Selections) → is_sorted route_cmp old ≡ true → new ≡ put route_cmp k v old → (IsNone (find route_cmp k old) → length old + orphans old ss < most) → length old + orphans old ss ≤ most → length new + orphans new ss ≤ most
put_within most k v old new ss sorted is new_fits room =
    subst (λ es. length es + orphans es ss ≤ most) (sym is)
    (by (find route_cmp k old) new_fits (length-put route_cmp route_total k v old (holds (is_sorted route_cmp old) sorted)))
  where
    by : (found : Option Entry) → (IsNone found → length old + orphans old ss < most) → length (put route_cmp k v old) ≡ cond (is_some found) (length old) (length old + 1) → length (put route_cmp k v old) + orphans (put route_cmp k v old) ss ≤ most
    by None fits len = omega (arith, fits refl, len, orphans_put k v old ss)
    by (Some e) fits len = omega (arith, room, len, orphans_put k v old ss)

pub selected_within : (most : ℕ) (p : PrefixValue) (o : Option Selection) (es : RouteEntries) (old new : Selections) → (IsSome o → has_entry es p ≡ true) → new ≡ with_value prefix_cmp p o old → length es + orphans es old ≤ most → length es + orphans es new ≤ most
selected_within most p None es old new has is room =
    subst (λ ss. length es + orphans es ss ≤ most) (sym is) (omega (arith, orphans_without p es old, room))
selected_within most p (Some x) es old new has is room =
    subst (λ ss. length es + orphans es ss ≤ most) (sym is) (omega (arith, orphans_select p x es old (has refl), room))

-- ---- as the code counts

pub orphans_from : (es : RouteEntries) (ss : Selections) (i : ℕ) (b : Bool) → option_map_or (λ s. not (has_entry es s.0)) (slice_get ss i) false ≡ b → orphans es (drop i ss) ≡ cond b 1 0 + orphans es (drop (i + 1) ss)
orphans_from es ss i b is = rw (add-one i) (subst (λ c. orphans es (drop i ss) ≡ cond c 1 0 + orphans es (drop (suc i) ss)) is (from ss i))
  where
    here : (s : PrefixValue × Selection) (ts : Selections) (b : Bool) → length (cond (not b) (s ∷ filter (λ t. not (has_entry es t.0)) ts) (filter (λ t. not (has_entry es t.0)) ts)) ≡ cond (not b) 1 0 + orphans es ts
    here s ts true = omega arith
    here s ts false = omega arith

    from : (ts : Selections) (i : ℕ) → orphans es (drop i ts) ≡ cond (option_map_or (λ s. not (has_entry es s.0)) (slice_get ts i) false) 1 0 + orphans es (drop (suc i) ts)
    from [] zero = refl
    from [] (suc i) = refl
    from (s ∷ ts) zero = here s ts (has_entry es s.0)
    from (s ∷ ts) (suc i) = from ts i
