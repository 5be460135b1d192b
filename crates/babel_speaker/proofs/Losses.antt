-- If candidates are only lost, the selection of each prefix whose selected route is still one stays current.
use Rattle.std.specs.Prelude.{◌≡◌, ◌⊎◌, All, ℕ, zero, suc, ◌+◌, ◌<◌, ◌≤◌, length, Bool, true, false, cond, not, ◌&&◌, ◌||◌, List, [], ◌∷◌, drop, remove, slice_get, filter, map, IfSome, Option, Some, None, nat_lt, nat_le, if◌then◌else◌}
use Rattle.std.specs.List.{cons_option, list_any}
use Rattle.std.specs.Option.{option_map}
use Rattle.std.specs.Ordering.{eq_by_cmp, is_lt}
use Rattle.std.specs.FinMap.{find, put, is_sorted}
use Rattle.std.specs.FinMap.Entries.{below_all}
use Rattle.std.proofs.Common.{refl, sym, ◌∙◌, ap, subst, arith, add-one, inl, inr}
use Rattle.std.proofs.lemmas.List.Elements.{All-nil, All-cons, All-head, All-tail, All-weaker, filter_passes}
use Rattle.std.proofs.lemmas.List.Folds.{list_any_none}
use Rattle.std.proofs.Math.Nat.{min-eq_right}
use Rattle.std.proofs.lemmas.Bool.{ltb-false, le-ltb, and_parts, or_parts, not-true, false≢true}
use Rattle.std.proofs.lemmas.List.{drop-set-lt}
use Rattle.babel_value.specs.declared.keys.Peer.{Peer}
use Rattle.babel_value.specs.Metrics.{infinity, metric_sum}
use Rattle.babel_value.specs.Orders.{prefix_cmp, peer_cmp}
use Rattle.babel_value.specs.Prefixes.{PrefixValue}
use Rattle.babel_value.proofs.OrderLaws.{prefix_total, peer_exact}
use Rattle.babel_value.proofs.Orderings.{equal}
use Rattle.babel_table.specs.Entries.{with_value, without}
use Rattle.babel_table.specs.Places.{IsAt}
use Rattle.babel_table.proofs.PlaceLemmas.{find_hit, put_hit, without_hit}
use Rattle.babel_table.proofs.FirstLemmas.{is_first, none_first}
use Rattle.babel_table.specs.Firsts.{first_of}
use Rattle.babel_sources.specs.Sources.{Sources}
use Rattle.babel_choice.specs.declared.entries.Selection.{Selection}
use Rattle.babel_choice.specs.RouteKeys.{route_cmp}
use Rattle.babel_choice.specs.Routes.{Route, RouteEntries, is_from, retracted_entry, retracted_all, forgotten, all_forgotten, expired}
use Rattle.babel_choice.specs.Choices.{Selections, is_of, routes_of, is_candidate, is_feasible_route, candidates, preference, selection_of, peer_before, choice}
use Rattle.babel_choice.proofs.RunLemmas.{drop_at}
use Rattle.babel_route.specs.declared.routes.changes.OriginChange.{OriginChange}
use Rattle.babel_route.specs.declared.routes.changes.OriginChange.TheVariants as origins
use Rattle.babel_route.specs.SelectionChanges.{origin_change}
use Rattle.babel_route.specs.Selections.{choice_at}
use Rattle.babel_route.proofs.CurrentLemmas.{preference_total, selected_here}
use Rattle.babel_route.proofs.OneChangeLemmas.{first_of_part}
use Rattle.babel_link.specs.declared.links.Link.{Link}
use Rattle.babel_link.specs.declared.marks.Heard.{Heard}
use Rattle.babel_link.specs.declared.marks.Heard.TheVariants.{Kept, Flush}
use Rattle.babel_link.specs.Links.{hello_link}
use Rattle.babel_link.specs.Neighbours.{Links, link_of, hello_of, hello_verdict, cost_of, CostsOnlyGrow, AreLost}
use Rattle.babel_state.specs.Sameness.{has_prefix, is_same_peer}
use Rattle.babel_state.specs.State.{State, announces, cost_at, nominal_cost, selected_at, with_entries}
use Rattle.babel_state.specs.Reselection.{queue, updates_to_all, is_unfeasible, may_request_for_lost, request_for_lost, follow_up, select, reselect, reselect_each, reselect_all}
use Rattle.babel_state.specs.StepLaws.{kept_of}
use Rattle.babel_state.specs.CurrentSelections.{AreCurrent}
use Rattle.babel_state.proofs.Reselecting.{reselects_kept}
use Rattle.babel_state.specs.SettledLaws.{AreSelectionsInOrder}
use Rattle.babel_state.specs.Hellos.{hears, forgets_flushed}
use Rattle.babel_state.specs.Ticks.{forget_each, routes_ticked}
use Rattle.babel_state.proofs.SettledLemmas.{other_cost}
use Rattle.babel_state.proofs.Tables.{each_at}
use Rattle.babel_speaker.specs.declared.input.losses.Loss.{Loss}
use Rattle.babel_speaker.specs.declared.input.losses.Loss.TheVariants.{Cost, Deadline, Neighbour}
use Rattle.babel_speaker.specs.Losses.{is_finite_route, is_any_lost, is_lost, prefixes_lost, AreCurrentUnless, is_loss}
use Rattle.babel_speaker.proofs.LinkChanges.{AreSame, same_first, all_forgets}
use Rattle.babel_speaker.proofs.Settling.{settled_all}
use Rattle.babel_speaker.proofs.StaleReselections.{units, of_units, all_reselected, costs_kept}

-- ---- the choice among the candidates that are not lost

module _ (sources : Sources) (old new : Peer → ℕ) (prefix : PrefixValue) (lost : Selection → Bool) (same : (r : Route) → lost (selection_of r) ≡ false → old r.0.peer ≡ new r.0.peer) where
  abbrev stays : Route → Bool
  stays r = not (lost (selection_of r))

  is_not : (b : Bool) → not b ≡ true → b ≡ false
  is_not true h = sym h
  is_not false h = refl

  part_same : (rs : RouteEntries) → AreSame sources old new (filter stays rs)
  part_same [] = tt
  part_same (r ∷ rs) = by (stays r) refl (part_same rs)
    where
      by : (b : Bool) → stays r ≡ b → AreSame sources old new (filter stays rs) → AreSame sources old new (cond b (r ∷ filter stays rs) (filter stays rs))
      by true is rest = (same r (is_not (lost (selection_of r)) is), rest)
      by false is rest = rest

  choice_stays : (local : Bool) (before : Option Selection) (es fs : RouteEntries) → candidates sources new prefix false fs ≡ filter stays (candidates sources old prefix false es) → IfSome before (λ s. lost s ≡ false) → before ≡ choice sources old prefix local before es → before ≡ choice sources new prefix local before fs
  choice_stays true before es fs less kept current = current
  choice_stays false before es fs less kept current = by (first_of (preference old (peer_before before)) cs) refl current
    where
      cs : RouteEntries
      cs = candidates sources old prefix false es

      by : (first : Option Route) → first_of (preference old (peer_before before)) cs ≡ first → before ≡ option_map selection_of first → before ≡ option_map selection_of (first_of (preference new (peer_before before)) (candidates sources new prefix false fs))
      by None none is =
          is ∙ ap (λ rs. option_map selection_of (first_of (preference new (peer_before before)) rs))
          (sym (less ∙ ap (filter stays) (none_first (preference old (peer_before before)) (preference_total old (peer_before before)) cs none)))
      by (Some x) first is =
          let here : stays x ≡ true = ap not (subst (λ b. IfSome b (λ s. lost s ≡ false)) is kept) in
          is
          ∙ ap (option_map selection_of) (
          sym (first_of_part (preference old (peer_before before)) (preference_total old (peer_before before)) stays cs x first here)
          ∙ same_first sources old new (peer_before before) None (filter stays cs) tt (part_same cs)
          ∙ ap (first_of (preference new (peer_before before))) (sym less)
          )

-- ---- the selection of a prefix whose selected route is not lost

not_lost : (lost : Selection → Bool) (p : PrefixValue) (ss : Selections) → has_prefix p (prefixes_lost lost ss) ≡ false → IfSome (find prefix_cmp p ss) (λ s. lost s ≡ false)
not_lost lost p [] none = tt
not_lost lost p (e ∷ ss) none = by (lost e.1) (eq_by_cmp prefix_cmp p e.0) refl refl none (not_lost lost p ss)
  where
    rest : Selections
    rest = filter (λ s. lost s.1) ss

    by : (b here : Bool) → lost e.1 ≡ b → eq_by_cmp prefix_cmp p e.0 ≡ here → has_prefix p (map (λ s. s.0) (cond b (e ∷ rest) rest)) ≡ false → (has_prefix p (prefixes_lost lost ss) ≡ false → IfSome (find prefix_cmp p ss) (λ s. lost s ≡ false)) → IfSome (cond here (Some e.1) (find prefix_cmp p ss)) (λ s. lost s ≡ false)
    by true true is at none later =
        let parts = or_parts (eq_by_cmp prefix_cmp p e.0) (has_prefix p (map (λ s. s.0) rest)) none in
        absurd (false≢true (sym parts.0 ∙ at))
    by true false is at none later = later (or_parts (eq_by_cmp prefix_cmp p e.0) (has_prefix p (map (λ s. s.0) rest)) none).1
    by false true is at none later = is
    by false false is at none later = later none

-- ---- which candidates are lost

filtered_twice : {X : Type 0} (p q r : X → Bool) (xs : List X) → ((x : X) → r x ≡ (p x && q x)) → filter r xs ≡ filter q (filter p xs)
filtered_twice p q r [] is = refl
filtered_twice p q r (x ∷ xs) is = by (p x) (q x) refl refl (filtered_twice p q r xs is)
  where
    by : (b c : Bool) → p x ≡ b → q x ≡ c → filter r xs ≡ filter q (filter p xs) → filter r (x ∷ xs) ≡ filter q (cond b (x ∷ filter p xs) (filter p xs))
    by true true one other rest = rw (is x, one, other) (ap (λ ys. x ∷ ys) rest)
    by true false one other rest = rw (is x, one, other) rest
    by false c one other rest = rw (is x, one) rest

and_neither : (a b : Bool) → b ≡ false → (a && b) ≡ false
and_neither true b is = is
and_neither false b is = refl

-- A route whose metric is infinite is no candidate.
infinite_is_none : (sources : Sources) (cost : Peer → ℕ) (e : Route) → infinity ≤ e.1.distance.metric + cost e.0.peer → is_candidate sources cost e ≡ false
infinite_is_none sources cost e sum =
    and_neither (is_feasible_route sources e) _ (le-ltb (metric_sum e.1.distance.metric (cost e.0.peer)) 65535 (omega (arith, min-eq_right sum)))

module _ (candidate other passes : Route → Bool) where
  -- a route is in both lists, or in none
  in_both : (o : Bool) (e : Route) (xs ys : RouteEntries) → candidate e ≡ other e → passes e ≡ true → filter candidate xs ≡ filter passes (filter other ys) → filter candidate (cond o (e ∷ xs) xs) ≡ filter passes (filter other (cond o (e ∷ ys) ys))
  in_both true e xs ys same is rest = rw same (by (other e))
    where
      by : (c : Bool) → cond c (e ∷ filter candidate xs) (filter candidate xs) ≡ filter passes (cond c (e ∷ filter other ys) (filter other ys))
      by true = rw is (ap (λ zs. e ∷ zs) rest)
      by false = rest
  in_both false e xs ys same is rest = rest

  in_none : (o : Bool) (e : Route) (ys : RouteEntries) → passes e ≡ false → filter passes (filter other (cond o (e ∷ ys) ys)) ≡ filter passes (filter other ys)
  in_none true e ys is = by (other e)
    where
      by : (c : Bool) → filter passes (cond c (e ∷ filter other ys) (filter other ys)) ≡ filter passes (filter other ys)
      by true = rw is refl
      by false = refl
  in_none false e ys is = refl

module _ (candidate : Route → Bool) where
  no_more : (o : Bool) (e : Route) (xs : RouteEntries) → candidate e ≡ false → filter candidate (cond o (e ∷ xs) xs) ≡ filter candidate xs
  no_more true e xs is = rw is refl
  no_more false e xs is = refl

  one_more : (o : Bool) (e : Route) (xs ys : RouteEntries) → filter candidate xs ≡ filter candidate ys → filter candidate (cond o (e ∷ xs) xs) ≡ filter candidate (cond o (e ∷ ys) ys)
  one_more true e xs ys rest = ap (λ zs. cond (candidate e) (e ∷ zs) zs) rest
  one_more false e xs ys rest = rest

module _ (sources : Sources) (cost : Peer → ℕ) (now : ℕ) (p : PrefixValue) where
  abbrev passed : Route → Bool
  passed = is_candidate sources cost

  retracted_is_none : (e : Route) → passed (e.0, retracted_entry now e.1) ≡ false
  retracted_is_none e = infinite_is_none sources cost (e.0, retracted_entry now e.1) (omega arith)

  -- those that are due
  due_lost : (es : RouteEntries) → candidates sources cost p false (expired now es) ≡ filter (λ r. not (nat_le r.1.deadline now)) (candidates sources cost p false es)
  due_lost [] = refl
  due_lost (e ∷ es) = by (nat_le e.1.deadline now) (nat_lt e.1.distance.metric infinity) refl (due_lost es)
    where
      is_later : Route → Bool
      is_later r = not (nat_le r.1.deadline now)

      by : (due finite : Bool) → nat_le e.1.deadline now ≡ due → filter passed (routes_of p (expired now es)) ≡ filter is_later (filter passed (routes_of p es)) →
          filter passed (routes_of p (cons_option (option_map (λ v. (e.0, v)) (if due then (if finite then Some (retracted_entry now e.1) else None) else Some e.1)) (expired now es))) ≡ filter is_later (filter passed (routes_of p (e ∷ es)))
      by true true is rest =
          no_more passed (is_of p e) (e.0, retracted_entry now e.1) (routes_of p (expired now es)) (retracted_is_none e)
          ∙ rest ∙ sym (in_none passed passed is_later (is_of p e) e (routes_of p es) (ap not is))
      by true false is rest = rest ∙ sym (in_none passed passed is_later (is_of p e) e (routes_of p es) (ap not is))
      by false finite is rest = in_both passed passed is_later (is_of p e) e (routes_of p (expired now es)) (routes_of p es) refl (ap not is) rest

  -- those of a neighbour that retracts all
  retracted_lost : (peer : Peer) (es : RouteEntries) → candidates sources cost p false (retracted_all now peer es) ≡ filter (λ r. not (is_from peer r.0)) (candidates sources cost p false es)
  retracted_lost peer [] = refl
  retracted_lost peer (e ∷ es) = by (is_from peer e.0) refl (retracted_lost peer es)
    where
      is_other : Route → Bool
      is_other r = not (is_from peer r.0)

      by : (from : Bool) → is_from peer e.0 ≡ from → filter passed (routes_of p (retracted_all now peer es)) ≡ filter is_other (filter passed (routes_of p es)) →
          filter passed (routes_of p ((e.0, if from then retracted_entry now e.1 else e.1) ∷ retracted_all now peer es)) ≡ filter is_other (filter passed (routes_of p (e ∷ es)))
      by true is rest =
          no_more passed (is_of p e) (e.0, retracted_entry now e.1) (routes_of p (retracted_all now peer es)) (retracted_is_none e)
          ∙ rest ∙ sym (in_none passed passed is_other (is_of p e) e (routes_of p es) (ap not is))
      by false is rest = in_both passed passed is_other (is_of p e) e (routes_of p (retracted_all now peer es)) (routes_of p es) refl (ap not is) rest

-- Those of a neighbour that is flushed.
flushed_lost : (sources : Sources) (old new : Peer → ℕ) (p : PrefixValue) (peer : Peer) → ((q : Peer) → eq_by_cmp peer_cmp q peer ≡ false → old q ≡ new q) → (es : RouteEntries) → candidates sources new p false (forgotten peer es) ≡ filter (λ r. not (is_from peer r.0)) (candidates sources old p false es)
flushed_lost sources old new p peer same [] = refl
flushed_lost sources old new p peer same (e ∷ es) = by (is_from peer e.0) refl (flushed_lost sources old new p peer same es)
  where
    is_other : Route → Bool
    is_other r = not (is_from peer r.0)

    before : Route → Bool
    before = is_candidate sources old

    later : Route → Bool
    later = is_candidate sources new

    by : (from : Bool) → is_from peer e.0 ≡ from → filter later (routes_of p (forgotten peer es)) ≡ filter is_other (filter before (routes_of p es)) →
        filter later (routes_of p (cons_option (option_map (λ v. (e.0, v)) (if from then None else Some e.1)) (forgotten peer es))) ≡ filter is_other (filter before (routes_of p (e ∷ es)))
    by true is rest = rest ∙ sym (in_none later before is_other (is_of p e) e (routes_of p es) (ap not is))
    by false is rest =
        in_both later before is_other (is_of p e) e (routes_of p (forgotten peer es)) (routes_of p es)
        (λ i. is_feasible_route sources e && nat_lt (metric_sum e.1.distance.metric (sym (same e.0.peer is) i)) 65535) (ap not is) rest

-- Those over links that are lost.
module _ (sources : Sources) (old new : Peer → ℕ) (p : PrefixValue) where
  costly_is_none : (e : Route) → infinity ≤ new e.0.peer → is_candidate sources new e ≡ false
  costly_is_none e costly = infinite_is_none sources new e (omega (arith, costly))

  forgets_none : (peer : Peer) → new peer ≡ infinity → (es : RouteEntries) → candidates sources new p false (forgotten peer es) ≡ candidates sources new p false es
  forgets_none peer lost [] = refl
  forgets_none peer lost (e ∷ es) = by (is_from peer e.0) refl (forgets_none peer lost es)
    where
      by : (from : Bool) → is_from peer e.0 ≡ from → candidates sources new p false (forgotten peer es) ≡ candidates sources new p false es →
          candidates sources new p false (cons_option (option_map (λ v. (e.0, v)) (if from then None else Some e.1)) (forgotten peer es)) ≡ candidates sources new p false (e ∷ es)
      by true is rest =
          let here : new e.0.peer ≡ infinity = ap new (peer_exact e.0.peer peer (equal (peer_cmp e.0.peer peer) is)) ∙ lost in
          rest ∙ sym (no_more (is_candidate sources new) (is_of p e) e (routes_of p es) (costly_is_none e (omega (arith, here))))
      by false is rest = one_more (is_candidate sources new) (is_of p e) e (routes_of p (forgotten peer es)) (routes_of p es) rest

  forget_none : (peers : List Peer) → All (λ peer. new peer ≡ infinity) peers → (es : RouteEntries) → candidates sources new p false (all_forgotten peers es) ≡ candidates sources new p false es
  forget_none [] lost es = refl
  forget_none (peer ∷ peers) lost es =
      forget_none peers (All-tail (λ q. new q ≡ infinity) peer peers lost) (forgotten peer es)
      ∙ forgets_none peer (All-head (λ q. new q ≡ infinity) peer peers lost) es

  abbrev is_finite : Route → Bool
  is_finite r = not (not (nat_lt (new r.0.peer) infinity))

  links_lost : ((peer : Peer) → (new peer ≡ old peer) ⊎ (new peer ≡ infinity)) → (es : RouteEntries) → candidates sources new p false es ≡ filter is_finite (candidates sources old p false es)
  links_lost grown es = filtered_twice (is_candidate sources old) is_finite (is_candidate sources new) (routes_of p es) each
    where
      and_true : (b : Bool) → (b && true) ≡ b
      and_true true = refl
      and_true false = refl

      by : (r : Route) (b : Bool) → nat_lt (new r.0.peer) infinity ≡ b → (new r.0.peer ≡ old r.0.peer) ⊎ (new r.0.peer ≡ infinity) → is_candidate sources new r ≡ (is_candidate sources old r && not (not b))
      by r false is grows = costly_is_none r (ltb-false (new r.0.peer) infinity is) ∙ sym (and_neither (is_candidate sources old r) false refl)
      by r true is (inl same) = (λ i. is_feasible_route sources r && nat_lt (metric_sum r.1.distance.metric (same i)) 65535) ∙ sym (and_true (is_candidate sources old r))
      by r true is (inr lost) = absurd (false≢true (ap (λ n. nat_lt n infinity) (sym lost) ∙ is))

      each : (r : Route) → is_candidate sources new r ≡ (is_candidate sources old r && is_finite r)
      each r = by r (nat_lt (new r.0.peer) infinity) refl (grown r.0.peer)

-- ---- the selections of a speaker

entries_lost : (lost : Selection → Bool) (es : RouteEntries) (s : State) → ((p : PrefixValue) → candidates s.sources (cost_at s) p false es ≡ filter (λ r. not (lost (selection_of r))) (candidates s.sources (cost_at s) p false s.routes.entries)) → AreCurrent s → AreCurrentUnless lost (with_entries es s)
entries_lost lost es s less current p none =
    choice_stays s.sources (cost_at s) (cost_at s) p lost (λ r stays. refl) (announces p s) (selected_at p s) s.routes.entries es (less p) (not_lost lost p s.routes.selections none) (current p)

pub expired_unless : (now : ℕ) (s t : State) → t ≡ routes_ticked now s → AreCurrent s → AreCurrentUnless (is_lost (Deadline now) t) t
unfolding routes_ticked
expired_unless now s t is current =
    subst (λ u. AreCurrentUnless (is_lost (Deadline now) u) u) (sym is)
    (entries_lost (is_lost (Deadline now) s) (expired now s.routes.entries) s (λ p. due_lost s.sources (cost_at s) now p s.routes.entries) current)

-- No route was due.
pub none_expired : (now : ℕ) (s : State) → AreSelectionsInOrder s → AreCurrent s → routes_ticked now s ≡ s → s ≡ reselect_all now (routes_ticked now s)
none_expired now s sorted current same = settled_all now s sorted current ∙ ap (reselect_all now) (sym same)

pub retracted_unless : (now : ℕ) (peer : Peer) (s t : State) → t ≡ with_entries (retracted_all now peer s.routes.entries) s → AreCurrent s → AreCurrentUnless (is_lost (Neighbour peer) t) t
retracted_unless now peer s t is current =
    subst (λ u. AreCurrentUnless (is_lost (Neighbour peer) u) u) (sym is)
    (entries_lost (is_lost (Neighbour peer) s) (retracted_all now peer s.routes.entries) s (λ p. retracted_lost s.sources (cost_at s) now p peer s.routes.entries) current)

-- A tick takes the deadlines of links.
pub ticked_unless : (s t : State) (links : Links) (gone : List Peer) → t ≡ forget_each gone (record s { neighbours = links }) → CostsOnlyGrow s.neighbours links → AreLost gone links → AreCurrent s → AreCurrentUnless (is_lost Cost t) t
ticked_unless s t links gone is grown lost current =
    subst (λ u. AreCurrentUnless (is_lost Cost u) u) (sym (is ∙ sym (all_forgets gone later)))
    (λ p none.
    choice_stays s.sources (cost_at s) (cost_at later) p (is_lost Cost later) same (announces p s) (selected_at p s) s.routes.entries (all_forgotten gone s.routes.entries)
    (forget_none s.sources (cost_at s) (cost_at later) p gone (All-weaker (λ peer. (nominal : ℕ) → cost_of peer nominal links ≡ infinity) (λ peer. cost_at later peer ≡ infinity) (λ peer costly. costly (nominal_cost peer.iface s)) gone lost) s.routes.entries
    ∙ links_lost s.sources (cost_at s) (cost_at later) p grows s.routes.entries)
    (not_lost (is_lost Cost later) p s.routes.selections none) (current p))
  where
    later : State
    later = record s { neighbours = links }

    grows : (peer : Peer) → (cost_at later peer ≡ cost_at s peer) ⊎ (cost_at later peer ≡ infinity)
    grows peer = grown peer (nominal_cost peer.iface s)

    is_so : (b : Bool) → not b ≡ false → b ≡ true
    is_so true h = refl
    is_so false h = sym h

    by : (r : Route) → nat_lt (cost_at later r.0.peer) infinity ≡ true → (cost_at later r.0.peer ≡ cost_at s r.0.peer) ⊎ (cost_at later r.0.peer ≡ infinity) → cost_at s r.0.peer ≡ cost_at later r.0.peer
    by r finite (inl kept) = sym kept
    by r finite (inr costly) = absurd (false≢true (ap (λ n. nat_lt n infinity) (sym costly) ∙ finite))

    same : (r : Route) → not (nat_lt (cost_at later r.0.peer) infinity) ≡ false → cost_at s r.0.peer ≡ cost_at later r.0.peer
    same r finite = by r (is_so (nat_lt (cost_at later r.0.peer) infinity) finite) (grows r.0.peer)

-- A Hello flushes the neighbour.
pub flushed_unless : (now : ℕ) (peer : Peer) (unicast : Bool) (seqno interval : ℕ) (s t : State) → t ≡ hears now peer unicast seqno interval s → hello_verdict peer unicast seqno s.neighbours ≡ Flush → AreCurrent s → AreCurrentUnless (is_lost (Neighbour peer) t) t
unfolding hello_of
flushed_unless now peer unicast seqno interval s t is flushes current = subst (λ u. AreCurrentUnless (is_lost (Neighbour peer) u) u) (sym is) (by (hello_verdict peer unicast seqno s.neighbours) flushes)
  where
    link : Link
    link = hello_link now unicast seqno interval (link_of peer s.neighbours)

    heard : State
    heard = record s { neighbours = put peer_cmp peer link s.neighbours }

    same : (q : Peer) → eq_by_cmp peer_cmp q peer ≡ false → cost_at s q ≡ cost_at heard q
    same q other = sym (other_cost peer link s.neighbours (λ iface. nominal_cost iface s) q other)

    stays : (r : Route) → is_same_peer r.0.peer peer ≡ false → cost_at s r.0.peer ≡ cost_at heard r.0.peer
    stays r other = same r.0.peer other

    by : (v : Heard) → v ≡ Flush → AreCurrentUnless (is_lost (Neighbour peer) s) (forgets_flushed v peer heard)
    by Kept is = cc
    by Flush is = λ p none.
        choice_stays s.sources (cost_at s) (cost_at heard) p (is_lost (Neighbour peer) s) stays (announces p s) (selected_at p s) s.routes.entries (forgotten peer s.routes.entries)
        (flushed_lost s.sources (cost_at s) (cost_at heard) p peer same s.routes.entries) (not_lost (is_lost (Neighbour peer) s) p s.routes.selections none) (current p)

-- ---- the lost ones are selected again

module _ (lost : Selection → Bool) where
  lost_below : (p : PrefixValue) (ss : Selections) → below_all prefix_cmp p ss ≡ true → below_all prefix_cmp p (units (prefixes_lost lost ss)) ≡ true
  lost_below p [] below = refl
  lost_below p (e ∷ ss) below =
      let parts = and_parts (is_lt (prefix_cmp p e.0)) (below_all prefix_cmp p ss) below in
      by (lost e.1) parts.0 (lost_below p ss parts.1)
    where
      by : (b : Bool) → is_lt (prefix_cmp p e.0) ≡ true → below_all prefix_cmp p (units (prefixes_lost lost ss)) ≡ true → below_all prefix_cmp p (units (map (λ s. s.0) (cond b (e ∷ filter (λ s. lost s.1) ss) (filter (λ s. lost s.1) ss)))) ≡ true
      by true first rest = rw (first, rest) refl
      by false first rest = rest

  lost_sorted : (ss : Selections) → is_sorted prefix_cmp ss ≡ true → is_sorted prefix_cmp (units (prefixes_lost lost ss)) ≡ true
  lost_sorted [] sorted = refl
  lost_sorted (e ∷ ss) sorted =
      let parts = and_parts (below_all prefix_cmp e.0 ss) (is_sorted prefix_cmp ss) sorted in
      by (lost e.1) (lost_below e.0 ss parts.0) (lost_sorted ss parts.1)
    where
      by : (b : Bool) → below_all prefix_cmp e.0 (units (prefixes_lost lost ss)) ≡ true → is_sorted prefix_cmp (units (prefixes_lost lost ss)) ≡ true → is_sorted prefix_cmp (units (map (λ s. s.0) (cond b (e ∷ filter (λ s. lost s.1) ss) (filter (λ s. lost s.1) ss)))) ≡ true
      by true first rest = rw (first, rest) refl
      by false first rest = rest

  pub lost_reselected : (now : ℕ) (s t : State) → is_sorted route_cmp s.routes.entries ≡ true → is_sorted prefix_cmp s.routes.selections ≡ true → AreCurrentUnless lost s → t ≡ reselect_each now (prefixes_lost lost s.routes.selections) s → t ≡ reselect_all now s
  lost_reselected now s t routes selections others is =
      let ps : List PrefixValue = prefixes_lost lost s.routes.selections in
      is ∙ ap (λ qs. reselect_each now qs s) (sym (of_units ps))
      ∙ all_reselected now s routes selections (units ps) (lost_sorted s.routes.selections selections)
      (λ p none. others p (ap (has_prefix p) (sym (of_units ps)) ∙ none))

  -- one selection of the walk
  listed : (b : Bool) (e : PrefixValue × Selection) (ss : Selections) → lost e.1 ≡ b → prefixes_lost lost (e ∷ ss) ≡ cond b (e.0 ∷ prefixes_lost lost ss) (prefixes_lost lost ss)
  listed true e ss is = ap (λ b. map (λ (s : PrefixValue × Selection). s.0) (cond b (e ∷ filter (λ s. lost s.1) ss) (filter (λ s. lost s.1) ss))) is
  listed false e ss is = ap (λ b. map (λ (s : PrefixValue × Selection). s.0) (cond b (e ∷ filter (λ s. lost s.1) ss) (filter (λ s. lost s.1) ss))) is

  pub one_passed : (now place : ℕ) (e : PrefixValue × Selection) (s goal : State) → slice_get s.routes.selections place ≡ Some e → lost e.1 ≡ false → reselect_each now (prefixes_lost lost (drop place s.routes.selections)) s ≡ goal → reselect_each now (prefixes_lost lost (drop (place + 1) s.routes.selections)) s ≡ goal
  one_passed now place e s goal at kept done =
      ap (λ ps. reselect_each now ps s) (sym (ap (prefixes_lost lost) (drop_at s.routes.selections place e at) ∙ listed false e (drop (place + 1) s.routes.selections) kept)) ∙ done

  pub one_reselected : (now place next : ℕ) (e : PrefixValue × Selection) (s t goal : State) → slice_get s.routes.selections place ≡ Some e → lost e.1 ≡ true → t ≡ reselect now None e.0 s → drop next t.routes.selections ≡ drop (place + 1) s.routes.selections → reselect_each now (prefixes_lost lost (drop place s.routes.selections)) s ≡ goal → reselect_each now (prefixes_lost lost (drop next t.routes.selections)) t ≡ goal
  one_reselected now place next e s t goal at gone is rest done =
      ap (λ (ss : Selections). reselect_each now (prefixes_lost lost ss) t) rest
      ∙ ap (reselect_each now (prefixes_lost lost (drop (place + 1) s.routes.selections))) is
      ∙ ap (λ ps. reselect_each now ps s) (sym (ap (prefixes_lost lost) (drop_at s.routes.selections place e at) ∙ listed true e (drop (place + 1) s.routes.selections) gone))
      ∙ done

-- A reselection changes no cost, so it loses no other route.
pub same_lost : (loss : Loss) (now : ℕ) (p : PrefixValue) (route : Selection) (s t : State) → t ≡ reselect now None p s → is_lost loss t route ≡ is_lost loss s route
same_lost Cost now p route s t is = ap (λ cost. not (nat_lt cost infinity)) (sym (costs_kept now p route.peer s t is))
same_lost (Deadline moment) now p route s t is = refl
same_lost (Neighbour peer) now p route s t is = refl

-- ---- the next selection

pub fewer_left : (place next : ℕ) (e : PrefixValue × Selection) (ss ts : Selections) → slice_get ss place ≡ Some e → drop next ts ≡ drop (place + 1) ss → length (drop next ts) < length (drop place ss)
fewer_left place next e ss ts at rest = omega (arith, ap length rest, ap length (drop_at ss place e at))

after_removal : {X : Type 0} (xs : List X) (i : ℕ) → drop i (remove xs i) ≡ drop (i + 1) xs
after_removal {X = X} xs i = rw (add-one i) (by xs i)
  where
    by : (ys : List X) (i : ℕ) → drop i (remove ys i) ≡ drop (suc i) ys
    by [] zero = refl
    by [] (suc i) = refl
    by (y ∷ ys) zero = refl
    by (y ∷ ys) (suc i) = by ys i

-- ---- a prefix without a finite route

no_candidates : (sources : Sources) (cost : Peer → ℕ) (rs : RouteEntries) → list_any is_finite_route rs ≡ false → filter (is_candidate sources cost) rs ≡ []
no_candidates sources cost [] none = refl
no_candidates sources cost (r ∷ rs) none =
    let parts = or_parts (is_finite_route r) (list_any is_finite_route rs) none in
    let above : infinity ≤ r.1.distance.metric = ltb-false r.1.distance.metric infinity parts.0 in
    ap (λ b. cond b (r ∷ filter (is_candidate sources cost) rs) (filter (is_candidate sources cost) rs)) (infinite_is_none sources cost r (omega (arith, above)))
    ∙ no_candidates sources cost rs parts.1

none_unfeasible : (sources : Sources) (rs : RouteEntries) → list_any is_finite_route rs ≡ false → list_any (is_unfeasible sources) rs ≡ false
none_unfeasible sources [] none = refl
none_unfeasible sources (r ∷ rs) none =
    let parts = or_parts (is_finite_route r) (list_any is_finite_route rs) none in
    rw (parts.0, none_unfeasible sources rs parts.1) refl

abbrev pub without_selection : PrefixValue → State → State
without_selection p s = record s { routes = record s.routes { selections = without prefix_cmp p s.routes.selections } }

module _ (now place : ℕ) (p : PrefixValue) (s t u : State) (sorted : AreSelectionsInOrder s) (at : IsAt p s.routes.selections place) (none : list_any is_finite_route (routes_of p s.routes.entries) ≡ false) (unselected : t ≡ without_selection p s) (queues : u ≡ queue (updates_to_all p t) t) where
  chosen_none : (local : Bool) → choice s.sources (cost_at s) p local (selected_at p s) s.routes.entries ≡ None
  chosen_none true = refl
  chosen_none false = ap (λ rs. option_map selection_of (first_of (preference (cost_at s) (peer_before (selected_at p s))) rs)) (no_candidates s.sources (cost_at s) (routes_of p s.routes.entries) none)

  selects_none : select p s ≡ t
  selects_none = ap (λ value. record s { routes = record s.routes { selections = with_value prefix_cmp p value s.routes.selections } }) (chosen_none (announces p s)) ∙ sym unselected

  had : selected_at p s ≡ Some at.0
  had = find_hit prefix_cmp prefix_total s.routes.selections place (p, at.0) sorted at.1

  has_none : selected_at p t ≡ None
  has_none = ap (selected_at p) unselected ∙ selected_here p None s.routes.selections

  none_asked : list_any (is_unfeasible u.sources) (routes_of p u.routes.entries) ≡ false
  none_asked =
      (λ i. list_any (is_unfeasible (same i).sources) (routes_of p (same i).routes.entries)) ∙ none_unfeasible s.sources (routes_of p s.routes.entries) none
    where
      same : u ≡ queue (updates_to_all p (without_selection p s)) (without_selection p s)
      same = queues ∙ ap (λ (v : State). queue (updates_to_all p v) v) unselected

  not_asked : may_request_for_lost p u ≡ false
  not_asked = and_neither (not (announces p u)) _ none_asked

  pub lost_selection : u ≡ reselect now None p s
  unfolding reselect
  lost_selection =
      sym (
      (λ i. follow_up now None p (had i) (selected_at p (selects_none i)) (selects_none i))
      ∙ ap (λ value. follow_up now None p (Some at.0) value t) has_none
      ∙ ap (λ (v : State). if may_request_for_lost p v then request_for_lost now p at.0 v else v) (sym queues)
      ∙ ap (λ b. if b then request_for_lost now p at.0 u else u) not_asked
      )

  pub after_lost : drop place u.routes.selections ≡ drop (place + 1) s.routes.selections
  after_lost =
      ap (λ (v : State). drop place v.routes.selections) queues
      ∙ ap (λ (v : State). drop place v.routes.selections) unselected
      ∙ ap (drop place) (without_hit prefix_cmp prefix_total s.routes.selections place (p, at.0) sorted at.1)
      ∙ after_removal s.routes.selections place

-- ---- no link has a finite cost

none_over_lost : (sources : Sources) (cost : Peer → ℕ) → ((peer : Peer) → infinity ≤ cost peer) → (rs : RouteEntries) → filter (is_candidate sources cost) rs ≡ []
none_over_lost sources cost lost [] = refl
none_over_lost sources cost lost (r ∷ rs) =
    ap (λ b. cond b (r ∷ filter (is_candidate sources cost) rs) (filter (is_candidate sources cost) rs)) (infinite_is_none sources cost r (omega (arith, lost r.0.peer)))
    ∙ none_over_lost sources cost lost rs

pub costly_none : (p : PrefixValue) (s : State) → ((peer : Peer) → infinity ≤ cost_at s peer) → select p s ≡ without_selection p s
costly_none p s lost = ap (λ value. record s { routes = record s.routes { selections = with_value prefix_cmp p value s.routes.selections } }) (by (announces p s))
  where
    by : (local : Bool) → choice s.sources (cost_at s) p local (selected_at p s) s.routes.entries ≡ None
    by true = refl
    by false = ap (λ rs. option_map selection_of (first_of (preference (cost_at s) (peer_before (selected_at p s))) rs)) (none_over_lost s.sources (cost_at s) lost (routes_of p s.routes.entries))

pub had_first : (e : PrefixValue × Selection) (s : State) → AreSelectionsInOrder s → slice_get s.routes.selections 0 ≡ Some e → selected_at e.0 s ≡ Some e.1
had_first e s sorted at = find_hit prefix_cmp prefix_total s.routes.selections 0 e sorted at

pub none_selected : (p : PrefixValue) (s : State) → selected_at p (without_selection p s) ≡ None
none_selected p s = selected_here p None s.routes.selections

pub first_gone : (now : ℕ) (e : PrefixValue × Selection) (s t : State) → AreSelectionsInOrder s → slice_get s.routes.selections 0 ≡ Some e → ((peer : Peer) → infinity ≤ cost_at s peer) → t ≡ reselect now None e.0 s → t.routes.selections ≡ drop 1 s.routes.selections
unfolding kept_of
first_gone now e s t sorted at lost is =
    ap (λ (v : State). v.routes.selections) is ∙ ap (λ (v : State). v.routes.selections) (reselects_kept now None e.0 s)
    ∙ ap (λ (v : State). v.routes.selections) (costly_none e.0 s lost)
    ∙ without_hit prefix_cmp prefix_total s.routes.selections 0 e sorted at ∙ after_removal s.routes.selections 0

-- Each selected route is lost.
pub all_unless : (s : State) → AreCurrentUnless (is_lost Cost s) s → ((peer : Peer) → infinity ≤ cost_at s peer) → AreCurrentUnless (λ route. true) s
all_unless s others lost p none = others p (fewer s.routes.selections none)
  where
    fewer : (ss : Selections) → has_prefix p (prefixes_lost (λ route. true) ss) ≡ false → has_prefix p (prefixes_lost (is_lost Cost s) ss) ≡ false
    fewer [] none = refl
    fewer (e ∷ ss) none =
        let parts = or_parts (eq_by_cmp prefix_cmp p e.0) (has_prefix p (prefixes_lost (λ route. true) ss)) none in
        by (is_lost Cost s e.1) parts.0 (fewer ss parts.1)
      where
        by : (b : Bool) → eq_by_cmp prefix_cmp p e.0 ≡ false → has_prefix p (prefixes_lost (is_lost Cost s) ss) ≡ false → has_prefix p (map (λ s. s.0) (cond b (e ∷ filter (λ f. is_lost Cost s f.1) ss) (filter (λ f. is_lost Cost s f.1) ss))) ≡ false
        by true other rest = rw (other, rest) refl
        by false other rest = rest

-- ---- a prefix with a finite route

-- What a reselection leaves of the selections after the one of its prefix.
pub next_selected : (now place : ℕ) (p : PrefixValue) (change : OriginChange) (s t u : State) → AreSelectionsInOrder s → IsAt p s.routes.selections place → t ≡ select p s → change ≡ origin_change (selected_at p s) (selected_at p t) → u ≡ reselect now None p s → drop (if is_loss change then place else place + 1) u.routes.selections ≡ drop (place + 1) s.routes.selections
unfolding kept_of
next_selected now place p change s t u sorted at selects changes is =
    ap (λ (ss : Selections). drop (if is_loss change then place else place + 1) ss) (ap (λ (v : State). v.routes.selections) is ∙ ap (λ (v : State). v.routes.selections) (reselects_kept now None p s))
    ∙ by (choice_at s.sources (cost_at s) p (announces p s) s.routes) (changes ∙ (λ i. origin_change (before i) (after i)))
  where
    ss : Selections
    ss = s.routes.selections

    chosen : Option Selection
    chosen = choice_at s.sources (cost_at s) p (announces p s) s.routes

    before : selected_at p s ≡ Some at.0
    before = find_hit prefix_cmp prefix_total ss place (p, at.0) sorted at.1

    after : selected_at p t ≡ chosen
    after = ap (selected_at p) selects ∙ selected_here p chosen ss

    not_loss : (b : Bool) → is_loss (if b then origins.Same else origins.New) ≡ false
    not_loss true = refl
    not_loss false = refl

    by : (value : Option Selection) → change ≡ origin_change (Some at.0) value → drop (if is_loss change then place else place + 1) (with_value prefix_cmp p value ss) ≡ drop (place + 1) ss
    by None lost = rw lost (ap (drop place) (without_hit prefix_cmp prefix_total ss place (p, at.0) sorted at.1) ∙ after_removal ss place)
    by (Some w) kept =
        rw (ap is_loss kept ∙ not_loss _)
        (ap (drop (place + 1)) (put_hit prefix_cmp prefix_total w ss place (p, at.0) sorted at.1) ∙ drop-set-lt (place + 1) ss place (p, w) (omega arith))

-- ---- whether a selected route is lost

module _ (lost : Selection → Bool) (place : ℕ) (e : PrefixValue × Selection) (ss : Selections) (at : slice_get ss place ≡ Some e) where
  next_lost : is_any_lost lost (drop place ss) ≡ (lost e.1 || is_any_lost lost (drop (place + 1) ss))
  next_lost = ap (is_any_lost lost) (drop_at ss place e at)

  pub this_lost : lost e.1 ≡ true → is_any_lost lost (drop place ss) ≡ true
  this_lost gone = next_lost ∙ ap (λ b. b || is_any_lost lost (drop (place + 1) ss)) gone

  pub this_stays : lost e.1 ≡ false → is_any_lost lost (drop place ss) ≡ is_any_lost lost (drop (place + 1) ss)
  this_stays stays = next_lost ∙ ap (λ b. b || is_any_lost lost (drop (place + 1) ss)) stays

-- A tick of the routes changes no selection.
pub still_lost : (now : ℕ) (s t : State) → t ≡ routes_ticked now s → is_any_lost (is_lost (Deadline now) t) t.routes.selections ≡ is_any_lost (is_lost (Deadline now) s) s.routes.selections
unfolding routes_ticked
still_lost now s t is = ap (λ (u : State). is_any_lost (is_lost (Deadline now) u) u.routes.selections) is

-- No route was due, so no selected one was.
module _ (now : ℕ) (s : State) where
  abbrev is_later : Route → Type 0
  is_later r = nat_le r.1.deadline now ≡ false

  candidates_later : (p : PrefixValue) (local : Bool) → expired now s.routes.entries ≡ s.routes.entries → All is_later (candidates s.sources (cost_at s) p local s.routes.entries)
  candidates_later p true same = All-nil is_later
  candidates_later p false same =
      let cs : RouteEntries = candidates s.sources (cost_at s) p false s.routes.entries in
      let left : filter (λ r. not (nat_le r.1.deadline now)) cs ≡ cs = sym (due_lost s.sources (cost_at s) now p s.routes.entries) ∙ ap (candidates s.sources (cost_at s) p false) same in
      subst (All is_later) left
      (All-weaker (λ r. not (nat_le r.1.deadline now) ≡ true) is_later (λ r later. not-true (nat_le r.1.deadline now) later) (filter (λ r. not (nat_le r.1.deadline now)) cs)
      (filter_passes (λ r. not (nat_le r.1.deadline now)) cs))

  chosen_later : (before : Option Peer) (cs : RouteEntries) → All is_later cs → IfSome (option_map selection_of (first_of (preference (cost_at s) before) cs)) (λ v. is_lost (Deadline now) s v ≡ false)
  chosen_later before cs later = by (first_of (preference (cost_at s) before) cs) refl
    where
      by : (o : Option Route) → first_of (preference (cost_at s) before) cs ≡ o → IfSome (option_map selection_of o) (λ v. is_lost (Deadline now) s v ≡ false)
      by None is = tt
      by (Some r) is =
          let first = is_first (preference (cost_at s) before) (preference_total (cost_at s) before) cs r is in
          each_at is_later cs first.place r first.at later

  each_later : (ss : Selections) → ((i : ℕ) (e : PrefixValue × Selection) → slice_get ss i ≡ Some e → is_lost (Deadline now) s e.1 ≡ false) → All (λ e. is_lost (Deadline now) s e.1 ≡ false) ss
  each_later [] later = All-nil (λ e. is_lost (Deadline now) s e.1 ≡ false)
  each_later (e ∷ ss) later = All-cons (λ e. is_lost (Deadline now) s e.1 ≡ false) e ss (later 0 e refl) (each_later ss (λ i f at. later (suc i) f at))

  pub none_lost : AreSelectionsInOrder s → AreCurrent s → routes_ticked now s ≡ s → false ≡ is_any_lost (is_lost (Deadline now) s) s.routes.selections
  unfolding routes_ticked
  none_lost sorted current same =
      sym (list_any_none (λ e. is_lost (Deadline now) s e.1) s.routes.selections (each_later s.routes.selections (λ i e at.
      subst (λ o. IfSome o (λ v. is_lost (Deadline now) s v ≡ false)) (sym (current e.0) ∙ find_hit prefix_cmp prefix_total s.routes.selections i e sorted at)
      (chosen_later (peer_before (selected_at e.0 s)) (candidates s.sources (cost_at s) e.0 (announces e.0 s) s.routes.entries)
      (candidates_later e.0 (announces e.0 s) (ap (λ (t : State). t.routes.entries) same))))))
