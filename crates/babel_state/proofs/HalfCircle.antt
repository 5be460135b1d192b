-- While the seqnos of a prefix lie in one half of the circle, sending keeps its selection current.
use Rattle.std.specs.Prelude.{◌≡◌, ℕ, ◌<◌, Bool, true, false, ◌||◌, not, nat_lt, List, [], ◌∷◌, All, filter, slice_get, slice_index_or, Option, Some, None, if◌then◌else◌}
use Rattle.std.specs.Option.{option_map}
use Rattle.std.proofs.Common.{refl, sym, ap, subst, ◌∙◌, arith, inl, inr}
use Rattle.std.proofs.lemmas.Bool.{or_right, false≢true}
use Rattle.std.proofs.lemmas.Bool.Decides.{nat_tests}
use Rattle.std.proofs.lemmas.Option.{same_Some, none-some}
use Rattle.std.proofs.lemmas.List.Elements.{All-nil, All-head, All-tail, All-filter, filter_passes}
use Rattle.babel_value.specs.declared.distances.Distance.{Distance}
use Rattle.babel_value.specs.declared.keys.Source.{Source}
use Rattle.babel_value.specs.Distances.{is_better}
use Rattle.babel_value.specs.Orders.{source_cmp}
use Rattle.babel_value.specs.Prefixes.{PrefixValue}
use Rattle.babel_value.specs.Seqnos.{lift, is_before}
use Rattle.babel_value.proofs.OrderLaws.{source_exact}
use Rattle.babel_value.proofs.Orderings.{equal}
use Rattle.babel_value.proofs.Lifting.{order_lifted}
use Rattle.babel_message.specs.declared.messages.Message.{Message}
use Rattle.babel_choice.specs.declared.entries.RouteKey.{RouteKey}
use Rattle.babel_choice.specs.declared.entries.Selection.{Selection}
use Rattle.babel_sources.specs.Distances.{is_feasible}
use Rattle.babel_choice.specs.Routes.{Route}
use Rattle.babel_choice.specs.Choices.{routes_of, is_feasible_route}
use Rattle.babel_sources.specs.Sources.{Sources, pair_of}
use Rattle.babel_state.specs.declared.items.Target.{Target}
use Rattle.babel_state.specs.declared.selected.Selected.{Selected}
use Rattle.babel_state.specs.Calls.{selected_route, reported_selected}
use Rattle.babel_state.specs.CurrentSelections.{IsInHalf, AreInHalf}
use Rattle.babel_state.specs.Invariants.{AreSelectable, SendingKeepsSelections, SendingKeepsCurrentInHalf}
use Rattle.babel_state.specs.NextDatagram.{next_datagram}
use Rattle.babel_state.specs.Seen.{UpdateValue, seen, updates_among, is_of_source, all_lowered, Advertises, IsOwnUpdate, IsRouteUpdate}
use Rattle.babel_state.specs.State.{State, announces, pair_at, selected_at}
use Rattle.babel_state.proofs.DatagramsSent.{AreSent, draft_of, selected_stay}
use Rattle.babel_state.proofs.SendingLaws.{sending_known, sending_lowers}
use Rattle.babel_state.proofs.SendingTables.{sending_well}
use Rattle.babel_state.proofs.StayingCurrent.{route_at, stays_current, revives_none}

-- ---- in one half the order is transitive

better_through : (first : ℕ) (d u e : Distance) → first < 65536 → IsInHalf first d.seqno → IsInHalf first u.seqno → IsInHalf first e.seqno → is_better d u ≡ true → is_better u e ≡ true → is_better d e ≡ true
better_through first d u e f0 hd hu he du ue =
    by (order_lifted first u.seqno d.seqno f0 hu.0 hd.0 hu.1 hd.1) (order_lifted first e.seqno u.seqno f0 he.0 hu.0 he.1 hu.1) (order_lifted first e.seqno d.seqno f0 he.0 hd.0 he.1 hd.1)
  where
    by : is_before u.seqno d.seqno ≡ nat_lt (lift first u.seqno) (lift first d.seqno) → is_before e.seqno u.seqno ≡ nat_lt (lift first e.seqno) (lift first u.seqno) →
        is_before e.seqno d.seqno ≡ nat_lt (lift first e.seqno) (lift first d.seqno) → is_better d e ≡ true
    by p q r = grind (arith, nat_tests, p, q, r, du, ue)

-- ---- what a lowered source makes feasible was feasible

feasible_through : (first : ℕ) (d u e : Distance) → first < 65536 → IsInHalf first d.seqno → IsInHalf first u.seqno → IsInHalf first e.seqno → is_better u e ≡ true →
    is_feasible (Some u) d ≡ true → is_feasible (Some e) d ≡ true
feasible_through first d u e f0 hd hu he ue feasible = by (nat_lt d.metric 65535) refl feasible
  where
    by : (finite : Bool) → nat_lt d.metric 65535 ≡ finite → (not finite || is_better d u) ≡ true → (not finite || is_better d e) ≡ true
    by true is better = better_through first d u e f0 hd hu he better ue
    by false is better = refl

feasible_before : (first : ℕ) (d : Distance) (us : List UpdateValue) (e : Distance) → first < 65536 → IsInHalf first d.seqno → IsInHalf first e.seqno → All (λ u. IsInHalf first u.distance.seqno) us →
    is_feasible (all_lowered us (Some e)) d ≡ true → is_feasible (Some e) d ≡ true
feasible_before first d [] e f0 hd he each feasible = feasible
feasible_before first d (u ∷ us) e f0 hd he each feasible =
    by (is_better u.distance e) refl feasible (λ t ht feasible. feasible_before first d us t f0 hd ht (All-tail (λ u. IsInHalf first u.distance.seqno) u us each) feasible)
  where
    hu : IsInHalf first u.distance.seqno
    hu = All-head (λ u. IsInHalf first u.distance.seqno) u us each

    by : (b : Bool) → is_better u.distance e ≡ b → is_feasible (all_lowered us (Some (if b then u.distance else e))) d ≡ true →
        ((t : Distance) → IsInHalf first t.seqno → is_feasible (all_lowered us (Some t)) d ≡ true → is_feasible (Some t) d ≡ true) → is_feasible (Some e) d ≡ true
    by true better feasible rest = feasible_through first d u.distance e f0 hd hu he better (rest u.distance hu feasible)
    by false better feasible rest = rest e he feasible

-- ---- the updates of a datagram are in the half of their prefix

all_advertised : (s : State) (target : Option Target) (ms : List Message) → AreSent s target ms → All (Advertises (seen s)) (updates_among ms)
all_advertised s None ms sent = subst (λ ms. All (Advertises (seen s)) (updates_among ms)) (sym sent) (All-nil (Advertises (seen s)))
all_advertised s (Some target) ms sent = sent.0

module _ (s : State) (first : ℕ) (prefix : PrefixValue) (half : AreInHalf first prefix s) (selectable : AreSelectable s) (other : announces prefix s ≡ false) where
  route_half : (u : UpdateValue) → prefix ≡ u.prefix → IsRouteUpdate (seen s) u → IsInHalf first u.distance.seqno
  unfolding seen selected_route
  route_half u same r = by (selected_at prefix s) refl (subst (λ p. selected_route p s ≡ Some r.0) (sym same) r.1)
    where
      seqno : u.distance.seqno ≡ r.0.distance.seqno
      seqno = ap (λ (d : Distance). d.seqno) r.3

      by : (m : Option Selection) → selected_at prefix s ≡ m → option_map (reported_selected prefix s) m ≡ Some r.0 → IsInHalf first u.distance.seqno
      by None at is = absurd (none-some r.0 is)
      by (Some route) at is =
          let entry : route.entry.distance.seqno ≡ r.0.distance.seqno = ap (λ (c : Selected). c.distance.seqno) (same_Some (reported_selected prefix s route) r.0 is) in
          subst (IsInHalf first) (entry ∙ sym seqno) (half.routes route.peer route.entry (selectable prefix route at).0)

  own_half : (u : UpdateValue) → prefix ≡ u.prefix → IsOwnUpdate (seen s) u → IsInHalf first u.distance.seqno
  unfolding seen
  own_half u same own = absurd (false≢true (sym other ∙ (ap (λ p. announces p s) same ∙ own.0)))

  update_half : (router : List ℕ) (u : UpdateValue) → is_of_source prefix router u ≡ true → Advertises (seen s) u → IsInHalf first u.distance.seqno
  update_half router u of_source advertised =
      let one : Source = record { prefix = prefix; router = router } in
      let two : Source = record { prefix = u.prefix; router = u.router } in
      by (ap (λ (k : Source). k.prefix) (source_exact one two (equal (source_cmp one two) of_source))) advertised
    where
      by : prefix ≡ u.prefix → Advertises (seen s) u → IsInHalf first u.distance.seqno
      by same (inl own) = own_half u same own
      by same (inr r) = route_half u same r

  all_half : (router : List ℕ) (us : List UpdateValue) → All (Advertises (seen s)) us → All (λ u. IsInHalf first u.distance.seqno) (filter (is_of_source prefix router) us)
  all_half router us advertised = λ k d below.
      update_half router (slice_index_or (filter (is_of_source prefix router) us) k d) (filter_passes (is_of_source prefix router) us k d below) (All-filter (is_of_source prefix router) (Advertises (seen s)) us advertised k d below)

  revives : (sources : Sources) (us : List UpdateValue) → All (Advertises (seen s)) us → (router : List ℕ) (d : Distance) → IsInHalf first d.seqno →
      is_feasible (all_lowered (filter (is_of_source prefix router) us) (pair_at prefix router s)) d ≡ true → is_feasible (pair_at prefix router s) d ≡ true
  revives sources us advertised router d hd feasible = by (pair_at prefix router s) refl feasible
    where
      by : (m : Option Distance) → pair_at prefix router s ≡ m → is_feasible (all_lowered (filter (is_of_source prefix router) us) m) d ≡ true → is_feasible m d ≡ true
      by None at feasible = or_right (not (nat_lt d.metric 65535)) true refl
      by (Some e) at feasible = feasible_before first d (filter (is_of_source prefix router) us) e half.begins hd (half.sources router e at) (all_half router us advertised) feasible

-- ---- the laws

pub half_current : SendingKeepsCurrentInHalf
half_current now fits s first prefix well half current =
    stays_current s (next_datagram now fits s).state prefix (sending_known now fits s) well.tables.routes.entries_in_order (sending_well now fits s well).selections none current
  where
    t : State
    t = (next_datagram now fits s).state

    us : List UpdateValue
    us = updates_among (next_datagram now fits s).messages

    advertised : All (Advertises (seen s)) us
    advertised = all_advertised s (next_datagram now fits s).target (next_datagram now fits s).messages (draft_of s now fits).1

    none : announces prefix s ≡ false → (i : ℕ) (r : Route) → slice_get (routes_of prefix s.routes.entries) i ≡ Some r → is_feasible_route t.sources r ≡ true → is_feasible_route s.sources r ≡ true
    none other i r at feasible =
        let route = route_at prefix s i r well.tables.routes.entries_in_order at in
        let here : is_feasible (pair_at prefix r.1.router t) r.1.distance ≡ true =
        subst (λ (k : RouteKey). is_feasible (pair_of (record { prefix = k.prefix; router = r.1.router }) t.sources) r.1.distance ≡ true) route.key feasible
        in
        let lowered = subst (λ m. is_feasible m r.1.distance ≡ true) (sending_lowers now fits s prefix r.1.router) here in
        let before = revives s first prefix half well.selections other t.sources us advertised r.1.router r.1.distance (half.routes r.0.peer r.1 route.entry) lowered in
        subst (λ (k : RouteKey). is_feasible (pair_of (record { prefix = k.prefix; router = r.1.router }) s.sources) r.1.distance ≡ true) (sym route.key) before

pub sending_selections : SendingKeepsSelections
sending_selections now fits s well =
    let kept = selected_stay now fits s well in
    let t : State = (next_datagram now fits s).state in
    record {
      unchanged = kept.0;
      candidate = λ prefix route at. (kept.1 prefix route at).1;
      current = λ prefix current none.
          stays_current s t prefix (sending_known now fits s) well.tables.routes.entries_in_order kept.1 (λ other. revives_none s t prefix none) current;
    }
