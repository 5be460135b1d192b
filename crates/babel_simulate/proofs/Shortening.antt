-- Distances that a search lowers, and the ways whose costs they are.
use Rattle.std.proofs.Common.{◌≡◌, ◌<◌, ◌≤◌, ◌≢◌, ◌+◌, ◌⊎◌, ℕ, List, [], ◌∷◌, Bool, true, false, Some, length, map, take, ◌++◌, get_or, refl, sym, ◌∙◌, ap, subst, arith, inl, inr}
use Rattle.std.specs.Prelude.{slice_get, IsTrue}
use Rattle.std.proofs.Math.ListN.{set}
use Rattle.std.proofs.lemmas.List.{get_or-set_other, get_or-map, take_at}
use Rattle.std.proofs.lemmas.Grind.{get_or-set_at}
use Rattle.std.proofs.lemmas.Option.{slice_get_within, slice_get-get_or, get_or_from_slice_get}
use Rattle.std.proofs.lemmas.Bool.{cases_order}
use Rattle.babel_simulate.specs.declared.shortest.Edge.{Edge}
use Rattle.babel_simulate.specs.Ways.{Hop, Joins, IsHop, IsWay, way_cost, AreWays, AreShortest, IsShorter, IsSettled, AreSettled, AreLower, AreAtOrigins, first_distance_at}

lowered_here : (origins : List Bool) (edges : List Edge) (ds : List ℕ) (node next cost m : ℕ) → length ds ≡ length origins
    → IsHop edges node (next, cost) → IsShorter ds node next cost → AreWays origins edges ds → m ≡ node → m < length origins
    → (hops : List Hop) × IsWay origins edges m hops × (way_cost hops ≡ get_or (set ds node (get_or ds next 0 + cost)) m 0)
lowered_here origins edges ds node next cost m len hop shorter ways same low =
    let at : get_or (set ds node (get_or ds next 0 + cost)) m 0 ≡ get_or ds next 0 + cost = get_or-set_at ds node m (get_or ds next 0 + cost) 0 same shorter.0 in
    let on : next < length origins = omega (arith, shorter.1) in
    let finite : get_or ds next 0 ≢ 65535 = λ is. omega (arith, shorter.2) in
    let found : (hops : List Hop) × IsWay origins edges next hops × (way_cost hops ≡ get_or ds next 0) = ways next on finite in
    let step : IsHop edges m (next, cost) = subst (λ (x : ℕ). IsHop edges x (next, cost)) (sym same) hop in
    let total : cost + way_cost found.0 ≡ get_or (set ds node (get_or ds next 0 + cost)) m 0 = omega (arith, found.2) in
    ((next, cost) ∷ found.0, (low, step, found.1), total)

lowered_there : (origins : List Bool) (edges : List Edge) (ds : List ℕ) (node over m : ℕ) → AreWays origins edges ds → m ≢ node
    → m < length origins → get_or (set ds node over) m 0 ≢ 65535
    → (hops : List Hop) × IsWay origins edges m hops × (way_cost hops ≡ get_or (set ds node over) m 0)
lowered_there origins edges ds node over m ways other low off =
    let at : get_or (set ds node over) m 0 ≡ get_or ds m 0 = get_or-set_other ds node m over 0 other in
    let found : (hops : List Hop) × IsWay origins edges m hops × (way_cost hops ≡ get_or ds m 0) = ways m low (λ is. off (at ∙ is)) in
    (found.0, found.1, found.2 ∙ sym at)

differ : (a b : ℕ) → (a < b) ⊎ (b < a) → a ≢ b
differ a b (inl low) is = omega arith
differ a b (inr high) is = omega arith

-- A distance that is lowered to that over a link is what a way costs.
ways_lowered : (origins : List Bool) (edges : List Edge) (ds : List ℕ) (node next cost : ℕ) → length ds ≡ length origins
    → IsHop edges node (next, cost) → IsShorter ds node next cost → AreWays origins edges ds
    → AreWays origins edges (set ds node (get_or ds next 0 + cost))
ways_lowered origins edges ds node next cost len hop shorter ways m low off =
    elim (cases_order m node) [
      | inl same ↦ lowered_here origins edges ds node next cost m len hop shorter ways same low
      | inr apart ↦ lowered_there origins edges ds node (get_or ds next 0 + cost) m ways (differ m node apart) low off
    ]

-- One call of `lower` over a link, in one direction.
pub relaxed : (origins : List Bool) (edges : List Edge) (k : ℕ) (e : Edge) (ds new : List ℕ) (node next : ℕ) (b : Bool)
    → (IsTrue b → IsShorter ds node next e.cost) → (IsTrue b → new ≡ set ds node (get_or ds next 0 + e.cost)) → (b ≡ false → new ≡ ds)
    → slice_get edges k ≡ Some e → Joins e node next → length ds ≡ length origins → AreWays origins edges ds → AreWays origins edges new
relaxed origins edges k e ds new node next true shorter lowered kept at joins len ways =
    let P : List ℕ → Type 0 = λ xs. AreWays origins edges xs in
    subst P (sym (lowered refl)) (ways_lowered origins edges ds node next e.cost len (k, e, at, refl, joins) (shorter refl) ways)
relaxed origins edges k e ds new node next false shorter lowered kept at joins len ways =
    let P : List ℕ → Type 0 = λ xs. AreWays origins edges xs in
    subst P (sym (kept refl)) ways

-- Origins keep their distance, and no other is less than 0.
pub zero_kept : (origins : List Bool) (old new : List ℕ) → AreLower old new → AreAtOrigins origins old → AreAtOrigins origins new
zero_kept origins old new lower zero node is = omega (arith, lower.1 node, zero node is)

-- The distances without any link.
pub first_zero : (origins : List Bool) → AreAtOrigins origins (map first_distance_at origins)
first_zero origins node is =
    get_or-map first_distance_at origins node false 0 (slice_get_within origins node true is)
    ∙ ap first_distance_at (get_or_from_slice_get origins node true false is)

pub first_ways : (origins : List Bool) (edges : List Edge) → AreWays origins edges (map first_distance_at origins)
first_ways origins edges node low off = by (get_or origins node false) refl
  where
    at : get_or (map first_distance_at origins) node 0 ≡ first_distance_at (get_or origins node false)
    at = get_or-map first_distance_at origins node false 0 low

    by : (b : Bool) → get_or origins node false ≡ b
        → (hops : List Hop) × IsWay origins edges node hops × (way_cost hops ≡ get_or (map first_distance_at origins) node 0)
    by true is = ([], slice_get-get_or origins node false low ∙ ap Some is, sym (at ∙ ap first_distance_at is))
    by false is = absurd (off (at ∙ ap first_distance_at is))

-- A link that makes no way shorter.
not_above : (ds : List ℕ) (node next cost : ℕ) → (IsShorter ds node next cost → ⊥) → node < length ds → next < length ds
    → get_or ds next 0 + cost < 65535 → get_or ds node 0 ≤ get_or ds next 0 + cost
not_above ds node next cost settled low near finite = by (cases_order (get_or ds node 0) (get_or ds next 0 + cost))
  where
    by : (get_or ds node 0 ≡ get_or ds next 0 + cost)
        ⊎ ((get_or ds node 0 < get_or ds next 0 + cost) ⊎ (get_or ds next 0 + cost < get_or ds node 0))
        → get_or ds node 0 ≤ get_or ds next 0 + cost
    by (inl same) = omega (arith, same)
    by (inr (inl under)) = omega (arith, under)
    by (inr (inr above)) = absurd (settled (low, near, finite, above))

way_low : (origins : List Bool) (edges : List Edge) (node : ℕ) (hops : List Hop) → IsWay origins edges node hops → node < length origins
way_low origins edges node [] way = slice_get_within origins node true way
way_low origins edges node (hop ∷ hops) way = way.0

joined : (ds : List ℕ) (e : Edge) (node next cost : ℕ) → IsSettled ds e → e.cost ≡ cost → Joins e node next → IsShorter ds node next cost → ⊥
joined ds e node next cost settled is (inl ends) shorter =
    settled.0 (subst (λ (x : ℕ). IsShorter ds e.a e.b x) (sym is) (subst (λ (x : ℕ). IsShorter ds e.a x cost) (sym ends.1) (subst (λ (x : ℕ). IsShorter ds x next cost) (sym ends.0) shorter)))
joined ds e node next cost settled is (inr ends) shorter =
    settled.1 (subst (λ (x : ℕ). IsShorter ds e.b e.a x) (sym is) (subst (λ (x : ℕ). IsShorter ds e.b x cost) (sym ends.0) (subst (λ (x : ℕ). IsShorter ds x next cost) (sym ends.1) shorter)))

-- Once no link makes a way shorter, no way costs less than the distance.
pub settled_shortest : (origins : List Bool) (edges : List Edge) (ds : List ℕ) → length ds ≡ length origins → AreAtOrigins origins ds
    → AreSettled edges ds → AreShortest origins edges ds
settled_shortest origins edges ds len zero settled node [] way short = omega (arith, zero node way)
settled_shortest origins edges ds len zero settled node (hop ∷ hops) way short =
    let before : get_or ds hop.0 0 ≤ way_cost hops = settled_shortest origins edges ds len zero settled hop.0 hops way.2 (omega arith) in
    let near : hop.0 < length ds = omega (arith, way_low origins edges hop.0 hops way.2) in
    let low : node < length ds = omega (arith, way.0) in
    let none : IsShorter ds node hop.0 hop.1 → ⊥ = joined ds way.1.1 node hop.0 hop.1 (settled way.1.0 way.1.1 way.1.2) way.1.3 way.1.4 in
    let over : get_or ds node 0 ≤ get_or ds hop.0 0 + hop.1 = not_above ds node hop.0 hop.1 none low near (omega arith) in
    omega arith

-- The distances as they are returned.
pub ended : (origins : List Bool) (edges : List Edge) (items old new rest : List ℕ) (n : ℕ) → old ≡ items → AreLower old new → length new ≡ n
    → n ≡ length origins → AreAtOrigins origins items → AreSettled edges new → AreShortest origins edges (take n (new ++ rest))
ended origins edges items old new rest n is lower whole each zero settled =
    let P : List ℕ → Type 0 = λ xs. AreShortest origins edges xs in
    let Z : List ℕ → Type 0 = λ xs. AreAtOrigins origins xs in
    subst P (sym (take_at new rest n whole))
    (settled_shortest origins edges new (whole ∙ each) (zero_kept origins old new lower (subst Z (sym is) zero)) settled)
