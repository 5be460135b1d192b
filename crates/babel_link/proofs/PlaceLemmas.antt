-- What a binary search finds among entries in the order of their keys, and what an edit there does.
use Rattle.std.proofs.Common.{◌≡◌, ℕ, zero, suc, ◌<◌, ◌≤◌, ◌+◌, Bool, true, false, cond, T, List, [], ◌∷◌, length, get_or, set, Some, None, Result, Ok, Err, IfOk, IfErr, refl, sym, ap, ◌∙◌, subst, inl, inr, arith}
use Rattle.std.specs.List.{insert, count_by}
use Rattle.std.specs.List.Sorted.{IsSearchInRange, IsBinarySearchResult, IsNonDecreasingBy, IsPartitionPoint}
use Rattle.std.specs.declared.cmp.Ordering.{Ordering}
use Rattle.std.specs.declared.cmp.Ordering.TheVariants.{Less, Equal, Greater}
use Rattle.std.specs.Ordering.{is_lt, is_eq, ordering_index, ordering_reverse}
use Rattle.std.specs.Cmp.{IsTotalOrder, alike_right, tied_back, tied_itself, first_so, second_so}
use Rattle.std.specs.FinMap.{find, put, is_sorted}
use Rattle.std.specs.FinMap.Entries.{below_all, is_sorted-put}
use Rattle.std.proofs.lemmas.Bool.{cases_lt}
use Rattle.std.proofs.lemmas.List.{get_or_default}
use Rattle.std.proofs.lemmas.List.Sums.{sum_by-cons}
use Rattle.babel_value.specs.declared.keys.Peer.{Peer}
use Rattle.babel_value.specs.Orders.{peer_cmp}
use Rattle.babel_link.specs.declared.links.Link.{Link}
use Rattle.babel_link.specs.Neighbours.{Links, comes_before}
use Rattle.babel_value.proofs.OrderLaws.{peer_total}
use Rattle.babel_value.proofs.Orderings.{less, equal}
use Rattle.babel_link.specs.Places.{IsPlaceOf, IsGapFor}

true_from_T : (b : Bool) → T b → b ≡ true
true_from_T true t = refl
true_from_T false t = absurd t

module _ {K : Type 0} {R : K → K → Ordering} (o : IsTotalOrder R) where
  turned : (k x : K) (r : Ordering) → R x k ≡ r → R k x ≡ ordering_reverse r
  turned k x r e = o.antisymm k x ∙ ap ordering_reverse e

  -- A key below another is compared to k no higher than that one.
  no_higher : (x y k : K) (r : Ordering) → R x y ≡ Less → R y k ≡ r → ordering_index (R x k) ≤ ordering_index r
  no_higher x y k Less lt e = rw (o.trans x y k lt e) (omega arith)
  no_higher x y k Equal lt e = rw (sym (alike_right o y k x e) ∙ lt) (omega arith)
  no_higher x y k Greater lt e = index_le (R x k)
    where
      index_le : (r : Ordering) → ordering_index r ≤ 2
      index_le Less = omega arith
      index_le Equal = omega arith
      index_le Greater = omega arith

module _ {K X : Type 0} (R : K → K → Ordering) where
  below : (k : K) (es : List (K × X)) → below_all R k es ≡ true → (j : ℕ) (d : K × X) → j < length es → R k (get_or es j d).0 ≡ Less
  below k [] all j d within = absurd (omega arith)
  below k (e ∷ es) all zero d within = less _ (first_so _ (below_all R k es) all)
  below k (e ∷ es) all (suc j) d within = below k es (second_so (is_lt (R k e.0)) _ all) j d (omega arith)

  -- The keys of a list in order rise.
  pub rises : (es : List (K × X)) → is_sorted R es ≡ true → (i j : ℕ) (d : K × X) → i < j → j < length es → R (get_or es i d).0 (get_or es j d).0 ≡ Less
  rises [] sorted i j d lt within = absurd (omega arith)
  rises (e ∷ es) sorted i zero d lt within = absurd (omega arith)
  rises (e ∷ es) sorted zero (suc j) d lt within = below e.0 es (first_so _ (is_sorted R es) sorted) j d (omega arith)
  rises (e ∷ es) sorted (suc i) (suc j) d lt within = rises es (second_so (below_all R e.0 es) _ sorted) i j d (omega arith) (omega arith)

  -- Every entry before place i has a key below k.
  abbrev pub AllAbove : K → List (K × X) → ℕ → Type 0
  AllAbove k es i = (j : ℕ) (d : K × X) → j < i → j < length es → R k (get_or es j d).0 ≡ Greater

  pub find_at : (k : K) (es : List (K × X)) (i : ℕ) (d : K × X) → AllAbove k es i → i < length es → R k (get_or es i d).0 ≡ Equal → find R k es ≡ Some (get_or es i d).1
  find_at k [] i d before within here = absurd (omega arith)
  find_at k (e ∷ es) zero d before within here = rw here refl
  find_at k (e ∷ es) (suc i) d before within here =
      let first : R k e.0 ≡ Greater = before 0 d (omega arith) (omega arith) in
      rw first (find_at k es i d (λ j c lt below. before (suc j) c (omega arith) (omega arith)) (omega arith) here)

  pub put_at : (k : K) (v : X) (es : List (K × X)) (i : ℕ) (d : K × X) → AllAbove k es i → i < length es → R k (get_or es i d).0 ≡ Equal → put R k v es ≡ set es i ((get_or es i d).0, v)
  put_at k v [] i d before within here = absurd (omega arith)
  put_at k v (e ∷ es) zero d before within here = rw here refl
  put_at k v (e ∷ es) (suc i) d before within here =
      let first : R k e.0 ≡ Greater = before 0 d (omega arith) (omega arith) in
      rw first (ap (λ rest. e ∷ rest) (put_at k v es i d (λ j c lt below. before (suc j) c (omega arith) (omega arith)) (omega arith) here))

  -- Every entry from place i on has a key above k.
  abbrev pub AllBelow : K → List (K × X) → ℕ → Type 0
  AllBelow k es i = (j : ℕ) (d : K × X) → i ≤ j → j < length es → R k (get_or es j d).0 ≡ Less

  pub find_in_gap : (k : K) (es : List (K × X)) (i : ℕ) → AllAbove k es i → AllBelow k es i → find R k es ≡ None
  find_in_gap k [] i before after = refl
  find_in_gap k (e ∷ es) zero before after =
      let first : R k e.0 ≡ Less = after 0 e (omega arith) (omega arith) in
      rw first (find_in_gap k es zero (λ j c lt below. absurd (omega arith)) (λ j c le below. after (suc j) c (omega arith) (omega arith)))
  find_in_gap k (e ∷ es) (suc i) before after =
      let first : R k e.0 ≡ Greater = before 0 e (omega arith) (omega arith) in
      rw first (find_in_gap k es i (λ j c lt below. before (suc j) c (omega arith) (omega arith)) (λ j c le below. after (suc j) c (omega arith) (omega arith)))

  pub put_in_gap : (k : K) (v : X) (es : List (K × X)) (i : ℕ) → i ≤ length es → AllAbove k es i → AllBelow k es i → put R k v es ≡ insert es i (k, v)
  put_in_gap k v [] zero within before after = refl
  put_in_gap k v [] (suc i) within before after = absurd (omega arith)
  put_in_gap k v (e ∷ es) zero within before after =
      let first : R k e.0 ≡ Less = after 0 e (omega arith) (omega arith) in rw first refl
  put_in_gap k v (e ∷ es) (suc i) within before after =
      let first : R k e.0 ≡ Greater = before 0 e (omega arith) (omega arith) in
      rw first (ap (λ rest. e ∷ rest) (put_in_gap k v es i (omega arith) (λ j c lt below. before (suc j) c (omega arith) (omega arith)) (λ j c le below. after (suc j) c (omega arith) (omega arith))))

  module _ (o : IsTotalOrder R) where
    -- Along a list in order the comparisons with k never fall back, as a binary search asks.
    pub searchable : (es : List (K × X)) → is_sorted R es ≡ true → (k : K) → IsNonDecreasingBy (λ e. ordering_index (R e.0 k)) es
    searchable es sorted k i j d le within =
        elim (cases_lt i j) [
          | inl lt ↦ no_higher o _ _ k _ (rises es sorted i j d lt within) refl
          | inr ge ↦ (let same : i ≡ j = omega arith in rw same (omega arith))
        ]

    -- What a binary search for k says of the places.
    pub before_found : (es : List (K × X)) → is_sorted R es ≡ true → (k : K) (i : ℕ) → i < length es → ((d : K × X) → R (get_or es i d).0 k ≡ Equal) → AllAbove k es i
    before_found es sorted k i within here j d lt below =
        turned o k (get_or es j d).0 Less (sym (alike_right o (get_or es i d).0 k (get_or es j d).0 (here d)) ∙ rises es sorted j i d lt within)

-- At the neighbours.
module _ (es : Links) (sorted : is_sorted peer_cmp es ≡ true) (peer : Peer) where
  place_of_found : (i : ℕ) → i < length es → ((d : Peer × Link) → peer_cmp (get_or es i d).0 peer ≡ Equal) → IsPlaceOf peer es i
  place_of_found i within here =
      let before = before_found peer_cmp peer_total es sorted peer i within here in
      record {
        within = within;
        found = λ d. find_at peer_cmp peer es i d before within (tied_back peer_total (get_or es i d).0 peer (here d));
        written = λ link d. put_at peer_cmp peer link es i d before within (tied_back peer_total (get_or es i d).0 peer (here d));
      }

  -- An entry with the peer's key is at the peer's place.
  pub place_of_entry : (i : ℕ) (e : Peer × Link) → i < length es → e ≡ get_or es i e → is_eq (peer_cmp e.0 peer) ≡ true → IsPlaceOf peer es i
  place_of_entry i e within read same =
      place_of_found i within (λ d. ap (λ (x : Peer × Link). peer_cmp x.0 peer) (get_or_default es i d e within ∙ sym read) ∙ equal (peer_cmp e.0 peer) same)

  gap_of_absent : (i : ℕ) → i ≤ length es → IsPartitionPoint (λ e. peer_cmp e.0 peer ≡ Less) (λ e. peer_cmp e.0 peer ≡ Greater) es i → IsGapFor peer es i
  gap_of_absent i within parted =
      let before : AllAbove peer_cmp peer es i = λ j d lt below. turned peer_total peer _ Less (parted.0 j d (omega arith) lt) in
      let after : AllBelow peer_cmp peer es i = λ j d le below. turned peer_total peer _ Greater (parted.1 j d le below) in
      record {
        within = within;
        absent = find_in_gap peer_cmp peer es i before after;
        inserted = λ link. put_in_gap peer_cmp peer link es i within before after;
      }

  -- A binary search ends at the peer's place, or at the gap for it.
  pub searched : (r : Result ℕ ℕ) → IsSearchInRange r (length es) → IsBinarySearchResult (λ e. peer_cmp e.0 peer) es r → record { found : IfOk r (IsPlaceOf peer es); absent : IfErr r (IsGapFor peer es) }
  searched (Ok i) within here = record { found = place_of_found i within here; absent = tt }
  searched (Err i) within parted = record { found = tt; absent = gap_of_absent i within (parted (searchable peer_cmp peer_total es sorted peer)) }

  -- To put a link keeps the order.
  pub is_sorted-put_link : (link : Link) → is_sorted peer_cmp (put peer_cmp peer link es) ≡ true
  is_sorted-put_link link = true_from_T _ (is_sorted-put peer_cmp peer_total peer link es (subst T (sym sorted) tt))

  -- So does an entry that is written in its place, and one that is inserted in the gap for it.
  pub is_sorted-written : (place : ℕ) (entry : Peer × Link) (link : Link) → IsPlaceOf peer es place → entry ≡ get_or es place entry → is_sorted peer_cmp (set es place (entry.0, link)) ≡ true
  is_sorted-written place entry link here read =
      let written : put peer_cmp peer link es ≡ set es place (entry.0, link) =
      here.written link entry ∙ ap (λ (e : Peer × Link). set es place (e.0, link)) (sym read) in
      subst (λ (links : Links). is_sorted peer_cmp links ≡ true) written (is_sorted-put_link link)

  pub is_sorted-inserted : (place : ℕ) (link : Link) → IsGapFor peer es place → is_sorted peer_cmp (insert es place (peer, link)) ≡ true
  is_sorted-inserted place link gap = subst (λ (links : Links). is_sorted peer_cmp links ≡ true) (gap.inserted link) (is_sorted-put_link link)

count_cons : (peer : Peer) (e : Peer × Link) (es : Links) (first : Ordering) → peer_cmp e.0 peer ≡ first → count_by (comes_before peer) (e ∷ es) ≡ cond (is_lt first) 1 0 + count_by (comes_before peer) es
count_cons peer e es first is =
    sum_by-cons (λ x. cond (comes_before peer x) 1 0) e es ∙ ap (λ r. cond (is_lt r) 1 0 + count_by (comes_before peer) es) is

-- No entry above the peer comes before it.
count_above : (peer : Peer) (es : Links) → below_all peer_cmp peer es ≡ true → count_by (comes_before peer) es ≡ 0
count_above peer [] above = refl
count_above peer (e ∷ es) above =
    let first : peer_cmp e.0 peer ≡ Greater = turned peer_total e.0 peer Less (less _ (first_so (is_lt (peer_cmp peer e.0)) _ above)) in
    count_cons peer e es Greater first ∙ omega (arith, count_above peer es (second_so (is_lt (peer_cmp peer e.0)) _ above))

-- The place of an entry is the number of entries before it.
pub count_before : (es : Links) → is_sorted peer_cmp es ≡ true → (i : ℕ) (d : Peer × Link) → i < length es → count_by (comes_before (get_or es i d).0) es ≡ i
count_before [] sorted i d within = absurd (omega arith)
count_before (e ∷ es) sorted zero d within =
    let first : peer_cmp e.0 e.0 ≡ Equal = tied_itself peer_total e.0 in
    count_cons e.0 e es Equal first ∙ omega (arith, count_above e.0 es (first_so _ (is_sorted peer_cmp es) sorted))
count_before (e ∷ es) sorted (suc i) d within =
    let first : peer_cmp e.0 (get_or es i d).0 ≡ Less = below peer_cmp e.0 es (first_so _ (is_sorted peer_cmp es) sorted) i d (omega arith) in
    count_cons (get_or es i d).0 e es Less first ∙ omega (arith, count_before es (second_so (below_all peer_cmp e.0 es) _ sorted) i d (omega arith))
