-- What is read of octets without a fault: each record, and that their sources rise.
use Rattle.std.specs.Prelude.{◌≡◌, ℕ, zero, suc, ◌+◌, ◌*◌, ◌<◌, ◌≤◌, ◌^◌, Bool, true, false, not, nat_lt, ◌==◌, List, [], ◌∷◌, ◌++◌, All, take, drop, length, slice_get, Option, Some, None, IsSome, is_some, option_to_list, if◌then◌else◌}
use Rattle.std.specs.Option.{option_or}
use Rattle.std.specs.declared.cmp.Ordering.{Ordering}
use Rattle.std.specs.declared.cmp.Ordering.TheVariants.{Less, Greater}
use Rattle.std.specs.Ordering.{is_lt, is_gt}
use Rattle.std.specs.Cmp.{IsTotalOrder}
use Rattle.std.specs.FinMap.{is_sorted}
use Rattle.std.specs.FinMap.Entries.{below_all}
use Rattle.std.specs.Str.{bytes_eq}
use Rattle.std.proofs.Common.{refl, sym, ap, subst, ◌∙◌, arith, add-one, ◌⊎◌, inl, inr}
use Rattle.std.proofs.lemmas.List.{length-append, length-drop, length-take-le}
use Rattle.std.proofs.lemmas.List.Elements.{All-nil, All-cons, All-append}
use Rattle.std.proofs.lemmas.Bool.{and_parts, and_from, cases_lt, eqb-true, ltb-false, true≢false, not-false}
use Rattle.std.proofs.lemmas.Option.{none-some, slice_get_past}
use Rattle.babel_value.specs.declared.distances.Distance.{Distance}
use Rattle.babel_value.specs.declared.keys.Source.{Source}
use Rattle.babel_value.specs.Orders.{octets_cmp, source_cmp}
use Rattle.babel_value.proofs.OrderLaws.{source_total}
use Rattle.babel_value.proofs.Orderings.{less}
use Rattle.babel_table.specs.Places.{are_lesser}
use Rattle.babel_table.proofs.PlaceLemmas.{greater, turned, turned_back}
use Rattle.babel_state.specs.Restarts.{IsFinitePair, IsSnapshot}
use Rattle.babel_state.specs.declared.errors.RestoreFault.{RestoreFault}
use Rattle.babel_state.specs.declared.errors.RestoreFault.TheVariants as faults
use Rattle.babel_snapshot.specs.Layout as layout
use Rattle.babel_snapshot.specs.Octets.{source_octets}
use Rattle.babel_snapshot.specs.Reading.{record_in, router_in, seqno_in, raises_in, count_in, record_at, key_at, sources_in, snapshot_in, is_in_order, record_fault, records_fault, restore_fault, IsFaultless}
use Rattle.babel_snapshot.proofs.RecordsRead.{IsRecordRead, record_read}
use Rattle.babel_snapshot.proofs.Orders.{sources_in_order}

-- ---- faults

pub or_none : {A : Type 0} (m n : Option A) → option_or m n ≡ None → (m ≡ None) × (n ≡ None)
or_none None n is = (refl, is)
or_none (Some a) n is = absurd (none-some a (sym is))

pub no_fault : (b : Bool) (f : RestoreFault) (rest : Option RestoreFault) → (if b then Some f else rest) ≡ None → (b ≡ false) × (rest ≡ None)
no_fault true f rest is = absurd (none-some f (sym is))
no_fault false f rest is = (refl, is)

there : {A : Type 0} (m : Option A) → is_some m ≡ true → (a : A) × (m ≡ Some a)
there None e = absurd (true≢false (sym e))
there (Some a) e = (a, refl)

pub record IsFine (i : ℕ) (octets : List ℕ) : Type 0 where
  pub e : Source × Distance
  pub is : record_in (record_at i octets) ≡ Some e
  pub in_order : is_in_order i octets ≡ true

pub fine : (i : ℕ) (octets : List ℕ) → record_fault i octets ≡ None → IsFine i octets
unfolding record_fault
fine i octets none =
    let a = no_fault (not (is_some (record_in (record_at i octets)))) (faults.Record i) (if not (is_in_order i octets) then Some (faults.Order i) else None) none in
    let b = no_fault (not (is_in_order i octets)) (faults.Order i) None a.1 in
    let e = there (record_in (record_at i octets)) (not-false (is_some (record_in (record_at i octets))) a.0) in
    record { e = e.0; is = e.1; in_order = not-false (is_in_order i octets) b.0 }

pub no_more : (n : ℕ) (octets : List ℕ) → records_fault n octets ≡ None → record_fault n octets ≡ None → records_fault (n + 1) octets ≡ None
no_more n octets none here =
    ap (λ k. records_fault k octets) (add-one n) ∙ ap (λ m. option_or m (record_fault n octets)) none ∙ here

-- the first fault stays the first
pub first_fault : (n i : ℕ) (octets : List ℕ) (f : RestoreFault) → i < n → records_fault i octets ≡ None → record_fault i octets ≡ Some f → records_fault n octets ≡ Some f
first_fault zero i octets f below none here = absurd (omega arith)
first_fault (suc n) i octets f below none here = by (cases_lt i n) (λ less. first_fault n i octets f less none here)
  where
    by : (i < n) ⊎ (n ≤ i) → (i < n → records_fault n octets ≡ Some f) → option_or (records_fault n octets) (record_fault n octets) ≡ Some f
    by (inl less) before = ap (λ m. option_or m (record_fault n octets)) (before less)
    by (inr more) before =
        let same : i ≡ n = omega (arith, below, more) in
        let clean : records_fault n octets ≡ None = subst (λ k. records_fault k octets ≡ None) same none in
        ap (λ m. option_or m (record_fault n octets)) clean ∙ subst (λ k. record_fault k octets ≡ Some f) same here

pub faultless : (router octets : List ℕ) → restore_fault router octets ≡ None → IsFaultless octets
unfolding restore_fault
faultless router octets none =
    let count = count_in octets in
    let e : Option RestoreFault = records_fault count octets in
    let d : Option RestoreFault = if not (length octets == 24 + 30 * count) then Some faults.Length else e in
    let c : Option RestoreFault = if nat_lt 512 count then Some faults.TooManyRecords else d in
    let b : Option RestoreFault = if not (bytes_eq (router_in octets) router) then Some faults.RouterId else c in
    let a : Option RestoreFault = if not (bytes_eq (take 4 octets) layout.beginning) then Some faults.Beginning else b in
    let k1 = no_fault (nat_lt (length octets) 24) faults.TooShort a none in
    let k2 = no_fault (not (bytes_eq (take 4 octets) layout.beginning)) faults.Beginning b k1.1 in
    let k3 = no_fault (not (bytes_eq (router_in octets) router)) faults.RouterId c k2.1 in
    let k4 = no_fault (nat_lt 512 count) faults.TooManyRecords d k3.1 in
    let k5 = no_fault (not (length octets == 24 + 30 * count)) faults.Length e k4.1 in
    record {
      whole = eqb-true (length octets) (24 + 30 * count) (not-false (length octets == 24 + 30 * count) k5.0);
      few = omega (arith, ltb-false 512 count k4.0);
      records = k5.1;
    }

-- ---- the records

pub record_len : (n i : ℕ) (octets : List ℕ) → length octets ≡ 24 + 30 * n → i < n → length (record_at i octets) ≡ 30
record_len n i octets whole below = length-take-le 30 (drop (24 + 30 * i) octets) (omega (arith, whole, below, length-drop (24 + 30 * i) octets))

get_left : {A : Type 0} (xs ys : List A) (i : ℕ) → i < length xs → slice_get (xs ++ ys) i ≡ slice_get xs i
get_left [] ys i below = absurd (omega (arith, below))
get_left (x ∷ xs) ys zero below = refl
get_left (x ∷ xs) ys (suc i) below = get_left xs ys i (omega (arith, below))

get_last : {A : Type 0} (xs : List A) (x : A) (i : ℕ) → length xs ≡ i → slice_get (xs ++ x ∷ []) i ≡ Some x
get_last [] x zero e = refl
get_last [] x (suc i) e = absurd (omega (arith, e))
get_last (y ∷ ys) x zero e = absurd (omega (arith, e))
get_last (y ∷ ys) x (suc i) e = get_last ys x i (omega (arith, e))

pub next_sources : (n : ℕ) (octets : List ℕ) (f : IsFine n octets) → sources_in (suc n) octets ≡ sources_in n octets ++ f.e ∷ []
next_sources n octets f = ap (λ m. sources_in n octets ++ option_to_list m) f.is

pub sources_len : (n : ℕ) (octets : List ℕ) → records_fault n octets ≡ None → length (sources_in n octets) ≡ n
sources_len zero octets none = refl
sources_len (suc n) octets none =
    let parts = or_none (records_fault n octets) (record_fault n octets) none in
    let f : IsFine n octets = fine n octets parts.1 in
    ap length (next_sources n octets f) ∙ omega (arith, length-append (sources_in n octets) (f.e ∷ []), sources_len n octets parts.0)

pub sources_at : (n i : ℕ) (octets : List ℕ) → records_fault n octets ≡ None → i < n → slice_get (sources_in n octets) i ≡ record_in (record_at i octets)
sources_at zero i octets none below = absurd (omega arith)
sources_at (suc n) i octets none below =
    let parts = or_none (records_fault n octets) (record_fault n octets) none in
    let f : IsFine n octets = fine n octets parts.1 in
    ap (λ xs. slice_get xs i) (next_sources n octets f) ∙ by f (sources_len n octets parts.0) (λ less. sources_at n i octets parts.0 less) (cases_lt i n)
  where
    by : (f : IsFine n octets) → length (sources_in n octets) ≡ n → (i < n → slice_get (sources_in n octets) i ≡ record_in (record_at i octets)) → (i < n) ⊎ (n ≤ i) →
        slice_get (sources_in n octets ++ f.e ∷ []) i ≡ record_in (record_at i octets)
    by f len before (inl less) = get_left (sources_in n octets) (f.e ∷ []) i (omega (arith, len, less)) ∙ before less
    by f len before (inr more) =
        let same : n ≡ i = omega arith in
        get_last (sources_in n octets) f.e i (len ∙ same) ∙ sym (subst (λ k. record_in (record_at k octets) ≡ Some f.e) same f.is)

pub record_is_there : (n i : ℕ) (octets : List ℕ) → records_fault n octets ≡ None → i < n → IsSome (record_in (record_at i octets))
record_is_there zero i octets none below = absurd (omega arith)
record_is_there (suc n) i octets none below =
    let parts = or_none (records_fault n octets) (record_fault n octets) none in
    by (fine n octets parts.1) (λ less. record_is_there n i octets parts.0 less) (cases_lt i n)
  where
    by : IsFine n octets → (i < n → IsSome (record_in (record_at i octets))) → (i < n) ⊎ (n ≤ i) → IsSome (record_in (record_at i octets))
    by f before (inl less) = before less
    by f before (inr more) =
        let same : n ≡ i = omega arith in
        subst (λ k. IsSome (record_in (record_at k octets))) same (ap is_some f.is)

pub none_past : (n i : ℕ) (octets : List ℕ) → records_fault n octets ≡ None → n ≤ i → slice_get (sources_in n octets) i ≡ None
none_past n i octets none past = slice_get_past (sources_in n octets) i (omega (arith, sources_len n octets none, past))

-- ---- the order of two records

pub first_in_order : (i : ℕ) (octets : List ℕ) → i ≡ 0 → is_in_order i octets ≡ true
first_in_order zero octets e = refl
first_in_order (suc i) octets e = absurd (omega (arith, e))

pub next_in_order : (i j : ℕ) (octets : List ℕ) → i ≡ j + 1 → is_in_order i octets ≡ is_lt (octets_cmp (key_at j octets) (key_at i octets))
next_in_order zero j octets e = absurd (omega (arith, e))
next_in_order (suc i) j octets e = let same : i ≡ j = omega (arith, e) in ap (λ k. is_lt (octets_cmp (key_at k octets) (key_at (suc i) octets))) same

-- ---- their sources rise

module _ {K V : Type 0} (R : K → K → Ordering) (o : IsTotalOrder R) where
  below_snoc : (x : K) (es : List (K × V)) (e : K × V) → below_all R x es ≡ true → R x e.0 ≡ Less → below_all R x (es ++ e ∷ []) ≡ true
  below_snoc x [] e all p = and_from (is_lt (R x e.0)) true (ap is_lt p) refl
  below_snoc x (f ∷ es) e all p =
      let parts = and_parts (is_lt (R x f.0)) (below_all R x es) all in
      and_from (is_lt (R x f.0)) (below_all R x (es ++ e ∷ [])) parts.0 (below_snoc x es e parts.1 p)

  pub sorted_snoc : (es : List (K × V)) (e : K × V) → is_sorted R es ≡ true → are_lesser R e.0 es ≡ true → is_sorted R (es ++ e ∷ []) ≡ true
  sorted_snoc [] e sorted lesser = refl
  sorted_snoc (f ∷ es) e sorted lesser =
      let parts = and_parts (below_all R f.0 es) (is_sorted R es) sorted in
      let tests = and_parts (is_gt (R e.0 f.0)) (are_lesser R e.0 es) lesser in
      let under : R f.0 e.0 ≡ Less = turned_back o e.0 f.0 (greater (R e.0 f.0) tests.0) in
      and_from (below_all R f.0 (es ++ e ∷ [])) (is_sorted R (es ++ e ∷ [])) (below_snoc f.0 es e parts.0 under) (sorted_snoc es e parts.1 tests.1)

  -- what is lesser than a key is lesser than a greater one
  lesser_up : (x y : K) (es : List (K × V)) → R x y ≡ Less → are_lesser R x es ≡ true → are_lesser R y es ≡ true
  lesser_up x y [] p all = refl
  lesser_up x y (f ∷ es) p all =
      let tests = and_parts (is_gt (R x f.0)) (are_lesser R x es) all in
      let under : R f.0 x ≡ Less = turned_back o x f.0 (greater (R x f.0) tests.0) in
      let here : R y f.0 ≡ Greater = turned o f.0 y (o.trans f.0 x y under p) in
      and_from (is_gt (R y f.0)) (are_lesser R y es) (ap is_gt here) (lesser_up x y es p tests.1)

  lesser_snoc : (y : K) (es : List (K × V)) (e : K × V) → are_lesser R y es ≡ true → R e.0 y ≡ Less → are_lesser R y (es ++ e ∷ []) ≡ true
  lesser_snoc y [] e all p = and_from (is_gt (R y e.0)) true (ap is_gt (turned o e.0 y p)) refl
  lesser_snoc y (f ∷ es) e all p =
      let tests = and_parts (is_gt (R y f.0)) (are_lesser R y es) all in
      and_from (is_gt (R y f.0)) (are_lesser R y (es ++ e ∷ [])) tests.0 (lesser_snoc y es e tests.1 p)

record AreRising (count n : ℕ) (octets : List ℕ) : Type 0 where
  finite : All IsFinitePair (sources_in n octets)
  sorted : is_sorted source_cmp (sources_in n octets) ≡ true
  under : (f : IsFine n octets) → n < count → are_lesser source_cmp f.e.0 (sources_in n octets) ≡ true

adjacent : (count n : ℕ) (octets : List ℕ) → length octets ≡ 24 + 30 * count → suc n < count → (d : IsFine n octets) → (e : IsFine (suc n) octets) → source_cmp d.e.0 e.e.0 ≡ Less
adjacent count n octets whole below d e =
    let one : IsRecordRead (record_at n octets) d.e = record_read (record_at n octets) d.e (record_len count n octets whole (omega (arith, below))) d.is in
    let other : IsRecordRead (record_at (suc n) octets) e.e = record_read (record_at (suc n) octets) e.e (record_len count (suc n) octets whole below) e.is in
    let keys : octets_cmp (source_octets d.e.0) (source_octets e.e.0) ≡ octets_cmp (key_at n octets) (key_at (suc n) octets) =
    (λ i. octets_cmp (one.source.key i) (other.source.key i)) in
    sym (sources_in_order d.e.0 e.e.0 one.source.whole other.source.whole) ∙ keys ∙ less (octets_cmp (key_at n octets) (key_at (suc n) octets)) e.in_order

rising : (count n : ℕ) (octets : List ℕ) → length octets ≡ 24 + 30 * count → n ≤ count → records_fault n octets ≡ None → AreRising count n octets
rising count zero octets whole within none = record { finite = All-nil IsFinitePair; sorted = refl; under = λ f below. refl }
rising count (suc n) octets whole within none =
    let parts = or_none (records_fault n octets) (record_fault n octets) none in
    let f : IsFine n octets = fine n octets parts.1 in
    let before : AreRising count n octets = rising count n octets whole (omega (arith, within)) parts.0 in
    let under : are_lesser source_cmp f.e.0 (sources_in n octets) ≡ true = before.under f (omega (arith, within)) in
    let read : IsRecordRead (record_at n octets) f.e = record_read (record_at n octets) f.e (record_len count n octets whole (omega (arith, within))) f.is in
    let is = sym (next_sources n octets f) in
    record {
      finite = subst (All IsFinitePair) is (All-append IsFinitePair (sources_in n octets) (f.e ∷ []) before.finite (All-cons IsFinitePair f.e [] read.finite (All-nil IsFinitePair)));
      sorted = subst (λ es. is_sorted source_cmp es ≡ true) is (sorted_snoc source_cmp source_total (sources_in n octets) f.e before.sorted under);
      under = λ g below.
          let p : source_cmp f.e.0 g.e.0 ≡ Less = adjacent count n octets whole below f g in
          subst (λ es. are_lesser source_cmp g.e.0 es ≡ true) is
          (lesser_snoc source_cmp source_total g.e.0 (sources_in n octets) f.e (lesser_up source_cmp source_total f.e.0 g.e.0 (sources_in n octets) p under) p);
    }

pub read_snapshot : (octets : List ℕ) → IsFaultless octets → seqno_in octets < 65536 → raises_in octets < 2 ^ 64 → IsSnapshot (snapshot_in octets)
unfolding snapshot_in
read_snapshot octets none seqno raises =
    let all : AreRising (count_in octets) (count_in octets) octets = rising (count_in octets) (count_in octets) octets none.whole (omega arith) none.records in
    record {
      seqno = seqno;
      raises = raises;
      few = subst (λ n. n ≤ 512) (sym (sources_len (count_in octets) octets none.records)) none.few;
      finite = all.finite;
      in_order = all.sorted;
    }
