-- The octets of a snapshot have no fault, and are read as the snapshot.
use Rattle.std.specs.Prelude.{◌≡◌, ℕ, zero, suc, ◌+◌, ◌*◌, ◌<◌, ◌≤◌, Bool, true, false, not, nat_lt, ◌==◌, List, [], ◌∷◌, ◌++◌, All, take, drop, length, slice_get, Option, Some, None, is_some, option_to_list, if◌then◌else◌}
use Rattle.std.specs.Option.{option_or}
use Rattle.std.specs.Ordering.{is_lt}
use Rattle.std.specs.FinMap.{is_sorted}
use Rattle.std.specs.Str.{bytes_eq}
use Rattle.std.specs.Cmp.Lexicographic.{bytes_decides}
use Rattle.std.proofs.Common.{refl, sym, ap, subst, ◌∙◌, arith, append_assoc, take_at, drop_at, drop-drop}
use Rattle.std.proofs.lemmas.List.{length-append, take_all}
use Rattle.std.proofs.lemmas.List.Elements.{All-head, All-tail}
use Rattle.std.proofs.lemmas.Bool.{eq-eqb, le-ltb}
use Rattle.std.proofs.lemmas.Option.{none-some, same_Some}
use Rattle.byteorder.specs.Endian.{big_bytes, big_number}
use Rattle.byteorder.specs.Numbers.{big_number-reads_back, length-bytes_high_first}
use Rattle.babel_value.specs.declared.distances.Distance.{Distance}
use Rattle.babel_value.specs.declared.keys.Source.{Source}
use Rattle.babel_value.specs.Orders.{octets_cmp, source_cmp}
use Rattle.babel_table.proofs.PlaceLemmas.{greater_at, others_greater, tail_sorted}
use Rattle.babel_state.specs.Restarts.{Snapshot, IsFinitePair}
use Rattle.babel_state.specs.declared.errors.RestoreFault.{RestoreFault}
use Rattle.babel_state.specs.declared.errors.RestoreFault.TheVariants as faults
use Rattle.babel_state.proofs.Tables.{each_at}
use Rattle.babel_snapshot.specs.Layout as layout
use Rattle.babel_snapshot.specs.Octets.{source_octets, record_octets, records_octets, snapshot_octets}
use Rattle.babel_snapshot.specs.Reading.{record_in, router_in, seqno_in, raises_in, count_in, record_at, key_at, sources_in, snapshot_in, is_in_order, record_fault, records_fault, restore_fault}
use Rattle.babel_snapshot.specs.SnapshotLaws.{IsRecord, IsWhole, WrittenIsRead, OctetsAreExact}
use Rattle.babel_snapshot.proofs.RecordsWritten.{record_octets_len, record_back, key_back}
use Rattle.babel_snapshot.proofs.Orders.{sources_in_order}
use Rattle.babel_snapshot.proofs.Appending.{take_next}

-- ---- elements by index

get_there : {A : Type 0} (xs : List A) (i : ℕ) → i < length xs → (x : A) × (slice_get xs i ≡ Some x)
get_there [] i below = absurd (omega (arith, below))
get_there (x ∷ xs) zero below = (x, refl)
get_there (x ∷ xs) (suc i) below = get_there xs i (omega (arith, below))

next_less : (es : List (Source × Distance)) (i : ℕ) (d e : Source × Distance) → is_sorted source_cmp es ≡ true → slice_get es i ≡ Some d → slice_get es (suc i) ≡ Some e → is_lt (source_cmp d.0 e.0) ≡ true
next_less [] i d e sorted one other = absurd (none-some d one)
next_less (f ∷ es) zero d e sorted one other =
    subst (λ (g : Source × Distance). is_lt (source_cmp g.0 e.0) ≡ true) (same_Some f d one) (ap is_lt (greater_at source_cmp f.0 es 0 e (others_greater source_cmp f es sorted) other))
next_less (f ∷ es) (suc i) d e sorted one other = next_less es i d e (tail_sorted source_cmp f es sorted) one other

-- ---- the records

records_len : (es : List (Source × Distance)) → All IsRecord es → length (records_octets es) ≡ 30 * length es
records_len [] all = refl
records_len (e ∷ es) all =
    omega (arith, length-append (record_octets e) (records_octets es), record_octets_len e (All-head IsRecord e es all).source, records_len es (All-tail IsRecord e es all))

record_from : (es : List (Source × Distance)) (i j : ℕ) (e : Source × Distance) → All IsRecord es → slice_get es i ≡ Some e → j ≡ 30 * i → take 30 (drop j (records_octets es)) ≡ record_octets e
record_from [] i j e all at is = absurd (none-some e at)
record_from (f ∷ es) zero j e all at is =
    let none : j ≡ 0 = omega (arith, is) in
    let len : length (record_octets f) ≡ 30 = record_octets_len f (All-head IsRecord f es all).source in
    ap (λ n. take 30 (drop n (record_octets f ++ records_octets es))) none ∙ take_at (record_octets f) (records_octets es) 30 len ∙ ap record_octets (same_Some f e at)
record_from (f ∷ es) (suc i) j e all at is =
    let more : j ≡ 30 + 30 * i = omega (arith, is) in
    let len : length (record_octets f) ≡ 30 = record_octets_len f (All-head IsRecord f es all).source in
    ap (λ n. take 30 (drop n (record_octets f ++ records_octets es))) more
    ∙ ap (take 30) (sym (drop-drop (30 * i) 30 (record_octets f ++ records_octets es)) ∙ ap (drop (30 * i)) (drop_at (record_octets f) (records_octets es) 30 len))
    ∙ record_from es i (30 * i) e (All-tail IsRecord f es all) at refl

-- ---- the head

abbrev after_router : Snapshot → List ℕ
after_router s = big_bytes 2 s.seqno ++ (big_bytes 8 s.raises ++ (big_bytes 2 (length s.sources) ++ records_octets s.sources))

regroup : (a b c d e : List ℕ) → (((a ++ b) ++ c) ++ d) ++ e ≡ a ++ (b ++ (c ++ (d ++ e)))
regroup a b c d e = simp append_assoc

nested : (s : Snapshot) → snapshot_octets s ≡ 66 ∷ 66 ∷ 83 ∷ 49 ∷ (s.router ++ after_router s)
unfolding snapshot_octets
nested s =
    ap (λ xs. 66 ∷ 66 ∷ 83 ∷ 49 ∷ xs) (regroup s.router (big_bytes 2 s.seqno) (big_bytes 8 s.raises) (big_bytes 2 (length s.sources)) (records_octets s.sources))

at_router : (s : Snapshot) → drop 4 (snapshot_octets s) ≡ s.router ++ after_router s
at_router s = ap (drop 4) (nested s)

at_seqno : (s : Snapshot) → length s.router ≡ 8 → drop 12 (snapshot_octets s) ≡ after_router s
at_seqno s e = sym (drop-drop 8 4 (snapshot_octets s)) ∙ ap (drop 8) (at_router s) ∙ drop_at s.router (after_router s) 8 e

at_raises : (s : Snapshot) → length s.router ≡ 8 → drop 14 (snapshot_octets s) ≡ big_bytes 8 s.raises ++ (big_bytes 2 (length s.sources) ++ records_octets s.sources)
at_raises s e =
    sym (drop-drop 2 12 (snapshot_octets s)) ∙ ap (drop 2) (at_seqno s e)
    ∙ drop_at (big_bytes 2 s.seqno) (big_bytes 8 s.raises ++ (big_bytes 2 (length s.sources) ++ records_octets s.sources)) 2 (length-bytes_high_first 2 s.seqno)

at_count : (s : Snapshot) → length s.router ≡ 8 → drop 22 (snapshot_octets s) ≡ big_bytes 2 (length s.sources) ++ records_octets s.sources
at_count s e =
    sym (drop-drop 8 14 (snapshot_octets s)) ∙ ap (drop 8) (at_raises s e)
    ∙ drop_at (big_bytes 8 s.raises) (big_bytes 2 (length s.sources) ++ records_octets s.sources) 8 (length-bytes_high_first 8 s.raises)

at_records : (s : Snapshot) → length s.router ≡ 8 → drop 24 (snapshot_octets s) ≡ records_octets s.sources
at_records s e =
    sym (drop-drop 2 22 (snapshot_octets s)) ∙ ap (drop 2) (at_count s e)
    ∙ drop_at (big_bytes 2 (length s.sources)) (records_octets s.sources) 2 (length-bytes_high_first 2 (length s.sources))

beginning_back : (s : Snapshot) → take 4 (snapshot_octets s) ≡ layout.beginning
beginning_back s = ap (take 4) (nested s)

router_back : (s : Snapshot) → length s.router ≡ 8 → router_in (snapshot_octets s) ≡ s.router
router_back s e = ap (take 8) (at_router s) ∙ take_at s.router (after_router s) 8 e

seqno_back : (s : Snapshot) → IsWhole s → seqno_in (snapshot_octets s) ≡ s.seqno
seqno_back s whole =
    ap (big_number 2) (at_seqno s whole.router)
    ∙ big_number-reads_back 2 s.seqno (big_bytes 8 s.raises ++ (big_bytes 2 (length s.sources) ++ records_octets s.sources)) (omega (arith, whole.numbers.seqno))

raises_back : (s : Snapshot) → IsWhole s → raises_in (snapshot_octets s) ≡ s.raises
raises_back s whole =
    ap (big_number 8) (at_raises s whole.router)
    ∙ big_number-reads_back 8 s.raises (big_bytes 2 (length s.sources) ++ records_octets s.sources) (omega (arith, whole.numbers.raises))

count_back : (s : Snapshot) → IsWhole s → count_in (snapshot_octets s) ≡ length s.sources
count_back s whole =
    ap (big_number 2) (at_count s whole.router) ∙ big_number-reads_back 2 (length s.sources) (records_octets s.sources) (omega (arith, whole.numbers.few))

whole_len : (s : Snapshot) → IsWhole s → length (snapshot_octets s) ≡ 24 + 30 * length s.sources
whole_len s whole =
    let numbers : length (after_router s) ≡ 12 + 30 * length s.sources =
    omega (
      arith,
      length-append (big_bytes 2 s.seqno) (big_bytes 8 s.raises ++ (big_bytes 2 (length s.sources) ++ records_octets s.sources)),
      length-append (big_bytes 8 s.raises) (big_bytes 2 (length s.sources) ++ records_octets s.sources),
      length-append (big_bytes 2 (length s.sources)) (records_octets s.sources),
      length-bytes_high_first 2 s.seqno,
      length-bytes_high_first 8 s.raises,
      length-bytes_high_first 2 (length s.sources),
      records_len s.sources whole.records,
    )
    in
    ap length (nested s) ∙ omega (arith, length-append s.router (after_router s), whole.router, numbers)

-- ---- each record

record_there : (s : Snapshot) (i : ℕ) (e : Source × Distance) → IsWhole s → slice_get s.sources i ≡ Some e → record_at i (snapshot_octets s) ≡ record_octets e
record_there s i e whole at =
    ap (take 30) (sym (drop-drop (30 * i) 24 (snapshot_octets s)) ∙ ap (drop (30 * i)) (at_records s whole.router))
    ∙ record_from s.sources i (30 * i) e whole.records at refl

record_again : (s : Snapshot) (i : ℕ) (e : Source × Distance) → IsWhole s → slice_get s.sources i ≡ Some e → record_in (record_at i (snapshot_octets s)) ≡ Some e
record_again s i e whole at =
    ap record_in (record_there s i e whole at) ∙ record_back e (each_at IsRecord s.sources i e at whole.records) (each_at IsFinitePair s.sources i e at whole.numbers.finite)

key_there : (s : Snapshot) (i : ℕ) (e : Source × Distance) → IsWhole s → slice_get s.sources i ≡ Some e → key_at i (snapshot_octets s) ≡ source_octets e.0
key_there s i e whole at = ap (take 26) (record_there s i e whole at) ∙ key_back e (each_at IsRecord s.sources i e at whole.records).source

ordered : (s : Snapshot) (i : ℕ) → IsWhole s → i < length s.sources → is_in_order i (snapshot_octets s) ≡ true
ordered s zero whole below = refl
ordered s (suc i) whole below =
    let d = get_there s.sources i (omega (arith, below)) in
    let e = get_there s.sources (suc i) below in
    let keys : octets_cmp (key_at i (snapshot_octets s)) (key_at (suc i) (snapshot_octets s)) ≡ octets_cmp (source_octets d.0.0) (source_octets e.0.0) =
    (λ k. octets_cmp (key_there s i d.0 whole d.1 k) (key_there s (suc i) e.0 whole e.1 k)) in
    let order : octets_cmp (source_octets d.0.0) (source_octets e.0.0) ≡ source_cmp d.0.0 e.0.0 =
    sources_in_order d.0.0 e.0.0 (each_at IsRecord s.sources i d.0 d.1 whole.records).source (each_at IsRecord s.sources (suc i) e.0 e.1 whole.records).source in
    ap is_lt (keys ∙ order) ∙ next_less s.sources i d.0 e.0 whole.numbers.in_order d.1 e.1

no_cause : (b : Bool) (f : RestoreFault) (rest : Option RestoreFault) → b ≡ false → rest ≡ None → (if b then Some f else rest) ≡ None
no_cause b f rest off none = ap (λ t. if t then Some f else rest) off ∙ none

record_faultless : (s : Snapshot) (i : ℕ) → IsWhole s → i < length s.sources → record_fault i (snapshot_octets s) ≡ None
unfolding record_fault
record_faultless s i whole below =
    let e = get_there s.sources i below in
    let is : record_in (record_at i (snapshot_octets s)) ≡ Some e.0 = record_again s i e.0 whole e.1 in
    no_cause (not (is_some (record_in (record_at i (snapshot_octets s))))) (faults.Record i) (if not (is_in_order i (snapshot_octets s)) then Some (faults.Order i) else None)
    (ap (λ m. not (is_some m)) is)
    (no_cause (not (is_in_order i (snapshot_octets s))) (faults.Order i) None (ap not (ordered s i whole below)) refl)

records_faultless : (s : Snapshot) (n : ℕ) → IsWhole s → n ≤ length s.sources → records_fault n (snapshot_octets s) ≡ None
records_faultless s zero whole within = refl
records_faultless s (suc n) whole within =
    ap (λ m. option_or m (record_fault n (snapshot_octets s))) (records_faultless s n whole (omega (arith, within))) ∙ record_faultless s n whole (omega (arith, within))

sources_again : (s : Snapshot) (n : ℕ) → IsWhole s → n ≤ length s.sources → sources_in n (snapshot_octets s) ≡ take n s.sources
sources_again s zero whole within = refl
sources_again s (suc n) whole within =
    let e = get_there s.sources n (omega (arith, within)) in
    (λ i. sources_again s n whole (omega (arith, within)) i ++ option_to_list (record_again s n e.0 whole e.1 i)) ∙ sym (take_next s.sources n e.0 e.1)

-- ---- the whole

same_bytes : (xs ys : List ℕ) → xs ≡ ys → bytes_eq xs ys ≡ true
same_bytes xs ys e = (bytes_decides xs ys).1 e

written_faultless : (s : Snapshot) → IsWhole s → restore_fault s.router (snapshot_octets s) ≡ None
unfolding restore_fault
written_faultless s whole =
    let octets = snapshot_octets s in
    let len : length octets ≡ 24 + 30 * length s.sources = whole_len s whole in
    let count : count_in octets ≡ length s.sources = count_back s whole in
    let k1 : nat_lt (length octets) 24 ≡ false = le-ltb (length octets) 24 (omega (arith, len)) in
    let k2 : bytes_eq (take 4 octets) layout.beginning ≡ true = same_bytes (take 4 octets) layout.beginning (beginning_back s) in
    let k3 : bytes_eq (router_in octets) s.router ≡ true = same_bytes (router_in octets) s.router (router_back s whole.router) in
    let k4 : nat_lt 512 (count_in octets) ≡ false = le-ltb 512 (count_in octets) (omega (arith, count, whole.numbers.few)) in
    let k5 : (length octets == 24 + 30 * count_in octets) ≡ true = eq-eqb (length octets) (24 + 30 * count_in octets) (omega (arith, len, count)) in
    let all : records_fault (count_in octets) octets ≡ None = ap (λ n. records_fault n octets) count ∙ records_faultless s (length s.sources) whole (omega arith) in
    let e : Option RestoreFault = records_fault (count_in octets) octets in
    let d : Option RestoreFault = if not (length octets == 24 + 30 * count_in octets) then Some faults.Length else e in
    let c : Option RestoreFault = if nat_lt 512 (count_in octets) then Some faults.TooManyRecords else d in
    let b : Option RestoreFault = if not (bytes_eq (router_in octets) s.router) then Some faults.RouterId else c in
    let a : Option RestoreFault = if not (bytes_eq (take 4 octets) layout.beginning) then Some faults.Beginning else b in
    no_cause (nat_lt (length octets) 24) faults.TooShort a k1
    (no_cause (not (bytes_eq (take 4 octets) layout.beginning)) faults.Beginning b (ap not k2)
    (no_cause (not (bytes_eq (router_in octets) s.router)) faults.RouterId c (ap not k3)
    (no_cause (nat_lt 512 (count_in octets)) faults.TooManyRecords d k4
    (no_cause (not (length octets == 24 + 30 * count_in octets)) faults.Length e (ap not k5) all))))

read_again : (s : Snapshot) → IsWhole s → snapshot_in (snapshot_octets s) ≡ s
unfolding snapshot_in
read_again s whole =
    let all : sources_in (count_in (snapshot_octets s)) (snapshot_octets s) ≡ s.sources =
    ap (λ n. sources_in n (snapshot_octets s)) (count_back s whole) ∙ sources_again s (length s.sources) whole (omega arith) ∙ take_all (length s.sources) s.sources (omega arith) in
    λ i. record { router = router_back s whole.router i; seqno = seqno_back s whole i; raises = raises_back s whole i; sources = all i }

pub written_read : WrittenIsRead
written_read s whole = record { faultless = written_faultless s whole; same = read_again s whole }

pub octets_exact : OctetsAreExact
octets_exact one other a b same = sym (read_again one a) ∙ ap snapshot_in same ∙ read_again other b
