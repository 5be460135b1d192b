-- Octets without a fault are the octets of the snapshot that is read of them.
use Rattle.std.specs.Prelude.{◌≡◌, ℕ, zero, suc, ◌+◌, ◌*◌, ◌<◌, ◌≤◌, ◌^◌, ◌%◌, ◌/◌, not, nat_lt, ◌==◌, List, [], ◌∷◌, ◌++◌, All, take, drop, length, Option, Some, None, if◌then◌else◌}
use Rattle.std.specs.Int.{byte_at, bytes_high_first}
use Rattle.std.specs.Str.{bytes_eq}
use Rattle.std.specs.Cmp.Lexicographic.{bytes_decides}
use Rattle.std.proofs.Common.{refl, sym, ap, subst, ◌∙◌, arith, drop-drop}
use Rattle.std.proofs.Math.Nat.{mod-lt}
use Rattle.std.proofs.Math.Seq.{take-add}
use Rattle.std.proofs.lemmas.List.{append-nil, length-drop, length-take-le, take_all, take-append-drop}
use Rattle.std.proofs.lemmas.List.Elements.{All-nil, All-cons, All-append}
use Rattle.std.proofs.lemmas.Nat.{div-mul-add, mod-mul-add}
use Rattle.std.proofs.lemmas.Bool.{not-false}
use Rattle.byteorder.specs.Endian.{big_bytes, big_from, big_number}
use Rattle.byteorder.specs.Numbers.{big_from-cons, big_from-lt, big_from-take, big_number-reads_back, length-bytes_high_first}
use Rattle.babel_value.specs.declared.distances.Distance.{Distance}
use Rattle.babel_value.specs.declared.keys.Source.{Source}
use Rattle.babel_value.proofs.OctetLists.{take_octets, drop_octets}
use Rattle.babel_state.specs.declared.errors.RestoreFault.{RestoreFault}
use Rattle.babel_state.specs.declared.errors.RestoreFault.TheVariants as faults
use Rattle.babel_snapshot.specs.Layout as layout
use Rattle.babel_snapshot.specs.Octets.{record_octets, records_octets, snapshot_octets}
use Rattle.babel_snapshot.specs.Reading.{distance_in, record_in, router_in, seqno_in, raises_in, count_in, record_at, sources_in, snapshot_in, record_fault, records_fault, restore_fault, IsFaultless}
use Rattle.babel_snapshot.specs.SnapshotLaws.{AreOctets, IsRecord, IsWhole, ReadIsWritten}
use Rattle.babel_snapshot.proofs.Appending.{records_append}
use Rattle.babel_snapshot.proofs.RecordsRead.{IsRecordRead, record_read}
use Rattle.babel_snapshot.proofs.SnapshotsRead.{or_none, no_fault, IsFine, fine, faultless, record_len, next_sources, sources_len, read_snapshot}

-- ---- parts of octets

-- ---- a number, and the octets that it was read of

byte_small : (n x : ℕ) → byte_at n x < 256
byte_small zero x = mod-lt x (omega arith)
byte_small (suc n) x = mod-lt (x / 256 ^ suc n) (omega arith)

bytes_small : (n x : ℕ) → AreOctets (bytes_high_first n x)
bytes_small zero x k = omega arith
bytes_small (suc n) x zero = byte_small n x
bytes_small (suc n) x (suc k) = bytes_small n x k

number_exact : (n : ℕ) (xs ys : List ℕ) → length xs ≡ n → length ys ≡ n → AreOctets xs → AreOctets ys → big_from 0 n xs ≡ big_from 0 n ys → xs ≡ ys
number_exact zero [] [] one other small few same = refl
number_exact zero (x ∷ xs) ys one other small few same = absurd (omega (arith, one))
number_exact zero [] (y ∷ ys) one other small few same = absurd (omega (arith, other))
number_exact (suc n) [] ys one other small few same = absurd (omega (arith, one))
number_exact (suc n) (x ∷ xs) [] one other small few same = absurd (omega (arith, other))
number_exact (suc n) (x ∷ xs) (y ∷ ys) one other small few same =
    let a = big_from 0 n xs in
    let b = big_from 0 n ys in
    let a_fits : a < 256 ^ n = big_from-lt 0 n xs (λ k. small (suc k)) in
    let b_fits : b < 256 ^ n = big_from-lt 0 n ys (λ k. few (suc k)) in
    let is : x * 256 ^ n + a ≡ y * 256 ^ n + b =
    ap (λ r. x * 256 ^ n + r) (sym (big_from-cons 0 n x xs)) ∙ same ∙ ap (λ r. y * 256 ^ n + r) (big_from-cons 0 n y ys) in
    let first : x ≡ y = sym (div-mul-add x (256 ^ n) a a_fits) ∙ ap (λ m. m / 256 ^ n) is ∙ div-mul-add y (256 ^ n) b b_fits in
    let rest : a ≡ b = sym (mod-mul-add x (256 ^ n) a a_fits) ∙ ap (λ m. m % 256 ^ n) is ∙ mod-mul-add y (256 ^ n) b b_fits in
    let later : xs ≡ ys = number_exact n xs ys (omega (arith, one)) (omega (arith, other)) (λ k. small (suc k)) (λ k. few (suc k)) rest in
    λ i. first i ∷ later i

number_back : (n : ℕ) (xs : List ℕ) → AreOctets xs → n ≤ length xs → big_bytes n (big_number n xs) ≡ take n xs
number_back n xs small long =
    let number = big_number n xs in
    let read : big_from 0 n (big_bytes n number) ≡ number =
    ap (big_from 0 n) (sym (append-nil (big_bytes n number))) ∙ big_number-reads_back n number [] (big_from-lt 0 n xs small) in
    number_exact n (big_bytes n number) (take n xs) (length-bytes_high_first n number) (length-take-le n xs long) (bytes_small n number) (take_octets n xs small)
    (read ∙ sym (big_from-take 0 n n xs (omega arith)))

-- ---- a record

seqno_read : (r : List ℕ) (e : Source × Distance) → IsRecordRead r e → e.1.seqno ≡ big_number 2 (drop 26 r)
unfolding distance_in
seqno_read r e read = ap (λ (d : Distance). d.seqno) read.distance

metric_read : (r : List ℕ) (e : Source × Distance) → IsRecordRead r e → e.1.metric ≡ big_number 2 (drop 28 r)
unfolding distance_in
metric_read r e read = ap (λ (d : Distance). d.metric) read.distance

record_kept : (r : List ℕ) (e : Source × Distance) → length r ≡ 30 → AreOctets r → record_in r ≡ Some e → record_octets e ≡ r
record_kept r e len small is =
    let read : IsRecordRead r e = record_read r e len is in
    let seqno : big_bytes 2 e.1.seqno ≡ take 2 (drop 26 r) =
    ap (big_bytes 2) (seqno_read r e read) ∙ number_back 2 (drop 26 r) (drop_octets 26 r small) (omega (arith, len, length-drop 26 r)) in
    let metric : big_bytes 2 e.1.metric ≡ take 2 (drop 28 r) =
    ap (big_bytes 2) (metric_read r e read) ∙ number_back 2 (drop 28 r) (drop_octets 28 r small) (omega (arith, len, length-drop 28 r)) in
    (λ i. (read.source.key i ++ seqno i) ++ metric i)
    ∙ ap (λ xs. xs ++ take 2 (drop 28 r)) (sym (take-add 26 2 r))
    ∙ sym (take-add 28 2 r)
    ∙ take_all 30 r (omega (arith, len))

record_whole : (r : List ℕ) (e : Source × Distance) → length r ≡ 30 → AreOctets r → record_in r ≡ Some e → IsRecord e
record_whole r e len small is =
    let read : IsRecordRead r e = record_read r e len is in
    record {
      source = read.source.whole;
      seqno = omega (arith, seqno_read r e read, big_from-lt 0 2 (drop 26 r) (drop_octets 26 r small));
    }

-- ---- the records

record_small : (i : ℕ) (octets : List ℕ) → AreOctets octets → AreOctets (record_at i octets)
record_small i octets small = take_octets 30 (drop (24 + 30 * i) octets) (drop_octets (24 + 30 * i) octets small)

records_kept : (count n : ℕ) (octets : List ℕ) → length octets ≡ 24 + 30 * count → n ≤ count → AreOctets octets → records_fault n octets ≡ None →
    records_octets (sources_in n octets) ≡ take (30 * n) (drop 24 octets)
records_kept count zero octets whole within small none = refl
records_kept count (suc n) octets whole within small none =
    let parts = or_none (records_fault n octets) (record_fault n octets) none in
    let f : IsFine n octets = fine n octets parts.1 in
    let before : records_octets (sources_in n octets) ≡ take (30 * n) (drop 24 octets) =
    records_kept count n octets whole (omega (arith, within)) small parts.0 in
    let here : record_octets f.e ≡ take 30 (drop (30 * n) (drop 24 octets)) =
    record_kept (record_at n octets) f.e (record_len count n octets whole (omega (arith, within))) (record_small n octets small) f.is
    ∙ ap (take 30) (sym (drop-drop (30 * n) 24 octets)) in
    let one : records_octets (f.e ∷ []) ≡ take 30 (drop (30 * n) (drop 24 octets)) = append-nil (record_octets f.e) ∙ here in
    let longer : 30 * n + 30 ≡ 30 * suc n = omega arith in
    ap records_octets (next_sources n octets f)
    ∙ records_append (sources_in n octets) (f.e ∷ [])
    ∙ (λ i. before i ++ one i)
    ∙ sym (take-add (30 * n) 30 (drop 24 octets))
    ∙ ap (λ k. take k (drop 24 octets)) longer

records_whole : (count n : ℕ) (octets : List ℕ) → length octets ≡ 24 + 30 * count → n ≤ count → AreOctets octets → records_fault n octets ≡ None →
    All IsRecord (sources_in n octets)
records_whole count zero octets whole within small none = All-nil IsRecord
records_whole count (suc n) octets whole within small none =
    let parts = or_none (records_fault n octets) (record_fault n octets) none in
    let f : IsFine n octets = fine n octets parts.1 in
    let here : IsRecord f.e = record_whole (record_at n octets) f.e (record_len count n octets whole (omega (arith, within))) (record_small n octets small) f.is in
    subst (All IsRecord) (sym (next_sources n octets f))
    (All-append IsRecord (sources_in n octets) (f.e ∷ []) (records_whole count n octets whole (omega (arith, within)) small parts.0) (All-cons IsRecord f.e [] here (All-nil IsRecord)))

-- ---- the head

begins : (router octets : List ℕ) → restore_fault router octets ≡ None → take 4 octets ≡ layout.beginning
unfolding restore_fault
begins router octets none =
    let count = count_in octets in
    let e : Option RestoreFault = records_fault count octets in
    let d : Option RestoreFault = if not (length octets == 24 + 30 * count) then Some faults.Length else e in
    let c : Option RestoreFault = if nat_lt 512 count then Some faults.TooManyRecords else d in
    let b : Option RestoreFault = if not (bytes_eq (router_in octets) router) then Some faults.RouterId else c in
    let a : Option RestoreFault = if not (bytes_eq (take 4 octets) layout.beginning) then Some faults.Beginning else b in
    let k1 = no_fault (nat_lt (length octets) 24) faults.TooShort a none in
    let k2 = no_fault (not (bytes_eq (take 4 octets) layout.beginning)) faults.Beginning b k1.1 in
    (bytes_decides (take 4 octets) layout.beginning).0 (not-false (bytes_eq (take 4 octets) layout.beginning) k2.0)

head_kept : (octets : List ℕ) → 24 ≤ length octets → AreOctets octets → take 4 octets ≡ layout.beginning →
    layout.beginning ++ router_in octets ++ big_bytes 2 (seqno_in octets) ++ big_bytes 8 (raises_in octets) ++ big_bytes 2 (count_in octets) ≡ take 24 octets
head_kept octets long small first =
    let beginning : layout.beginning ≡ take 4 octets = sym first in
    let seqno : big_bytes 2 (seqno_in octets) ≡ take 2 (drop 12 octets) =
    number_back 2 (drop 12 octets) (drop_octets 12 octets small) (omega (arith, long, length-drop 12 octets)) in
    let raises : big_bytes 8 (raises_in octets) ≡ take 8 (drop 14 octets) =
    number_back 8 (drop 14 octets) (drop_octets 14 octets small) (omega (arith, long, length-drop 14 octets)) in
    let count : big_bytes 2 (count_in octets) ≡ take 2 (drop 22 octets) =
    number_back 2 (drop 22 octets) (drop_octets 22 octets small) (omega (arith, long, length-drop 22 octets)) in
    (λ i. beginning i ++ take 8 (drop 4 octets) ++ seqno i ++ raises i ++ count i)
    ∙ ap (λ xs. xs ++ take 2 (drop 12 octets) ++ take 8 (drop 14 octets) ++ take 2 (drop 22 octets)) (sym (take-add 4 8 octets))
    ∙ ap (λ xs. xs ++ take 8 (drop 14 octets) ++ take 2 (drop 22 octets)) (sym (take-add 12 2 octets))
    ∙ ap (λ xs. xs ++ take 2 (drop 22 octets)) (sym (take-add 14 8 octets))
    ∙ sym (take-add 22 2 octets)

-- ---- the whole

octets_kept : (router octets : List ℕ) → AreOctets octets → restore_fault router octets ≡ None → snapshot_octets (snapshot_in octets) ≡ octets
unfolding snapshot_octets snapshot_in
octets_kept router octets small none =
    let ok : IsFaultless octets = faultless router octets none in
    let head = head_kept octets (omega (arith, ok.whole)) small (begins router octets none) in
    let records : records_octets (sources_in (count_in octets) octets) ≡ drop 24 octets =
    records_kept (count_in octets) (count_in octets) octets ok.whole (omega arith) small ok.records
    ∙ take_all (30 * count_in octets) (drop 24 octets) (omega (arith, ok.whole, length-drop 24 octets)) in
    ap (λ n. (layout.beginning ++ router_in octets ++ big_bytes 2 (seqno_in octets) ++ big_bytes 8 (raises_in octets) ++ big_bytes 2 n) ++ records_octets (sources_in (count_in octets) octets))
    (sources_len (count_in octets) octets ok.records)
    ∙ (λ i. head i ++ records i)
    ∙ take-append-drop 24 octets

snapshot_whole : (router octets : List ℕ) → AreOctets octets → restore_fault router octets ≡ None → IsWhole (snapshot_in octets)
unfolding snapshot_in
snapshot_whole router octets small none =
    let ok : IsFaultless octets = faultless router octets none in
    record {
      router = length-take-le 8 (drop 4 octets) (omega (arith, ok.whole, length-drop 4 octets));
      numbers = read_snapshot octets ok (omega (arith, big_from-lt 0 2 (drop 12 octets) (drop_octets 12 octets small)))
          (omega (arith, big_from-lt 0 8 (drop 14 octets) (drop_octets 14 octets small)));
      records = records_whole (count_in octets) (count_in octets) octets ok.whole (omega arith) small ok.records;
    }

pub read_written : ReadIsWritten
read_written router octets small none = record { whole = snapshot_whole router octets small none; same = octets_kept router octets small none }
