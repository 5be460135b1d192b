-- A record that is written is read as its source and distance.
use Rattle.std.specs.Prelude.{◌≡◌, ℕ, ◌<◌, ◌≤◌, true, List, [], ◌∷◌, ◌++◌, take, drop, length, replicate, slice_index, nat_le, Some, None, option_and_then, option_map, if◌then◌else◌}
use Rattle.std.specs.Ordering.{is_eq}
use Rattle.std.specs.Cmp.{tied_itself}
use Rattle.std.specs.Str.{bytes_eq}
use Rattle.std.proofs.Common.{sym, ap, ◌∙◌, arith, append_assoc, take_at, drop_at, drop-drop}
use Rattle.std.proofs.lemmas.List.{get_or_at, length-append}
use Rattle.std.proofs.lemmas.Bool.{and_from, le-leb, lt-ltb}
use Rattle.byteorder.specs.Endian.{big_bytes, big_number}
use Rattle.byteorder.specs.Numbers.{big_number-reads_back, length-bytes_high_first}
use Rattle.babel_value.specs.declared.addresses.Addr.{Addr}
use Rattle.babel_value.specs.declared.addresses.Addr.TheVariants.{V4, V6}
use Rattle.babel_value.specs.declared.distances.Distance.{Distance}
use Rattle.babel_value.specs.declared.keys.Source.{Source}
use Rattle.babel_value.specs.Addresses.{width_of}
use Rattle.babel_value.specs.Prefixes.{PrefixValue, cleared_addr, prefix_of}
use Rattle.babel_value.proofs.OrderLaws.{addr_total}
use Rattle.babel_state.specs.Sameness.{is_same_addr}
use Rattle.babel_snapshot.specs.Octets.{addr_octets, source_octets, record_octets}
use Rattle.babel_snapshot.specs.Reading.{addr_in, is_prefix, prefix_with, prefix_in, source_with, source_in, distance_in, with_distance, record_in}
use Rattle.babel_snapshot.specs.SnapshotLaws.{addr_len, wanted_len, IsSource, IsRecord}

-- ---- lengths

pub addr_octets_len : (addr : Addr) → addr_len addr ≡ wanted_len addr → length (addr_octets addr) ≡ 17
addr_octets_len (V4 o) e = omega (arith, length-append o (replicate 12 0), e)
addr_octets_len (V6 o) e = omega (arith, e)

pub source_octets_len : (source : Source) → IsSource source → length (source_octets source) ≡ 26
source_octets_len source whole =
    omega (arith, length-append (addr_octets source.prefix.addr) (source.prefix.length ∷ source.router), addr_octets_len source.prefix.addr whole.addr, whole.router)

numbers_len : (one other : ℕ) → length (big_bytes 2 one ++ big_bytes 2 other) ≡ 4
numbers_len one other = omega (arith, length-append (big_bytes 2 one) (big_bytes 2 other), length-bytes_high_first 2 one, length-bytes_high_first 2 other)

-- the source, then the two numbers
right : (e : Source × Distance) → record_octets e ≡ source_octets e.0 ++ (big_bytes 2 e.1.seqno ++ big_bytes 2 e.1.metric)
right e = append_assoc (source_octets e.0) (big_bytes 2 e.1.seqno) (big_bytes 2 e.1.metric)

pub record_octets_len : (e : Source × Distance) → IsSource e.0 → length (record_octets e) ≡ 30
record_octets_len e whole =
    ap length (right e) ∙ omega (arith, length-append (source_octets e.0) (big_bytes 2 e.1.seqno ++ big_bytes 2 e.1.metric), source_octets_len e.0 whole, numbers_len e.1.seqno e.1.metric)

-- ---- the address

addr_back : (addr : Addr) (rest : List ℕ) → addr_len addr ≡ wanted_len addr → addr_in (addr_octets addr ++ rest) ≡ Some addr
addr_back (V4 o) rest e =
    let joined : (o ++ replicate 12 0) ++ rest ≡ o ++ (replicate 12 0 ++ rest) = append_assoc o (replicate 12 0) rest in
    let filling : drop 4 ((o ++ replicate 12 0) ++ rest) ≡ replicate 12 0 ++ rest = ap (drop 4) joined ∙ drop_at o (replicate 12 0 ++ rest) 4 e in
    let first : take 4 ((o ++ replicate 12 0) ++ rest) ≡ o = ap (take 4) joined ∙ take_at o (replicate 12 0 ++ rest) 4 e in
    ap (λ xs. if bytes_eq (take 12 xs) (replicate 12 0) then Some (V4 (take 4 ((o ++ replicate 12 0) ++ rest))) else None) filling ∙ ap (λ xs. Some (V4 xs)) first
addr_back (V6 o) rest e = ap (λ xs. Some (V6 xs)) (take_at o rest 16 e)

-- ---- the prefix

same_itself : (addr : Addr) → is_same_addr addr addr ≡ true
same_itself addr = ap is_eq (tied_itself addr_total addr)

prefix_holds : (addr : Addr) (n : ℕ) → n ≤ width_of addr → cleared_addr n addr ≡ addr → is_prefix addr n ≡ true
prefix_holds addr n short clear =
    and_from (nat_le n (width_of addr)) (is_same_addr (cleared_addr n addr) addr) (le-leb n (width_of addr) short)
    (ap (λ a. is_same_addr a addr) clear ∙ same_itself addr)

abbrev made_prefix : Addr → ℕ → PrefixValue
made_prefix addr n = record { addr = addr; length = n }

prefix_back : (addr : Addr) (n : ℕ) → n ≤ width_of addr → cleared_addr n addr ≡ addr → prefix_with n addr ≡ Some (made_prefix addr n)
prefix_back addr n short clear =
    ap (λ b. if b then prefix_of addr n else None) (prefix_holds addr n short clear)
    ∙ ap (λ b. if b then Some (made_prefix (cleared_addr n addr) n) else None) (le-leb n (width_of addr) short)
    ∙ ap (λ a. Some (made_prefix a n)) clear

-- ---- the source and its distance

abbrev tail : Source × Distance → List ℕ
tail e = e.0.router ++ (big_bytes 2 e.1.seqno ++ big_bytes 2 e.1.metric)

nested : (e : Source × Distance) → record_octets e ≡ addr_octets e.0.prefix.addr ++ (e.0.prefix.length ∷ tail e)
nested e = right e ∙ append_assoc (addr_octets e.0.prefix.addr) (e.0.prefix.length ∷ e.0.router) (big_bytes 2 e.1.seqno ++ big_bytes 2 e.1.metric)

length_back : (e : Source × Distance) → IsSource e.0 → slice_index (record_octets e) 17 ≡ e.0.prefix.length
length_back e whole =
    ap (λ xs. slice_index xs 17) (nested e) ∙ get_or_at (addr_octets e.0.prefix.addr) e.0.prefix.length (tail e) 0 17 (addr_octets_len e.0.prefix.addr whole.addr)

router_back : (e : Source × Distance) → IsSource e.0 → take 8 (drop 18 (record_octets e)) ≡ e.0.router
router_back e whole =
    let rest : drop 17 (record_octets e) ≡ e.0.prefix.length ∷ tail e =
    ap (drop 17) (nested e) ∙ drop_at (addr_octets e.0.prefix.addr) (e.0.prefix.length ∷ tail e) 17 (addr_octets_len e.0.prefix.addr whole.addr) in
    let after : drop 18 (record_octets e) ≡ tail e = sym (drop-drop 1 17 (record_octets e)) ∙ ap (drop 1) rest in
    ap (take 8) after ∙ take_at e.0.router (big_bytes 2 e.1.seqno ++ big_bytes 2 e.1.metric) 8 whole.router

numbers_at : (e : Source × Distance) → IsSource e.0 → drop 26 (record_octets e) ≡ big_bytes 2 e.1.seqno ++ big_bytes 2 e.1.metric
numbers_at e whole = ap (drop 26) (right e) ∙ drop_at (source_octets e.0) (big_bytes 2 e.1.seqno ++ big_bytes 2 e.1.metric) 26 (source_octets_len e.0 whole)

seqno_back : (e : Source × Distance) → IsSource e.0 → e.1.seqno < 65536 → big_number 2 (drop 26 (record_octets e)) ≡ e.1.seqno
seqno_back e whole small = ap (big_number 2) (numbers_at e whole) ∙ big_number-reads_back 2 e.1.seqno (big_bytes 2 e.1.metric) (omega (arith, small))

metric_back : (e : Source × Distance) → IsSource e.0 → e.1.metric < 65535 → big_number 2 (drop 28 (record_octets e)) ≡ e.1.metric
metric_back e whole finite =
    let after : drop 28 (record_octets e) ≡ big_bytes 2 e.1.metric ++ [] =
    sym (drop-drop 2 26 (record_octets e)) ∙ ap (drop 2) (numbers_at e whole) in
    ap (big_number 2) after ∙ big_number-reads_back 2 e.1.metric [] (omega (arith, finite))

prefix_again : (e : Source × Distance) → IsSource e.0 → prefix_in (record_octets e) ≡ Some e.0.prefix
unfolding prefix_in
prefix_again e whole =
    ap (option_and_then (prefix_with (slice_index (record_octets e) 17)))
    (ap addr_in (nested e) ∙ addr_back e.0.prefix.addr (e.0.prefix.length ∷ tail e) whole.addr)
    ∙ ap (λ n. prefix_with n e.0.prefix.addr) (length_back e whole)
    ∙ prefix_back e.0.prefix.addr e.0.prefix.length whole.bits whole.cleared

abbrev made_source : PrefixValue → List ℕ → Source
made_source prefix router = record { prefix = prefix; router = router }

source_again : (e : Source × Distance) → IsSource e.0 → source_in (record_octets e) ≡ Some e.0
unfolding source_in
source_again e whole =
    ap (option_and_then (source_with (take 8 (drop 18 (record_octets e))))) (prefix_again e whole)
    ∙ ap (λ xs. source_with xs e.0.prefix) (router_back e whole)
    ∙ ap (λ b. option_map (made_source e.0.prefix) (if b then None else Some e.0.router)) whole.named

distance_again : (e : Source × Distance) → IsRecord e → e.1.metric < 65535 → distance_in (record_octets e) ≡ e.1
unfolding distance_in
distance_again e whole finite = λ i. record { seqno = seqno_back e whole.source whole.seqno i; metric = metric_back e whole.source finite i }

pub record_back : (e : Source × Distance) → IsRecord e → e.1.metric < 65535 → record_in (record_octets e) ≡ Some e
unfolding record_in
record_back e whole finite =
    ap (option_and_then (with_distance (distance_in (record_octets e)))) (source_again e whole.source)
    ∙ ap (λ d. with_distance d e.0) (distance_again e whole finite)
    ∙ ap (λ b. if b then Some e else None) (lt-ltb e.1.metric 65535 finite)

pub key_back : (e : Source × Distance) → IsSource e.0 → take 26 (record_octets e) ≡ source_octets e.0
key_back e whole = ap (take 26) (right e) ∙ take_at (source_octets e.0) (big_bytes 2 e.1.seqno ++ big_bytes 2 e.1.metric) 26 (source_octets_len e.0 whole)
