-- A record that is read has the octets of its source.
use Rattle.std.specs.Prelude.{◌≡◌, ℕ, ◌<◌, ◌≤◌, Bool, true, false, List, [], ◌∷◌, ◌++◌, take, drop, length, replicate, slice_index, nat_le, nat_lt, ◌==◌, Option, Some, None, option_and_then, option_map, if◌then◌else◌}
use Rattle.std.specs.Str.{bytes_eq}
use Rattle.std.specs.Cmp.Lexicographic.{bytes_decides}
use Rattle.std.proofs.Common.{refl, sym, ap, subst, ◌∙◌, arith, drop-drop}
use Rattle.std.proofs.Math.Seq.{take-add}
use Rattle.std.proofs.lemmas.List.{length-drop, length-take-le, get_or-drop}
use Rattle.std.proofs.lemmas.Bool.{and_parts, eqb-true, leb-true, ltb-true}
use Rattle.std.proofs.lemmas.Option.{none-some, same_Some}
use Rattle.babel_value.specs.declared.addresses.Addr.{Addr}
use Rattle.babel_value.specs.declared.addresses.Addr.TheVariants.{V4, V6}
use Rattle.babel_value.specs.declared.distances.Distance.{Distance}
use Rattle.babel_value.specs.declared.keys.Source.{Source}
use Rattle.babel_value.specs.Addresses.{width_of}
use Rattle.babel_value.specs.Prefixes.{PrefixValue, cleared_addr, prefix_of}
use Rattle.babel_value.specs.RouterIds.{is_reserved, router_id_of}
use Rattle.babel_state.specs.Sameness.{is_same_addr}
use Rattle.babel_snapshot.specs.Octets.{addr_octets, source_octets}
use Rattle.babel_snapshot.specs.Reading.{addr_in, is_prefix, prefix_with, prefix_in, source_with, source_in, distance_in, with_distance, record_in}
use Rattle.babel_snapshot.specs.SnapshotLaws.{addr_len, wanted_len, IsSource}
use Rattle.babel_snapshot.proofs.ClearBits.{same_addr}

-- ---- what a value comes from

and_then_some : {A B : Type 0} (f : A → Option B) (m : Option A) (b : B) → option_and_then f m ≡ Some b → (a : A) × (m ≡ Some a) × (f a ≡ Some b)
and_then_some f None b is = absurd (none-some b is)
and_then_some f (Some a) b is = (a, refl, is)

map_some : {A B : Type 0} (f : A → B) (m : Option A) (b : B) → option_map f m ≡ Some b → (a : A) × (m ≡ Some a) × (f a ≡ b)
map_some f None b is = absurd (none-some b is)
map_some f (Some a) b is = (a, refl, same_Some (f a) b is)

if_some : {A : Type 0} (b : Bool) (m : Option A) (a : A) → (if b then m else None) ≡ Some a → (b ≡ true) × (m ≡ Some a)
if_some true m a is = (refl, is)
if_some false m a is = absurd (none-some a is)

unless_some : {A : Type 0} (b : Bool) (m : Option A) (a : A) → (if b then None else m) ≡ Some a → (b ≡ false) × (m ≡ Some a)
unless_some true m a is = absurd (none-some a is)
unless_some false m a is = (refl, is)

first_octet : (xs : List ℕ) → 0 < length xs → take 1 xs ≡ slice_index xs 0 ∷ []
first_octet [] e = absurd (omega arith)
first_octet (x ∷ xs) e = refl

-- ---- the address

record IsAddrRead (r : List ℕ) (addr : Addr) : Type 0 where
  octets : addr_octets addr ≡ take 17 r
  len : addr_len addr ≡ wanted_len addr

v4_read : (r : List ℕ) → length r ≡ 30 → slice_index r 0 ≡ 1 → take 12 (drop 5 r) ≡ replicate 12 0 → IsAddrRead r (V4 (take 4 (drop 1 r)))
v4_read r e family filling =
    let first : take 17 r ≡ slice_index r 0 ∷ take 16 (drop 1 r) = take-add 1 16 r ∙ ap (λ xs. xs ++ take 16 (drop 1 r)) (first_octet r (omega (arith, e))) in
    let parts : take 16 (drop 1 r) ≡ take 4 (drop 1 r) ++ take 12 (drop 5 r) = take-add 4 12 (drop 1 r) ∙ ap (λ xs. take 4 (drop 1 r) ++ take 12 xs) (drop-drop 4 1 r) in
    record {
      octets = sym (first ∙ (λ i. family i ∷ parts i) ∙ ap (λ xs. 1 ∷ (take 4 (drop 1 r) ++ xs)) filling);
      len = length-take-le 4 (drop 1 r) (omega (arith, e, length-drop 1 r));
    }

v6_read : (r : List ℕ) → length r ≡ 30 → slice_index r 0 ≡ 2 → IsAddrRead r (V6 (take 16 (drop 1 r)))
v6_read r e family =
    let first : take 17 r ≡ slice_index r 0 ∷ take 16 (drop 1 r) = take-add 1 16 r ∙ ap (λ xs. xs ++ take 16 (drop 1 r)) (first_octet r (omega (arith, e))) in
    record {
      octets = sym (first ∙ ap (λ n. n ∷ take 16 (drop 1 r)) family);
      len = length-take-le 16 (drop 1 r) (omega (arith, e, length-drop 1 r));
    }

addr_read : (r : List ℕ) (addr : Addr) → length r ≡ 30 → addr_in r ≡ Some addr → IsAddrRead r addr
addr_read r addr e is = by (slice_index r 0 == 1) refl is
  where
    second : (b : Bool) → (slice_index r 0 == 2) ≡ b → (if b then Some (V6 (take 16 (drop 1 r))) else None) ≡ Some addr → IsAddrRead r addr
    second true at is = subst (IsAddrRead r) (same_Some (V6 (take 16 (drop 1 r))) addr is) (v6_read r e (eqb-true (slice_index r 0) 2 at))
    second false at is = absurd (none-some addr is)

    by : (b : Bool) → (slice_index r 0 == 1) ≡ b →
        (if b then (if bytes_eq (take 12 (drop 5 r)) (replicate 12 0) then Some (V4 (take 4 (drop 1 r))) else None)
        else if slice_index r 0 == 2 then Some (V6 (take 16 (drop 1 r))) else None) ≡ Some addr → IsAddrRead r addr
    by true at is =
        let parts = if_some (bytes_eq (take 12 (drop 5 r)) (replicate 12 0)) (Some (V4 (take 4 (drop 1 r)))) addr is in
        subst (IsAddrRead r) (same_Some (V4 (take 4 (drop 1 r))) addr parts.1)
        (v4_read r e (eqb-true (slice_index r 0) 1 at) ((bytes_decides (take 12 (drop 5 r)) (replicate 12 0)).0 parts.0))
    by false at is = second (slice_index r 0 == 2) refl is

-- ---- the prefix

abbrev pub made_prefix : Addr → ℕ → PrefixValue
made_prefix addr n = record { addr = addr; length = n }

abbrev made_source : PrefixValue → List ℕ → Source
made_source prefix router = record { prefix = prefix; router = router }

record IsPrefixRead (r : List ℕ) (p : PrefixValue) : Type 0 where
  addr : IsAddrRead r p.addr
  length : p.length ≡ slice_index r 17
  bits : p.length ≤ width_of p.addr
  cleared : cleared_addr p.length p.addr ≡ p.addr

-- A prefix that is read is the address with the length: the address is wide enough, and has no bits past the length.
pub record IsPrefixWith (n : ℕ) (addr : Addr) (p : PrefixValue) : Type 0 where
  pub bits : n ≤ width_of addr
  pub cleared : cleared_addr n addr ≡ addr
  pub named : made_prefix addr n ≡ p

pub prefix_with_parts : (n : ℕ) (addr : Addr) (p : PrefixValue) → prefix_with n addr ≡ Some p → IsPrefixWith n addr p
prefix_with_parts n addr p is =
    let parts = if_some (is_prefix addr n) (prefix_of addr n) p is in
    let tests = and_parts (nat_le n (width_of addr)) (is_same_addr (cleared_addr n addr) addr) parts.0 in
    let clear : cleared_addr n addr ≡ addr = same_addr (cleared_addr n addr) addr tests.1 in
    let same = if_some (nat_le n (width_of addr)) (Some (made_prefix (cleared_addr n addr) n)) p parts.1 in
    record {
      bits = leb-true n (width_of addr) tests.0;
      cleared = clear;
      named = ap (λ a. made_prefix a n) (sym clear) ∙ same_Some (made_prefix (cleared_addr n addr) n) p same.1;
    }

prefix_with_read : (r : List ℕ) (addr : Addr) (p : PrefixValue) → IsAddrRead r addr → prefix_with (slice_index r 17) addr ≡ Some p → IsPrefixRead r p
prefix_with_read r addr p read is =
    let n = slice_index r 17 in
    let parts : IsPrefixWith n addr p = prefix_with_parts n addr p is in
    let whole : IsPrefixRead r (made_prefix addr n) = record { addr = read; length = refl; bits = parts.bits; cleared = parts.cleared } in
    subst (IsPrefixRead r) parts.named whole

prefix_read : (r : List ℕ) (p : PrefixValue) → length r ≡ 30 → prefix_in r ≡ Some p → IsPrefixRead r p
unfolding prefix_in
prefix_read r p e is =
    let parts = and_then_some (prefix_with (slice_index r 17)) (addr_in r) p is in
    prefix_with_read r parts.0 p (addr_read r parts.0 e parts.1) parts.2

-- ---- the source

pub record IsSourceRead (r : List ℕ) (source : Source) : Type 0 where
  pub whole : IsSource source
  pub key : source_octets source ≡ take 26 r

key_parts : (r : List ℕ) → length r ≡ 30 → take 26 r ≡ take 17 r ++ (slice_index r 17 ∷ take 8 (drop 18 r))
key_parts r e =
    let at : slice_index (drop 17 r) 0 ≡ slice_index r 17 = get_or-drop 17 r 0 0 in
    let one : take 1 (drop 17 r) ≡ slice_index r 17 ∷ [] = first_octet (drop 17 r) (omega (arith, e, length-drop 17 r)) ∙ ap (λ n. n ∷ []) at in
    let nine : take 9 (drop 17 r) ≡ slice_index r 17 ∷ take 8 (drop 18 r) =
    take-add 1 8 (drop 17 r) ∙ (λ i. one i ++ take 8 (drop-drop 1 17 r i)) in
    take-add 17 9 r ∙ ap (λ xs. take 17 r ++ xs) nine

source_read : (r : List ℕ) (source : Source) → length r ≡ 30 → source_in r ≡ Some source → IsSourceRead r source
unfolding source_in
source_read r source e is =
    let router = take 8 (drop 18 r) in
    let parts = and_then_some (source_with router) (prefix_in r) source is in
    let prefix = parts.0 in
    let read : IsPrefixRead r prefix = prefix_read r prefix e parts.1 in
    let named = map_some (made_source prefix) (router_id_of router) source parts.2 in
    let free = unless_some (is_reserved router) (Some router) named.0 named.1 in
    let same : made_source prefix router ≡ source =
    ap (made_source prefix) (same_Some router named.0 free.1) ∙ named.2 in
    let whole : IsSource (made_source prefix router) = record {
      addr = read.addr.len;
      bits = read.bits;
      cleared = read.cleared;
      router = length-take-le 8 (drop 18 r) (omega (arith, e, length-drop 18 r));
      named = free.0;
    } in
    let key : source_octets (made_source prefix router) ≡ take 26 r =
    (λ i. read.addr.octets i ++ (read.length i ∷ router)) ∙ sym (key_parts r e) in
    let all : IsSourceRead r (made_source prefix router) = record { whole = whole; key = key } in
    subst (IsSourceRead r) same all

pub record IsRecordRead (r : List ℕ) (e : Source × Distance) : Type 0 where
  pub source : IsSourceRead r e.0
  pub distance : e.1 ≡ distance_in r
  pub finite : e.1.metric < 65535

pub record_read : (r : List ℕ) (e : Source × Distance) → length r ≡ 30 → record_in r ≡ Some e → IsRecordRead r e
unfolding record_in
record_read r e len is =
    let d = distance_in r in
    let parts = and_then_some (with_distance d) (source_in r) e is in
    let finite = if_some (nat_lt d.metric 65535) (Some (parts.0, d)) e parts.2 in
    let same : (parts.0, d) ≡ e = same_Some (parts.0, d) e finite.1 in
    let all : IsRecordRead r (parts.0, d) = record { source = source_read r parts.0 len parts.1; distance = refl; finite = ltb-true d.metric 65535 finite.0 } in
    subst (IsRecordRead r) same all
