-- What is known of a record that was tested.
use Rattle.std.specs.Prelude.{◌≡◌, ◌≢◌, ℕ, ◌≤◌, Bool, true, false, List, take, drop, replicate, slice_index, ◌==◌, Option, Some, None, IsSome, option_and_then, if◌then◌else◌}
use Rattle.std.specs.Str.{bytes_eq}
use Rattle.std.proofs.Common.{refl, sym, ap, subst, ◌∙◌}
use Rattle.std.proofs.lemmas.Bool.{eqb-true, true≢false}
use Rattle.babel_value.specs.declared.addresses.Addr.{Addr}
use Rattle.babel_value.specs.declared.addresses.Addr.TheVariants.{V4, V6}
use Rattle.babel_value.specs.Addresses.{width_of}
use Rattle.babel_value.specs.Prefixes.{PrefixValue, cleared_addr}
use Rattle.babel_snapshot.specs.Reading.{addr_in, prefix_with, prefix_in, source_with, source_in, distance_in, with_distance, record_in}
use Rattle.babel_snapshot.proofs.RecordsRead.{IsPrefixWith, made_prefix, prefix_with_parts}

-- A value that is there comes from one that is there.
and_then_there : {A B : Type 0} (f : A → Option B) (m : Option A) → IsSome (option_and_then f m) → IsSome m
and_then_there f None is = absurd (true≢false (sym is))
and_then_there f (Some a) is = refl

pub prefix_is_there : (r : List ℕ) → IsSome (record_in r) → IsSome (prefix_in r)
unfolding record_in source_in
prefix_is_there r is =
    let source : IsSome (source_in r) = and_then_there (with_distance (distance_in r)) (source_in r) is in
    and_then_there (source_with (take 8 (drop 18 r))) (prefix_in r) source

pub addr_is_there : (r : List ℕ) → IsSome (prefix_in r) → IsSome (addr_in r)
unfolding prefix_in
addr_is_there r is = and_then_there (prefix_with (slice_index r 17)) (addr_in r) is

-- ---- the address: its family is one of the two

if_there : {A : Type 0} (b : Bool) (a : A) → IsSome (if b then Some a else None) → (if b then Some a else None) ≡ Some a
if_there true a is = refl
if_there false a is = absurd (true≢false (sym is))

pub ipv4_is_there : (r : List ℕ) → slice_index r 0 ≡ 1 → IsSome (addr_in r) → addr_in r ≡ Some (V4 (take 4 (drop 1 r)))
ipv4_is_there r family is = by (slice_index r 0 == 1) refl is
  where
    by : (b : Bool) → (slice_index r 0 == 1) ≡ b →
        IsSome (if b then (if bytes_eq (take 12 (drop 5 r)) (replicate 12 0) then Some (V4 (take 4 (drop 1 r))) else None)
        else if slice_index r 0 == 2 then Some (V6 (take 16 (drop 1 r))) else None) →
        (if b then (if bytes_eq (take 12 (drop 5 r)) (replicate 12 0) then Some (V4 (take 4 (drop 1 r))) else None)
        else if slice_index r 0 == 2 then Some (V6 (take 16 (drop 1 r))) else None) ≡ Some (V4 (take 4 (drop 1 r)))
    by true at is = if_there (bytes_eq (take 12 (drop 5 r)) (replicate 12 0)) (V4 (take 4 (drop 1 r))) is
    by false at is = absurd (true≢false (sym (ap (λ n. n == 1) family) ∙ at))

pub ipv6_is_there : (r : List ℕ) → slice_index r 0 ≢ 1 → IsSome (addr_in r) → addr_in r ≡ Some (V6 (take 16 (drop 1 r)))
ipv6_is_there r other is = by (slice_index r 0 == 1) refl is
  where
    by : (b : Bool) → (slice_index r 0 == 1) ≡ b →
        IsSome (if b then (if bytes_eq (take 12 (drop 5 r)) (replicate 12 0) then Some (V4 (take 4 (drop 1 r))) else None)
        else if slice_index r 0 == 2 then Some (V6 (take 16 (drop 1 r))) else None) →
        (if b then (if bytes_eq (take 12 (drop 5 r)) (replicate 12 0) then Some (V4 (take 4 (drop 1 r))) else None)
        else if slice_index r 0 == 2 then Some (V6 (take 16 (drop 1 r))) else None) ≡ Some (V6 (take 16 (drop 1 r)))
    by true at is = absurd (other (eqb-true (slice_index r 0) 1 at))
    by false at is = if_there (slice_index r 0 == 2) (V6 (take 16 (drop 1 r))) is

-- ---- the prefix

prefix_found : (r : List ℕ) (addr : Addr) → addr_in r ≡ Some addr → IsSome (prefix_in r) → (p : PrefixValue) × (prefix_in r ≡ Some p) × IsPrefixWith (slice_index r 17) addr p
unfolding prefix_in
prefix_found r addr at is =
    let same : option_and_then (prefix_with (slice_index r 17)) (addr_in r) ≡ prefix_with (slice_index r 17) addr = ap (option_and_then (prefix_with (slice_index r 17))) at in
    by (prefix_with (slice_index r 17) addr) refl (subst IsSome same is)
  where
    by : (m : Option PrefixValue) → prefix_with (slice_index r 17) addr ≡ m → IsSome m →
        (p : PrefixValue) × (option_and_then (prefix_with (slice_index r 17)) (addr_in r) ≡ Some p) × IsPrefixWith (slice_index r 17) addr p
    by None found is = absurd (true≢false (sym is))
    by (Some p) found is =
        (p, ap (option_and_then (prefix_with (slice_index r 17))) at ∙ found, prefix_with_parts (slice_index r 17) addr p found)

pub length_is_short : (r : List ℕ) (addr : Addr) → addr_in r ≡ Some addr → IsSome (prefix_in r) → slice_index r 17 ≤ width_of addr
length_is_short r addr at is = (prefix_found r addr at is).2.bits

pub bits_are_clear : (r : List ℕ) (addr : Addr) → addr_in r ≡ Some addr → IsSome (prefix_in r) → cleared_addr (slice_index r 17) addr ≡ addr
bits_are_clear r addr at is = (prefix_found r addr at is).2.cleared

pub prefix_is_whole : (r : List ℕ) (addr : Addr) → addr_in r ≡ Some addr → IsSome (prefix_in r) → prefix_in r ≡ Some (made_prefix addr (slice_index r 17))
prefix_is_whole r addr at is =
    let found = prefix_found r addr at is in
    found.1 ∙ ap Some (sym found.2.named)
