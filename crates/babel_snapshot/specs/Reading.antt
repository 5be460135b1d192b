-- What the octets of a snapshot mean, and why octets are none (profile).
use Rattle.std.specs.Prelude.{◌≡◌, ℕ, zero, suc, ◌+◌, ◌≤◌, ◌*◌, Bool, true, ◌&&◌, not, nat_lt, nat_le, ◌==◌, List, [], ◌++◌, length, take, drop, replicate, slice_index, option_and_then, option_map, option_to_list, Option, Some, None, is_some, if◌then◌else◌}
use Rattle.std.specs.Option.{option_or}
use Rattle.std.specs.Ordering.{is_lt}
use Rattle.std.specs.Str.{bytes_eq}
use Rattle.byteorder.specs.Endian.{big_number}
use Rattle.babel_value.specs.declared.addresses.Addr.{Addr}
use Rattle.babel_value.specs.declared.addresses.Addr.TheVariants.{V4, V6}
use Rattle.babel_value.specs.declared.distances.Distance.{Distance}
use Rattle.babel_value.specs.declared.keys.Source.{Source}
use Rattle.babel_value.specs.Addresses.{width_of}
use Rattle.babel_value.specs.Metrics.{infinity}
use Rattle.babel_value.specs.Orders.{octets_cmp}
use Rattle.babel_value.specs.Prefixes.{PrefixValue, cleared_addr, prefix_of}
use Rattle.babel_value.specs.RouterIds.{router_id_of}
use Rattle.babel_state.specs.Restarts.{Snapshot}
use Rattle.babel_state.specs.Sameness.{is_same_addr}
use Rattle.babel_state.specs.declared.errors.RestoreFault.{RestoreFault}
use Rattle.babel_state.specs.declared.errors.RestoreFault.TheVariants as faults
use Rattle.babel_snapshot.specs.Layout as layout

-- ---- a record, of 30 octets

-- The address, unless the family is another one, or an octet after an IPv4 address isn't 0.
abbrev pub addr_in : List ℕ → Option Addr
addr_in octets =
    if slice_index octets layout.record_family == layout.ipv4 then
    if bytes_eq (take layout.filling_len (drop layout.record_filling octets)) (replicate layout.filling_len 0)
    then Some (V4 (take layout.ipv4_len (drop layout.record_addr octets))) else None
    else if slice_index octets layout.record_family == layout.ipv6 then Some (V6 (take layout.ipv6_len (drop layout.record_addr octets)))
    else None

-- The length isn't greater than the address is wide, and the bits past it are 0.
abbrev pub is_prefix : Addr → ℕ → Bool
is_prefix addr length = nat_le length (width_of addr) && is_same_addr (cleared_addr length addr) addr

-- The prefix, if the octets encode one.
abbrev pub prefix_with : ℕ → Addr → Option PrefixValue
prefix_with length addr = if is_prefix addr length then prefix_of addr length else None

unfoldable pub prefix_in : List ℕ → Option PrefixValue
prefix_in octets = option_and_then (prefix_with (slice_index octets layout.record_length)) (addr_in octets)

-- The source, if its router-id isn't reserved.
abbrev pub source_with : List ℕ → PrefixValue → Option Source
source_with router prefix = option_map (λ named. record { prefix = prefix; router = named }) (router_id_of router)

unfoldable pub source_in : List ℕ → Option Source
source_in octets = option_and_then (source_with (take layout.router_id_len (drop layout.record_router octets))) (prefix_in octets)

unfoldable pub distance_in : List ℕ → Distance
distance_in octets = record { seqno = big_number 2 (drop layout.record_seqno octets); metric = big_number 2 (drop layout.record_metric octets) }

-- The source and its distance, if that is finite.
abbrev pub with_distance : Distance → Source → Option (Source × Distance)
with_distance distance source = if nat_lt distance.metric infinity then Some (source, distance) else None

unfoldable pub record_in : List ℕ → Option (Source × Distance)
record_in octets = option_and_then (with_distance (distance_in octets)) (source_in octets)

-- ---- the head

abbrev pub router_in : List ℕ → List ℕ
router_in octets = take layout.router_id_len (drop layout.head_router octets)

abbrev pub seqno_in : List ℕ → ℕ
seqno_in octets = big_number 2 (drop layout.head_seqno octets)

abbrev pub raises_in : List ℕ → ℕ
raises_in octets = big_number 8 (drop layout.head_raises octets)

abbrev pub count_in : List ℕ → ℕ
count_in octets = big_number 2 (drop layout.head_count octets)

-- ---- the records

abbrev pub record_at : ℕ → List ℕ → List ℕ
record_at index octets = take layout.record_len (drop (layout.head_len + layout.record_len * index) octets)

-- The sources of the first n records.
abbrev pub sources_in : ℕ → List ℕ → List (Source × Distance)
sources_in zero octets = []
sources_in (suc n) octets = sources_in n octets ++ option_to_list (record_in (record_at n octets))

-- What the octets encode, if they have no fault.
unfoldable pub snapshot_in : List ℕ → Snapshot
snapshot_in octets = record {
  router = router_in octets;
  seqno = seqno_in octets;
  raises = raises_in octets;
  sources = sources_in (count_in octets) octets;
}

-- ---- faults

-- The octets by which records are ordered.
abbrev pub key_at : ℕ → List ℕ → List ℕ
key_at index octets = take layout.record_seqno (record_at index octets)

-- The record is the first one, or greater than the one before it.
abbrev pub is_in_order : ℕ → List ℕ → Bool
is_in_order zero octets = true
is_in_order (suc i) octets = is_lt (octets_cmp (key_at i octets) (key_at (suc i) octets))

-- The fault of a record.
unfoldable pub record_fault : ℕ → List ℕ → Option RestoreFault
record_fault index octets =
    if not (is_some (record_in (record_at index octets))) then Some (faults.Record index)
    else if not (is_in_order index octets) then Some (faults.Order index)
    else None

-- The first fault of the first n records.
abbrev pub records_fault : ℕ → List ℕ → Option RestoreFault
records_fault zero octets = None
records_fault (suc n) octets = option_or (records_fault n octets) (record_fault n octets)

-- Octets of which no record has a fault, with the length of a head and so many records.
pub record IsFaultless (octets : List ℕ) : Type 0 where
  pub whole : length octets ≡ layout.head_len + layout.record_len * count_in octets
  pub few : count_in octets ≤ layout.most_records
  pub records : records_fault (count_in octets) octets ≡ None

-- The first fault of a whole snapshot, in the order of the codes, for the router-id of a configuration.
unfoldable pub restore_fault : List ℕ → List ℕ → Option RestoreFault
restore_fault router octets =
    if nat_lt (length octets) layout.head_len then Some faults.TooShort
    else if not (bytes_eq (take layout.beginning_len octets) layout.beginning) then Some faults.Beginning
    else if not (bytes_eq (router_in octets) router) then Some faults.RouterId
    else if nat_lt layout.most_records (count_in octets) then Some faults.TooManyRecords
    else if not (length octets == layout.head_len + layout.record_len * count_in octets) then Some faults.Length
    else records_fault (count_in octets) octets
