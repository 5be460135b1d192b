-- What is proved of snapshots and their octets (profile).
use Rattle.std.specs.Prelude.{◌≡◌, ℕ, ◌<◌, ◌≤◌, false, List, All, length, None}
use Rattle.babel_value.specs.declared.addresses.Addr.{Addr}
use Rattle.babel_value.specs.declared.addresses.Addr.TheVariants.{V4, V6}
use Rattle.babel_value.specs.declared.distances.Distance.{Distance}
use Rattle.babel_value.specs.declared.keys.Source.{Source}
use Rattle.babel_value.specs.Addresses.{width_of}
use Rattle.babel_value.specs.Orders.{source_cmp, octets_cmp}
use Rattle.babel_value.specs.Prefixes.{cleared_addr}
use Rattle.babel_value.specs.RouterIds.{is_reserved}
use Rattle.babel_value.specs.Seqnos.{seqno_modulus}
pub use Rattle.babel_value.specs.Octets.{AreOctets}
use Rattle.babel_state.specs.Restarts.{Snapshot, IsSnapshot}
use Rattle.babel_snapshot.specs.Layout as layout
use Rattle.babel_snapshot.specs.Octets.{source_octets, snapshot_octets}
use Rattle.babel_snapshot.specs.Reading.{snapshot_in, restore_fault}

-- ---- values that are whole, as each value of the types is

abbrev pub addr_len : Addr → ℕ
addr_len (V4 octets) = length octets
addr_len (V6 octets) = length octets

abbrev pub wanted_len : Addr → ℕ
wanted_len (V4 octets) = layout.ipv4_len
wanted_len (V6 octets) = layout.ipv6_len

-- An address of 4 or 16 octets, with a length that it has bits for, and no bits past it; and a router-id that isn't reserved.
pub record IsSource (source : Source) : Type 0 where
  pub addr : addr_len source.prefix.addr ≡ wanted_len source.prefix.addr
  pub bits : source.prefix.length ≤ width_of source.prefix.addr
  pub cleared : cleared_addr source.prefix.length source.prefix.addr ≡ source.prefix.addr
  pub router : length source.router ≡ layout.router_id_len
  pub named : is_reserved source.router ≡ false

-- A source with a seqno of 16 bits.
pub record IsRecord (e : Source × Distance) : Type 0 where
  pub source : IsSource e.0
  pub seqno : e.1.seqno < seqno_modulus

-- A snapshot whose router-id is 8 octets, and whose sources are whole.
pub record IsWhole (snapshot : Snapshot) : Type 0 where
  pub router : length snapshot.router ≡ layout.router_id_len
  pub numbers : IsSnapshot snapshot
  pub records : All IsRecord snapshot.sources

-- ---- laws

-- The octets of two sources are in the order of the sources.
abbrev pub OctetsAreInOrder : Type 0
OctetsAreInOrder = (a b : Source) → IsSource a → IsSource b → octets_cmp (source_octets a) (source_octets b) ≡ source_cmp a b

-- The octets of a snapshot have no fault for its router-id, and encode the snapshot.
pub record IsRead (router octets : List ℕ) (snapshot : Snapshot) : Type 0 where
  pub faultless : restore_fault router octets ≡ None
  pub same : snapshot_in octets ≡ snapshot

abbrev pub WrittenIsRead : Type 0
WrittenIsRead = (snapshot : Snapshot) → IsWhole snapshot → IsRead snapshot.router (snapshot_octets snapshot) snapshot

-- Octets without a fault are the octets of the snapshot that they encode, and that one is whole: no two lists of octets encode the same snapshot.
pub record IsWritten (octets : List ℕ) : Type 0 where
  pub whole : IsWhole (snapshot_in octets)
  pub same : snapshot_octets (snapshot_in octets) ≡ octets

abbrev pub ReadIsWritten : Type 0
ReadIsWritten = (router octets : List ℕ) → AreOctets octets → restore_fault router octets ≡ None → IsWritten octets

-- Two snapshots with the same octets are equal.
abbrev pub OctetsAreExact : Type 0
OctetsAreExact = (one other : Snapshot) → IsWhole one → IsWhole other → snapshot_octets one ≡ snapshot_octets other → one ≡ other
