-- What a speaker keeps over a restart (profile): its source table, and its own seqno (RFC 8966, sections 3.2.2 and 3.2.5).
use Rattle.std.specs.Prelude.{◌≡◌, ℕ, ◌<◌, ◌≤◌, ◌^◌, true, List, map, length, slice_get, All, None}
use Rattle.std.specs.Option.{option_and_then}
use Rattle.std.specs.FinMap.{is_sorted}
use Rattle.babel_value.specs.declared.addresses.Family.{Family}
use Rattle.babel_value.specs.declared.distances.Distance.{Distance}
use Rattle.babel_value.specs.declared.keys.Peer.{Peer}
use Rattle.babel_value.specs.declared.keys.Source.{Source}
use Rattle.babel_value.specs.Moments.{later}
use Rattle.babel_value.specs.Orders.{source_cmp}
use Rattle.babel_value.specs.Prefixes.{PrefixValue}
use Rattle.babel_value.specs.Metrics.{infinity}
use Rattle.babel_value.specs.Seqnos.{seqno_modulus}
use Rattle.babel_sources.specs.declared.sources.SourceEntry.{SourceEntry}
use Rattle.babel_sources.specs.Sources.{Sources}
use Rattle.babel_sources.specs.Rooms.{most_sources, collection_time}
use Rattle.babel_state.specs.declared.configs.Config.{Config}
use Rattle.babel_state.specs.Addresses.{address_of, transport_of}
use Rattle.babel_state.specs.Calls.{new_interface, first_state}
use Rattle.babel_state.specs.Configs.{config_fault}
use Rattle.babel_state.specs.CurrentSelections.{AreCurrent}
use Rattle.babel_state.specs.Invariants.{IsWellFormed}
use Rattle.babel_state.specs.Sameness.{has_prefix}
use Rattle.babel_state.specs.Seen.{Seen, seen}
use Rattle.babel_state.specs.State.{State}

-- ---- snapshots

-- The own router-id, the own seqno, how often that grew, and the feasibility distance of each source.
pub record Snapshot : Type 0 where
  pub router : List ℕ
  pub seqno : ℕ
  pub raises : ℕ
  pub sources : List (Source × Distance)

-- A source with its feasibility distance, without its time of collection.
abbrev pub kept_source : Source × SourceEntry → Source × Distance
kept_source e = (e.0, e.1.distance)

unfoldable pub snapshot_of : State → Snapshot
snapshot_of s = record { router = s.router; seqno = s.seqno; raises = s.raises; sources = map kept_source s.sources }

-- A feasibility distance is finite (RFC 8966, section 3.2.5).
abbrev pub IsFinitePair : Source × Distance → Type 0
IsFinitePair e = e.1.metric < infinity

-- What holds of each snapshot: its numbers fit, and its sources are in order and find room in a source table.
pub record IsSnapshot (snapshot : Snapshot) : Type 0 where
  pub seqno : snapshot.seqno < seqno_modulus
  pub raises : snapshot.raises < 2 ^ 64
  pub few : length snapshot.sources ≤ most_sources
  pub finite : All IsFinitePair snapshot.sources
  pub in_order : is_sorted source_cmp snapshot.sources ≡ true

-- ---- the speaker after a restart

-- A source as if an update for it were sent now: it is collected 18,000 centiseconds from now (RFC 8966, appendix B: 3 minutes).
abbrev pub restored_source : ℕ → Source × Distance → Source × SourceEntry
restored_source now e = (e.0, record { distance = e.1; due = later now collection_time })

abbrev pub restored_sources : ℕ → List (Source × Distance) → Sources
restored_sources now = map (restored_source now)

-- A new speaker of the configuration with the seqno, the count of raises and the sources of a snapshot.
unfoldable pub restored : ℕ → Config → Snapshot → State
restored now c snapshot =
    record (first_state c) { seqno = snapshot.seqno; raises = snapshot.raises; sources = restored_sources now snapshot.sources }

-- A speaker that is saved and restored at once.
abbrev pub restarted : ℕ → Config → State → State
restarted now c s = restored now c (snapshot_of s)

-- ---- what a network sees of a restart

-- The speaker is as configured, has no route and no selection, and keeps its seqno, its count of raises and its sources.
pub record IsRestarted (c : Config) (old new : Seen) : Type 0 where
  pub router : new.router ≡ c.router_id
  pub collects : new.collects ≡ c.collect
  pub transports : (iface : ℕ) → new.transport_at iface ≡ option_and_then (λ i. transport_of (new_interface i)) (slice_get c.interfaces.items iface)
  pub addresses : (iface : ℕ) (family : Family) → new.address_at iface family ≡ option_and_then (λ i. address_of family (new_interface i)) (slice_get c.interfaces.items iface)
  pub seqno : new.seqno ≡ old.seqno
  pub raises : new.raises ≡ old.raises
  pub announces : (prefix : PrefixValue) → new.announces prefix ≡ has_prefix prefix c.prefixes.items
  pub sources : (prefix : PrefixValue) (router : List ℕ) → new.source_at prefix router ≡ old.source_at prefix router
  pub entries : (prefix : PrefixValue) (from : Peer) → new.heard_at prefix from ≡ None
  pub selected : (prefix : PrefixValue) → new.selected_at prefix ≡ None

-- The speaker is what a network sees after a restart of any speaker with this snapshot.
abbrev pub IsRestartedFrom : Config → Snapshot → State → Type 0
IsRestartedFrom c snapshot new = (old : State) → snapshot_of old ≡ snapshot → IsRestarted c (seen old) (seen new)

-- ---- what is proved of it

abbrev pub SnapshotsAreSeen : Type 0
SnapshotsAreSeen = (now : ℕ) (c : Config) (snapshot : Snapshot) → IsRestartedFrom c snapshot (restored now c snapshot)

abbrev pub RestartsAreSeen : Type 0
RestartsAreSeen = (now : ℕ) (c : Config) (s : State) → IsWellFormed s → config_fault c ≡ None → IsRestarted c (seen s) (seen (restarted now c s))

-- A well-formed state has a snapshot, and what is restored of any snapshot is well formed.
abbrev pub SnapshotsAreWhole : Type 0
SnapshotsAreWhole = (s : State) → IsWellFormed s → IsSnapshot (snapshot_of s)

abbrev pub RestoredAreWellFormed : Type 0
RestoredAreWellFormed = (now : ℕ) (c : Config) (snapshot : Snapshot) → config_fault c ≡ None → IsSnapshot snapshot → IsWellFormed (restored now c snapshot)

abbrev pub RestartsAreWellFormed : Type 0
RestartsAreWellFormed = (now : ℕ) (c : Config) (s : State) → IsWellFormed s → config_fault c ≡ None → IsWellFormed (restarted now c s)

-- It has no route, so each selection is current.
abbrev pub RestoredAreCurrent : Type 0
RestoredAreCurrent = (now : ℕ) (c : Config) (snapshot : Snapshot) → AreCurrent (restored now c snapshot)
