-- A snapshot as octets (profile).
use Rattle.std.specs.Prelude.{ℕ, List, [], ◌∷◌, ◌++◌, replicate, length}
use Rattle.byteorder.specs.Endian.{big_bytes}
use Rattle.babel_value.specs.declared.addresses.Addr.{Addr}
use Rattle.babel_value.specs.declared.addresses.Addr.TheVariants.{V4, V6}
use Rattle.babel_value.specs.declared.distances.Distance.{Distance}
use Rattle.babel_value.specs.declared.keys.Source.{Source}
use Rattle.babel_state.specs.Restarts.{Snapshot}
use Rattle.babel_snapshot.specs.Layout as layout

-- The family and the address, in 17 octets.
abbrev pub addr_octets : Addr → List ℕ
addr_octets (V4 octets) = layout.ipv4 ∷ octets ++ replicate layout.filling_len 0
addr_octets (V6 octets) = layout.ipv6 ∷ octets

-- A source, in 26 octets: address, prefix length, router-id.
abbrev pub source_octets : Source → List ℕ
source_octets source = addr_octets source.prefix.addr ++ source.prefix.length ∷ source.router

-- A record: the source, its seqno and its metric.
abbrev pub record_octets : Source × Distance → List ℕ
record_octets e = source_octets e.0 ++ big_bytes 2 e.1.seqno ++ big_bytes 2 e.1.metric

abbrev pub records_octets : List (Source × Distance) → List ℕ
records_octets [] = []
records_octets (e ∷ es) = record_octets e ++ records_octets es

-- The head before so many records.
abbrev pub head_octets : List ℕ → ℕ → ℕ → ℕ → List ℕ
head_octets router seqno raises count =
    layout.beginning ++ router ++ big_bytes 2 seqno ++ big_bytes 8 raises ++ big_bytes 2 count

-- The head, then a record for each source.
unfoldable pub snapshot_octets : Snapshot → List ℕ
snapshot_octets s = head_octets s.router s.seqno s.raises (length s.sources) ++ records_octets s.sources
