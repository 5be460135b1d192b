-- The layout of a snapshot (profile). Lengths and offsets are in octets, and numbers have the most significant octet first.
--
--     Head: 24 octets                      Record of a source: 30 octets
--      4  beginning: 42 42 53 31            1  family: 1 is IPv4, 2 is IPv6
--      8  own router-id                    16  address; 12 zeros follow an IPv4 address
--      2  own seqno                         1  prefix length
--      8  how often the own seqno grew      8  router-id
--      2  number of records                 2  seqno
--                                           2  metric
--
-- The first 26 octets of a record name the source. They rise from record to record.
use Rattle.std.specs.Prelude.{ℕ, ◌+◌, ◌*◌, List, [], ◌∷◌}
use Rattle.babel_sources.specs.Rooms.{most_sources}

-- ---- the head

-- The first octets of each snapshot: "BBS1".
abbrev pub beginning : List ℕ
beginning = 66 ∷ 66 ∷ 83 ∷ 49 ∷ []

abbrev pub beginning_len : ℕ
beginning_len = 4

abbrev pub head_router : ℕ
head_router = 4

abbrev pub head_seqno : ℕ
head_seqno = 12

abbrev pub head_raises : ℕ
head_raises = 14

abbrev pub head_count : ℕ
head_count = 22

abbrev pub head_len : ℕ
head_len = 24

-- A source table has room for so many sources.
abbrev pub most_records : ℕ
most_records = most_sources

-- ---- a record

abbrev pub ipv4 : ℕ
ipv4 = 1

abbrev pub ipv6 : ℕ
ipv6 = 2

abbrev pub ipv4_len : ℕ
ipv4_len = 4

abbrev pub ipv6_len : ℕ
ipv6_len = 16

-- the zeros after an IPv4 address
abbrev pub filling_len : ℕ
filling_len = 12

abbrev pub record_family : ℕ
record_family = 0

abbrev pub record_addr : ℕ
record_addr = 1

abbrev pub record_filling : ℕ
record_filling = 5

abbrev pub record_length : ℕ
record_length = 17

abbrev pub record_router : ℕ
record_router = 18

abbrev pub record_seqno : ℕ
record_seqno = 26

abbrev pub record_metric : ℕ
record_metric = 28

abbrev pub record_len : ℕ
record_len = 30

abbrev pub router_id_len : ℕ
router_id_len = 8

-- The octets that name the source.
abbrev pub source_len : ℕ
source_len = record_seqno

-- ---- the whole

-- The most octets of a snapshot.
abbrev pub max_snapshot_len : ℕ
max_snapshot_len = head_len + record_len * most_records
