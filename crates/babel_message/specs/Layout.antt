-- The layout of a datagram and of its TLVs (RFC 8966, section 4): types, encodings, and each field's offset. Lengths and offsets are in octets.
-- The offset of a TLV's field counts from the first octet of the payload. The length of a TLV is that of its fields before address, prefix and sub-TLVs.
use Rattle.std.specs.Prelude.{ℕ}

-- ---- the header of a datagram (section 4.2)

abbrev pub magic : ℕ
magic = 42

abbrev pub version : ℕ
version = 2

abbrev pub magic_at : ℕ
magic_at = 0

abbrev pub version_at : ℕ
version_at = 1

-- the length of the body, a number in two octets
abbrev pub body_len_at : ℕ
body_len_at = 2

abbrev pub datagram_header_len : ℕ
datagram_header_len = 4

-- ---- types of TLVs (section 4.6); Pad1 is that of babel_tlv

abbrev pub pad_n : ℕ
pad_n = 1

abbrev pub ack_request : ℕ
ack_request = 2

abbrev pub ack : ℕ
ack = 3

abbrev pub hello : ℕ
hello = 4

abbrev pub ihu : ℕ
ihu = 5

abbrev pub router_id : ℕ
router_id = 6

abbrev pub next_hop : ℕ
next_hop = 7

abbrev pub update : ℕ
update = 8

abbrev pub route_request : ℕ
route_request = 9

abbrev pub seqno_request : ℕ
seqno_request = 10

-- the least type of a sub-TLV that must be understood (section 4.4)
abbrev pub mandatory : ℕ
mandatory = 128

-- ---- encodings of addresses (AE; section 4.1.4), and how many octets an address of each takes

abbrev pub ae_wildcard : ℕ
ae_wildcard = 0

abbrev pub ae_ipv4 : ℕ
ae_ipv4 = 1

abbrev pub ae_ipv6 : ℕ
ae_ipv6 = 2

abbrev pub ae_link_local : ℕ
ae_link_local = 3

abbrev pub ipv4_len : ℕ
ipv4_len = 4

abbrev pub ipv6_len : ℕ
ipv6_len = 16

-- the octets of an address in fe80::/64 after that prefix
abbrev pub link_local_len : ℕ
link_local_len = 8

-- ---- a router-id (section 4.1.3)

abbrev pub router_id_len : ℕ
router_id_len = 8

-- ---- Acknowledgment Request (section 4.6.3): reserved 2, opaque 2, interval 2

abbrev pub ack_request_opaque : ℕ
ack_request_opaque = 2

abbrev pub ack_request_interval : ℕ
ack_request_interval = 4

abbrev pub ack_request_len : ℕ
ack_request_len = 6

-- ---- Acknowledgment (section 4.6.4): opaque 2

abbrev pub ack_opaque : ℕ
ack_opaque = 0

abbrev pub ack_len : ℕ
ack_len = 2

-- ---- Hello (section 4.6.5): flags 2, seqno 2, interval 2

abbrev pub hello_flags : ℕ
hello_flags = 0

abbrev pub hello_seqno : ℕ
hello_seqno = 2

abbrev pub hello_interval : ℕ
hello_interval = 4

abbrev pub hello_len : ℕ
hello_len = 6

-- the flag of a unicast Hello
abbrev pub hello_unicast : ℕ
hello_unicast = 0x8000

-- ---- IHU (section 4.6.6): AE 1, reserved 1, rxcost 2, interval 2, then the address

abbrev pub ihu_ae : ℕ
ihu_ae = 0

abbrev pub ihu_rxcost : ℕ
ihu_rxcost = 2

abbrev pub ihu_interval : ℕ
ihu_interval = 4

abbrev pub ihu_len : ℕ
ihu_len = 6

-- ---- Router-Id (section 4.6.7): reserved 2, router-id 8

abbrev pub router_id_value : ℕ
router_id_value = 2

abbrev pub router_id_tlv_len : ℕ
router_id_tlv_len = 10

-- ---- Next Hop (section 4.6.8): AE 1, reserved 1, then the address

abbrev pub next_hop_ae : ℕ
next_hop_ae = 0

abbrev pub next_hop_len : ℕ
next_hop_len = 2

-- ---- Update (section 4.6.9): AE 1, flags 1, Plen 1, Omitted 1, interval 2, seqno 2, metric 2, then the prefix

abbrev pub update_ae : ℕ
update_ae = 0

abbrev pub update_flags : ℕ
update_flags = 1

abbrev pub update_plen : ℕ
update_plen = 2

abbrev pub update_omitted : ℕ
update_omitted = 3

abbrev pub update_interval : ℕ
update_interval = 4

abbrev pub update_seqno : ℕ
update_seqno = 6

abbrev pub update_metric : ℕ
update_metric = 8

abbrev pub update_len : ℕ
update_len = 10

-- the flag of an Update that sets the default prefix
abbrev pub update_sets_prefix : ℕ
update_sets_prefix = 0x80

-- the flag of an Update that sets the router-id
abbrev pub update_sets_router_id : ℕ
update_sets_router_id = 0x40

-- ---- Route Request (section 4.6.10): AE 1, Plen 1, then the prefix

abbrev pub route_request_ae : ℕ
route_request_ae = 0

abbrev pub route_request_plen : ℕ
route_request_plen = 1

abbrev pub route_request_len : ℕ
route_request_len = 2

-- ---- Seqno Request (section 4.6.11): AE 1, Plen 1, seqno 2, hop count 1, reserved 1, router-id 8, then the prefix

abbrev pub seqno_request_ae : ℕ
seqno_request_ae = 0

abbrev pub seqno_request_plen : ℕ
seqno_request_plen = 1

abbrev pub seqno_request_seqno : ℕ
seqno_request_seqno = 2

abbrev pub seqno_request_hops : ℕ
seqno_request_hops = 4

abbrev pub seqno_request_router_id : ℕ
seqno_request_router_id = 6

abbrev pub seqno_request_len : ℕ
seqno_request_len = 14
