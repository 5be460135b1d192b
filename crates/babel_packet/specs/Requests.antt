-- Route Request and Seqno Request (RFC 8966, sections 4.6.10 and 4.6.11).
use Rattle.std.specs.Prelude.{ℕ, ◌+◌, List, length, drop, slice_range, nat_lt, nat_eq, replicate, if◌then◌else◌}
use Rattle.babel_value.specs.declared.addresses.Addr.{Addr}
use Rattle.babel_value.specs.declared.addresses.Addr.TheVariants.{V4, V6}
use Rattle.babel_value.specs.Prefixes.{PrefixValue}
use Rattle.babel_value.specs.RouterIds.{is_reserved}
use Rattle.babel_message.specs.Layout as layout
use Rattle.babel_message.specs.declared.placements.Content.{Content}
use Rattle.babel_message.specs.declared.placements.Reason.TheVariants as reasons
use Rattle.babel_message.specs.declared.messages.Message.TheVariants as messages
use Rattle.babel_packet.specs.Numbers.{octet, word}
use Rattle.babel_packet.specs.Contents.{means, ignored}
use Rattle.babel_packet.specs.Tails.{after_tail}
use Rattle.babel_packet.specs.Prefixes.{octets_of, prefix_octets, is_whole}

-- the prefix at this offset, of the length in the octet at `plen`
abbrev pub asked : ℕ → (List ℕ → Addr) → ℕ → ℕ → List ℕ → PrefixValue
asked size family plen at p = record { addr = family (prefix_octets size (replicate size 0) 0 (octet p plen) at p); length = octet p plen }

abbrev pub route_request_in : ℕ → (List ℕ → Addr) → List ℕ → Content
route_request_in size family p =
    if is_whole size 0 (octet p layout.route_request_plen) layout.route_request_len p then
    after_tail (drop (layout.route_request_len + octets_of (octet p layout.route_request_plen)) p)
    (means (messages.RouteRequest (asked size family layout.route_request_plen layout.route_request_len p)))
    else ignored reasons.Unreadable

-- the wildcard asks for all routes
abbrev pub dump_request : List ℕ → Content
dump_request p = if nat_eq (octet p layout.route_request_plen) 0 then means messages.DumpRequest else ignored reasons.Wildcard

-- a Route Request with this payload
unfoldable pub route_request : List ℕ → Content
route_request p =
    if nat_lt (length p) layout.route_request_len then ignored reasons.Unreadable
    else if nat_eq (octet p layout.route_request_ae) layout.ae_wildcard then after_tail (drop layout.route_request_len p) (dump_request p)
    else if nat_eq (octet p layout.route_request_ae) layout.ae_ipv4 then route_request_in layout.ipv4_len V4 p
    else if nat_eq (octet p layout.route_request_ae) layout.ae_ipv6 then route_request_in layout.ipv6_len V6 p
    else ignored reasons.UnknownEncoding

-- the octets of the router-id
abbrev pub requested_router : List ℕ → List ℕ
requested_router p = slice_range p layout.seqno_request_router_id (layout.seqno_request_router_id + layout.router_id_len)

-- A reserved router-id is reported before a hop count of 0 (profile).
unfoldable pub seqno_request_for : PrefixValue → List ℕ → Content
seqno_request_for prefix p =
    if is_reserved (requested_router p) then ignored reasons.NoRouterId
    else if nat_eq (octet p layout.seqno_request_hops) 0 then ignored reasons.NoHops
    else means (messages.SeqnoRequest prefix (requested_router p) (word p layout.seqno_request_seqno) (octet p layout.seqno_request_hops))

abbrev pub seqno_request_in : ℕ → (List ℕ → Addr) → List ℕ → Content
seqno_request_in size family p =
    if is_whole size 0 (octet p layout.seqno_request_plen) layout.seqno_request_len p then
    after_tail (drop (layout.seqno_request_len + octets_of (octet p layout.seqno_request_plen)) p)
    (seqno_request_for (asked size family layout.seqno_request_plen layout.seqno_request_len p) p)
    else ignored reasons.Unreadable

-- a Seqno Request with this payload; there is no request for all prefixes
unfoldable pub seqno_request : List ℕ → Content
seqno_request p =
    if nat_lt (length p) layout.seqno_request_len then ignored reasons.Unreadable
    else if nat_eq (octet p layout.seqno_request_ae) layout.ae_wildcard then after_tail (drop layout.seqno_request_len p) (ignored reasons.Wildcard)
    else if nat_eq (octet p layout.seqno_request_ae) layout.ae_ipv4 then seqno_request_in layout.ipv4_len V4 p
    else if nat_eq (octet p layout.seqno_request_ae) layout.ae_ipv6 then seqno_request_in layout.ipv6_len V6 p
    else ignored reasons.UnknownEncoding
