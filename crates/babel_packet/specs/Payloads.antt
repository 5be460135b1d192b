-- Payloads as they are written (RFC 8966, section 4.6): reserved octets are 0, and no sub-TLVs follow.
use Rattle.std.specs.Prelude.{ℕ, ◌/◌, ◌%◌, List, [], ◌∷◌, ◌++◌, Bool, Option, Some, None, take, drop, if◌then◌else◌}
use Rattle.std.specs.Str.{bytes_eq}
use Rattle.babel_value.specs.declared.addresses.Addr.{Addr}
use Rattle.babel_value.specs.declared.addresses.Addr.TheVariants.{V4, V6}
use Rattle.babel_value.specs.Metrics.{infinity}
use Rattle.babel_value.specs.Prefixes.{PrefixValue}
use Rattle.babel_tlv.specs.Layout.{octet_bound}
use Rattle.babel_message.specs.Layout as layout
use Rattle.babel_message.specs.declared.messages.Message.{Message}
use Rattle.babel_message.specs.declared.messages.Message.TheVariants as messages
use Rattle.babel_packet.specs.Addresses.{link_local_prefix}
use Rattle.babel_packet.specs.Prefixes.{octets_of}

-- a number in two octets, the most significant first (section 4.1.1)
abbrev pub two : ℕ → List ℕ
two n = n / octet_bound ∷ n % octet_bound ∷ []

abbrev pub octets : Addr → List ℕ
octets (V4 o) = o
octets (V6 o) = o

-- within fe80::/64
abbrev pub is_link_local : List ℕ → Bool
is_link_local o = bytes_eq (take layout.link_local_len o) link_local_prefix

-- the encoding of an address (section 4.1.4)
abbrev pub encoding : Addr → ℕ
encoding (V4 o) = layout.ae_ipv4
encoding (V6 o) = if is_link_local o then layout.ae_link_local else layout.ae_ipv6

-- its octets in that encoding
abbrev pub encoded : Addr → List ℕ
encoded (V4 o) = o
encoded (V6 o) = if is_link_local o then drop layout.link_local_len o else o

-- the encoding of a prefix (section 4.1.4)
abbrev pub prefix_encoding : Addr → ℕ
prefix_encoding (V4 o) = layout.ae_ipv4
prefix_encoding (V6 o) = layout.ae_ipv6

-- the octets of a prefix (section 4.1.5): those that its length reaches into
abbrev pub prefix_written : PrefixValue → List ℕ
prefix_written prefix = take (octets_of prefix.length) (octets prefix.addr)

-- the receiver of an IHU: the wildcard for any (section 4.6.6)
abbrev pub receiver_encoding : Option Addr → ℕ
receiver_encoding None = layout.ae_wildcard
receiver_encoding (Some addr) = encoding addr

abbrev pub receiver_encoded : Option Addr → List ℕ
receiver_encoded None = []
receiver_encoded (Some addr) = encoded addr

-- Router-Id (section 4.6.7) and Next Hop (section 4.6.8)
abbrev pub router_id_payload : List ℕ → List ℕ
router_id_payload router = 0 ∷ 0 ∷ router

abbrev pub next_hop_payload : Addr → List ℕ
next_hop_payload addr = encoding addr ∷ 0 ∷ encoded addr

-- an Update (section 4.6.9) without flags, of which no octets are omitted
abbrev pub update_payload : ℕ → ℕ → ℕ → ℕ → ℕ → List ℕ → List ℕ
update_payload ae length interval seqno metric prefix = ae ∷ 0 ∷ length ∷ 0 ∷ (two interval ++ (two seqno ++ (two metric ++ prefix)))

-- the type of a message's TLV (section 4.6)
abbrev pub kind_of : Message → ℕ
kind_of (messages.AckRequest opaque interval) = layout.ack_request
kind_of (messages.Ack opaque) = layout.ack
kind_of (messages.Hello unicast seqno interval) = layout.hello
kind_of (messages.Ihu to rxcost interval) = layout.ihu
kind_of (messages.Update prefix router next_hop seqno metric interval) = layout.update
kind_of (messages.Retraction prefix interval) = layout.update
kind_of (messages.RetractAll interval) = layout.update
kind_of (messages.RouteRequest prefix) = layout.route_request
kind_of messages.DumpRequest = layout.route_request
kind_of (messages.SeqnoRequest prefix router seqno hops) = layout.seqno_request

-- and its payload; a retraction has the infinite metric and seqno 0
abbrev pub payload_of : Message → List ℕ
payload_of (messages.AckRequest opaque interval) = 0 ∷ 0 ∷ (two opaque ++ two interval)
payload_of (messages.Ack opaque) = two opaque
payload_of (messages.Hello unicast seqno interval) = (if unicast then layout.hello_unicast / octet_bound else 0) ∷ 0 ∷ (two seqno ++ two interval)
payload_of (messages.Ihu to rxcost interval) = receiver_encoding to ∷ 0 ∷ (two rxcost ++ (two interval ++ receiver_encoded to))
payload_of (messages.Update prefix router next_hop seqno metric interval) =
    update_payload (prefix_encoding prefix.addr) prefix.length interval seqno metric (prefix_written prefix)
payload_of (messages.Retraction prefix interval) =
    update_payload (prefix_encoding prefix.addr) prefix.length interval 0 infinity (prefix_written prefix)
payload_of (messages.RetractAll interval) = update_payload layout.ae_wildcard 0 interval 0 infinity []
payload_of (messages.RouteRequest prefix) = prefix_encoding prefix.addr ∷ prefix.length ∷ prefix_written prefix
payload_of messages.DumpRequest = layout.ae_wildcard ∷ 0 ∷ []
payload_of (messages.SeqnoRequest prefix router seqno hops) =
    prefix_encoding prefix.addr ∷ prefix.length ∷ (two seqno ++ (hops ∷ 0 ∷ (router ++ prefix_written prefix)))
