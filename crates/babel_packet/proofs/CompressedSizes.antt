-- How many octets the compressed TLVs of a message take at most.
use Rattle.std.proofs.Common.{◌≡◌, ℕ, ◌≤◌, ◌||◌, Bool, true, false, List, [], ◌++◌, length, Option, Some, None, refl, arith, length-append, length-drop, if◌then◌else◌}
use Rattle.std.specs.Str.{bytes_eq}
use Rattle.std.proofs.lemmas.List.{length-take}
use Rattle.babel_value.specs.declared.addresses.Addr.{Addr}
use Rattle.babel_value.specs.declared.addresses.Addr.TheVariants.{V4, V6}
use Rattle.babel_value.specs.Prefixes.{PrefixValue}
use Rattle.babel_tlv.specs.Spelling.{spelled}
use Rattle.babel_message.specs.declared.messages.Message.{Message}
use Rattle.babel_message.specs.declared.messages.Message.TheVariants as messages
use Rattle.babel_packet.specs.Prefixes.{octets_of}
use Rattle.babel_packet.specs.declared.parser_state.ParserState.{ParserState}
use Rattle.babel_packet.specs.Payloads.{octets, is_link_local, encoded, receiver_encoded, prefix_written, router_id_payload, next_hop_payload}
use Rattle.babel_packet.specs.Encodable.{IsAddr, IsReceiver, IsRouterId, IsMessage}
use Rattle.babel_packet.specs.BodyMeanings.{hop_for}
use Rattle.babel_packet.specs.Compressed.{is_set, given_router, omitted_in, update_payload, flags_of, router_id_before, next_hop_before, compressed}

octets_size : (addr : Addr) → IsAddr addr → length (octets addr) ≤ 16
octets_size (V4 o) is = omega (arith, is.0)
octets_size (V6 o) is = omega (arith, is.0)

encoded6_size : (o : List ℕ) (local : Bool) → is_link_local o ≡ local → length o ≡ 16 → length (encoded (V6 o)) ≤ 16
encoded6_size o true local size = rw local (omega (arith, length-drop 8 o))
encoded6_size o false other size = rw other (omega arith)

encoded_size : (addr : Addr) → IsAddr addr → length (encoded addr) ≤ 16
encoded_size (V4 o) is = omega (arith, is.0)
encoded_size (V6 o) is = encoded6_size o (is_link_local o) refl is.0

receiver_size : (to : Option Addr) → IsReceiver to → length (receiver_encoded to) ≤ 16
receiver_size None is = omega arith
receiver_size (Some addr) is = encoded_size addr is

written_size : (prefix : PrefixValue) → IsAddr prefix.addr → length (prefix_written prefix) ≤ 16
written_size prefix is =
    omega (arith, length-take (octets_of prefix.length) (octets prefix.addr), octets_size prefix.addr is)

update_size : (d : ParserState) (flags : ℕ) (prefix : PrefixValue) (interval seqno metric : ℕ) → IsAddr prefix.addr →
    length (spelled 8 (update_payload d flags prefix interval seqno metric)) ≤ 28
update_size d flags prefix interval seqno metric is =
    omega (arith, length-drop (omitted_in d prefix) (prefix_written prefix), written_size prefix is)

unless_size : (more : List ℕ) (n : ℕ) (b : Bool) → length more ≤ n → length (if b then [] else more) ≤ n
unless_size more n true le = omega arith
unless_size more n false le = le

router_id_size : (router : List ℕ) → IsRouterId router → length (spelled 6 (router_id_payload router)) ≤ 12
router_id_size router is = omega (arith, is.size)

next_hop_size : (hop : Addr) → IsAddr hop → length (spelled 7 (next_hop_payload hop)) ≤ 20
next_hop_size hop is = omega (arith, encoded_size hop is)

pub compressed_size : (d : ParserState) (message : Message) → IsMessage message → length (compressed d message) ≤ 60
compressed_size d (messages.AckRequest opaque interval) is = omega arith
compressed_size d (messages.Ack opaque) is = omega arith
compressed_size d (messages.Hello unicast seqno interval) is = omega arith
compressed_size d (messages.Ihu to rxcost interval) is = omega (arith, receiver_size to is)
compressed_size d (messages.Update prefix router hop seqno metric interval) is =
    let first = router_id_before d prefix router in
    let second = next_hop_before d hop in
    let third = spelled 8 (update_payload d (flags_of d prefix router) prefix interval seqno metric) in
    let first_size : length first ≤ 12 =
    unless_size (spelled 6 (router_id_payload router)) 12 (is_set d.router router || bytes_eq (given_router prefix.addr) router) (router_id_size router is.1) in
    let second_size : length second ≤ 20 =
    unless_size (spelled 7 (next_hop_payload hop)) 20 (is_set (hop_for hop d) (octets hop)) (next_hop_size hop is.2) in
    omega (
      arith,
      length-append first (second ++ third),
      length-append second third,
      first_size,
      second_size,
      update_size d (flags_of d prefix router) prefix interval seqno metric is.0.addr,
    )
compressed_size d (messages.Retraction prefix interval) is = omega (arith, update_size d 0x80 prefix interval 0 65535 is.addr)
compressed_size d (messages.RetractAll interval) is = omega arith
compressed_size d (messages.RouteRequest prefix) is = omega (arith, written_size prefix is.addr)
compressed_size d messages.DumpRequest is = omega arith
compressed_size d (messages.SeqnoRequest prefix router seqno hops) is =
    omega (arith, length-append router (prefix_written prefix), is.1.size, written_size prefix is.0.addr)
