-- Every message of a datagram can be sent as it is.
use Rattle.std.proofs.Common.{◌≡◌, ℕ, zero, suc, ◌+◌, ◌*◌, ◌≤◌, Bool, true, false, ◌&&◌, List, [], ◌∷◌, length, take, drop, replicate, Option, Some, None, option_map, Result, Ok, nat_lt, nat_le, nat_eq, if◌then◌else◌, refl, ap, ◌∙◌, arith, length-append}
use Rattle.std.specs.List.{AllByRecursion, slice_range}
use Rattle.std.specs.Option.{option_or, option_and_then}
use Rattle.std.proofs.lemmas.Bool.{ltb-false, leb-true, eqb-false, lt-ltb, and_parts, and_from}
use Rattle.std.proofs.lemmas.List.{length-replicate}
use Rattle.babel_value.specs.declared.addresses.Addr.{Addr}
use Rattle.babel_value.specs.declared.addresses.Addr.TheVariants.{V4, V6}
use Rattle.babel_value.specs.Prefixes.{PrefixValue}
use Rattle.babel_value.specs.RouterIds.{is_reserved, router_id_of}
use Rattle.babel_value.proofs.OctetLists.{take_octets}
use Rattle.babel_tlv.specs.Place.{Place}
use Rattle.babel_tlv.specs.Split.{places_at, places_of, fault_of}
use Rattle.babel_message.specs.Layout as layout
use Rattle.babel_packet.specs.declared.parser_state.ParserState.{ParserState}
use Rattle.babel_message.specs.declared.messages.Message.{Message}
use Rattle.babel_message.specs.declared.messages.Message.TheVariants as messages
use Rattle.babel_message.specs.declared.placements.Content.{Content}
use Rattle.babel_message.specs.declared.placements.Content.TheVariants as contents
use Rattle.babel_message.specs.declared.placements.Reason.{Reason}
use Rattle.babel_message.specs.declared.placements.Reason.TheVariants as reasons
use Rattle.babel_message.specs.declared.placements.Placed.{Placed}
use Rattle.babel_message.specs.declared.errors.Refusal.{Refusal}
use Rattle.babel_packet.specs.Numbers.{octet, word, has_flag}
use Rattle.babel_packet.specs.Addresses.{ipv4_at, ipv6_at, link_local_at, link_local_prefix}
use Rattle.babel_packet.specs.Prefixes.{prefix_octets, is_whole}
use Rattle.babel_packet.specs.Contents.{unless}
use Rattle.babel_packet.specs.Tails.{tail_reason, after_tail}
use Rattle.babel_packet.specs.Acks.{ack_request, ack}
use Rattle.babel_packet.specs.Hellos.{hello}
use Rattle.babel_packet.specs.Ihus.{ihu, ihu_of, ihu_to}
use Rattle.babel_packet.specs.RouterIds.{router_id, named_router}
use Rattle.babel_packet.specs.NextHops.{next_hop, next_hop_of, named_hop4, named_hop6}
use Rattle.babel_packet.specs.UpdateFields.{is_readable, base_of, address}
use Rattle.babel_packet.specs.LookBack.{update_address, flagged, own_default, default_before, router_of_ipv4, router_of_ipv6, own_router, router_before, hop4_before, hop6_before, before}
use Rattle.babel_packet.specs.Updates.{from_hop, from_router, update_of, prefixed, wildcard, update_in, update_router, update4, update6, update}
use Rattle.babel_packet.specs.Requests.{asked, route_request_in, dump_request, route_request, requested_router, seqno_request_for, seqno_request_in, seqno_request}
use Rattle.babel_packet.specs.Meaning.{content, content_messages, placed_from, body_of, body_meaning, header_refusal, unless_refused, meaning, messages_of}
use Rattle.babel_packet.specs.Encodable.{are_kin, is_encodable, AreOctets, IsAddr, IsReceiver, IsPrefix, IsRouterId, IsMessage}
use Rattle.babel_packet.specs.Decoded.{IsSendable}
use Rattle.babel_packet.proofs.Octets.{by_if, slice_octets, append_octets, replicate_octets, Octets, slice_is, Cleared, prefix_is, word_small}

positive : (n : ℕ) → nat_eq n 0 ≡ false → nat_lt 0 n ≡ true
positive n other = lt-ltb 0 n (let h = eqb-false n 0 other in omega arith)

-- ---- contents

-- a content without a message, or with a sendable one
abbrev Holds : Content → Type 0
Holds (contents.Message message) = IsSendable message
Holds contents.State = Unit {0}
Holds (contents.Ignored reason) = Unit {0}

record IsGood (c : Content) : Type 0 where
  holds : Holds c

no_message : (reason : Reason) → IsGood (contents.Ignored reason)
no_message reason = record { holds = tt }

no_message_either : IsGood contents.State
no_message_either = record { holds = tt }

good_unless : (reason : Option Reason) (c : Content) → IsGood c → IsGood (unless reason c)
good_unless None c good = good
good_unless (Some reason) c good = no_message reason

good_tail : (tail : List ℕ) (c : Content) → IsGood c → IsGood (after_tail tail c)
good_tail tail c good = good_unless (tail_reason tail) c good

simple : (message : Message) → IsMessage message → is_encodable message ≡ true → IsGood (contents.Message message)
simple message whole encodable = record { holds = record { whole = whole; encodable = encodable } }

good_ack_request : (p : List ℕ) → IsGood (ack_request p)
unfolding ack_request
good_ack_request p = by_if IsGood (nat_lt (length p) layout.ack_request_len) (contents.Ignored reasons.Unreadable) (after_tail (drop layout.ack_request_len p) (contents.Message (messages.AckRequest (word p layout.ack_request_opaque) (word p layout.ack_request_interval)))) (λ _. no_message reasons.Unreadable) (λ _. good_tail (drop layout.ack_request_len p) _ (simple (messages.AckRequest (word p layout.ack_request_opaque) (word p layout.ack_request_interval)) tt refl))

good_ack : (p : List ℕ) → IsGood (ack p)
unfolding ack
good_ack p = by_if IsGood (nat_lt (length p) layout.ack_len) (contents.Ignored reasons.Unreadable) (after_tail (drop layout.ack_len p) (contents.Message (messages.Ack (word p layout.ack_opaque)))) (λ _. no_message reasons.Unreadable) (λ _. good_tail (drop layout.ack_len p) _ (simple (messages.Ack (word p layout.ack_opaque)) tt refl))

good_hello : (p : List ℕ) → IsGood (hello p)
unfolding hello
good_hello p = by_if IsGood (nat_lt (length p) layout.hello_len) (contents.Ignored reasons.Unreadable) (after_tail (drop layout.hello_len p) (contents.Message (messages.Hello (has_flag (word p layout.hello_flags) layout.hello_unicast) (word p layout.hello_seqno) (word p layout.hello_interval)))) (λ _. no_message reasons.Unreadable) (λ _. good_tail (drop layout.hello_len p) _ (simple (messages.Hello (has_flag (word p layout.hello_flags) layout.hello_unicast) (word p layout.hello_seqno) (word p layout.hello_interval)) tt refl))

good_router_id : (p : List ℕ) → IsGood (router_id p)
unfolding router_id
good_router_id p = by_if IsGood (nat_lt (length p) layout.router_id_tlv_len) (contents.Ignored reasons.Unreadable) (after_tail (drop layout.router_id_tlv_len p) contents.State) (λ _. no_message reasons.Unreadable) (λ _. good_tail (drop layout.router_id_tlv_len p) _ no_message_either)

good_next_hop_of : (size : ℕ) (p : List ℕ) → IsGood (next_hop_of size p)
unfolding next_hop_of
good_next_hop_of size p = by_if IsGood (nat_lt (length p) size) (contents.Ignored reasons.Unreadable) (after_tail (drop size p) contents.State) (λ _. no_message reasons.Unreadable) (λ _. good_tail (drop size p) _ no_message_either)

good_next_hop : (p : List ℕ) → IsGood (next_hop p)
unfolding next_hop
good_next_hop p =
    by_if IsGood (nat_lt (length p) layout.next_hop_len) (contents.Ignored reasons.Unreadable) (if nat_eq (octet p layout.next_hop_ae) layout.ae_ipv4 then next_hop_of (layout.next_hop_len + layout.ipv4_len) p else (if nat_eq (octet p layout.next_hop_ae) layout.ae_ipv6 then next_hop_of (layout.next_hop_len + layout.ipv6_len) p else (if nat_eq (octet p layout.next_hop_ae) layout.ae_link_local then next_hop_of (layout.next_hop_len + layout.link_local_len) p else contents.Ignored reasons.UnknownEncoding))) (λ _. no_message reasons.Unreadable) (λ _. by_if IsGood (nat_eq (octet p layout.next_hop_ae) layout.ae_ipv4) _ (if nat_eq (octet p layout.next_hop_ae) layout.ae_ipv6 then next_hop_of (layout.next_hop_len + layout.ipv6_len) p else (if nat_eq (octet p layout.next_hop_ae) layout.ae_link_local then next_hop_of (layout.next_hop_len + layout.link_local_len) p else contents.Ignored reasons.UnknownEncoding)) (λ _. good_next_hop_of 6 p) (λ _. by_if IsGood (nat_eq (octet p layout.next_hop_ae) layout.ae_ipv6) _ (if nat_eq (octet p layout.next_hop_ae) layout.ae_link_local then next_hop_of (layout.next_hop_len + layout.link_local_len) p else contents.Ignored reasons.UnknownEncoding) (λ _. good_next_hop_of 18 p)
    (λ _. by_if IsGood (nat_eq (octet p layout.next_hop_ae) layout.ae_link_local) _ (contents.Ignored reasons.UnknownEncoding) (λ _. good_next_hop_of 10 p) (λ _. no_message reasons.UnknownEncoding))))

-- ---- addresses

ipv4_is : (p : List ℕ) (at : ℕ) → AreOctets p → at + 4 ≤ length p → Octets 4 (ipv4_at p at)
ipv4_is p at small there = slice_is p at (at + 4) 4 small there refl

ipv6_is : (p : List ℕ) (at : ℕ) → AreOctets p → at + 16 ≤ length p → Octets 16 (ipv6_at p at)
ipv6_is p at small there = slice_is p at (at + 16) 16 small there refl

prefix_small : AreOctets link_local_prefix
prefix_small zero = omega arith
prefix_small (suc zero) = omega arith
prefix_small (suc (suc k)) = replicate_octets 6 k

link_local_is : (p : List ℕ) (at : ℕ) → AreOctets p → at + 8 ≤ length p → Octets 16 (link_local_at p at)
link_local_is p at small there =
    let last = slice_is p at (at + 8) 8 small there refl in record {
      long = length-append link_local_prefix (slice_range p at (at + 8)) ∙ ap (λ n. 8 + n) last.long;
      small = append_octets link_local_prefix (slice_range p at (at + 8)) prefix_small last.small;
    }

v4 : (o : List ℕ) → Octets 4 o → IsAddr (V4 o)
v4 o is = (is.long, is.small)

v6 : (o : List ℕ) → Octets 16 o → IsAddr (V6 o)
v6 o is = (is.long, is.small)

-- ---- IHU

good_ihu_to : (to : Option Addr) (p : List ℕ) → IsReceiver to → IsGood (ihu_to to p)
good_ihu_to to p receiver =
    by_if IsGood (nat_eq (word p layout.ihu_interval) 0) _ _ (λ _. no_message reasons.ZeroInterval) (λ interval. by_if IsGood (nat_eq (word p layout.ihu_rxcost) 0) _ _ (λ _. no_message reasons.ZeroRxcost) (λ cost.
    simple (messages.Ihu to (word p layout.ihu_rxcost) (word p layout.ihu_interval)) receiver (and_from _ _ (positive (word p layout.ihu_rxcost) cost) (positive (word p layout.ihu_interval) interval))))

good_ihu_of : (size : ℕ) (to : Option Addr) (p : List ℕ) → (size ≤ length p → IsReceiver to) → IsGood (ihu_of size to p)
unfolding ihu_of
good_ihu_of size to p receiver =
    by_if IsGood _ _ _ (λ _. no_message _) (λ long. good_tail _ _ (good_ihu_to to p (receiver (ltb-false _ _ long))))

good_ihu : (p : List ℕ) → AreOctets p → IsGood (ihu p)
unfolding ihu
good_ihu p small =
    by_if IsGood (nat_lt (length p) layout.ihu_len) (contents.Ignored reasons.Unreadable) (if nat_eq (octet p layout.ihu_ae) layout.ae_wildcard then ihu_of layout.ihu_len None p else (if nat_eq (octet p layout.ihu_ae) layout.ae_ipv4 then ihu_of (layout.ihu_len + layout.ipv4_len) (Some (V4 (ipv4_at p layout.ihu_len))) p else (if nat_eq (octet p layout.ihu_ae) layout.ae_ipv6 then ihu_of (layout.ihu_len + layout.ipv6_len) (Some (V6 (ipv6_at p layout.ihu_len))) p else (if nat_eq (octet p layout.ihu_ae) layout.ae_link_local then ihu_of (layout.ihu_len + layout.link_local_len) (Some (V6 (link_local_at p layout.ihu_len))) p else contents.Ignored reasons.UnknownEncoding)))) (λ _. no_message reasons.Unreadable) (λ _. by_if IsGood (nat_eq (octet p layout.ihu_ae) layout.ae_wildcard) _ (if nat_eq (octet p layout.ihu_ae) layout.ae_ipv4 then ihu_of (layout.ihu_len + layout.ipv4_len) (Some (V4 (ipv4_at p layout.ihu_len))) p else (if nat_eq (octet p layout.ihu_ae) layout.ae_ipv6 then ihu_of (layout.ihu_len + layout.ipv6_len) (Some (V6 (ipv6_at p layout.ihu_len))) p else (if nat_eq (octet p layout.ihu_ae) layout.ae_link_local then ihu_of (layout.ihu_len + layout.link_local_len) (Some (V6 (link_local_at p layout.ihu_len))) p else contents.Ignored reasons.UnknownEncoding))) (λ _. good_ihu_of 6 None p (λ _. tt))
    (λ _. by_if IsGood (nat_eq (octet p layout.ihu_ae) layout.ae_ipv4) _ (if nat_eq (octet p layout.ihu_ae) layout.ae_ipv6 then ihu_of (layout.ihu_len + layout.ipv6_len) (Some (V6 (ipv6_at p layout.ihu_len))) p else (if nat_eq (octet p layout.ihu_ae) layout.ae_link_local then ihu_of (layout.ihu_len + layout.link_local_len) (Some (V6 (link_local_at p layout.ihu_len))) p else contents.Ignored reasons.UnknownEncoding)) (λ _. good_ihu_of 10 (Some (V4 (ipv4_at p 6))) p (λ there. v4 _ (ipv4_is p 6 small there)))
    (λ _. by_if IsGood (nat_eq (octet p layout.ihu_ae) layout.ae_ipv6) _ (if nat_eq (octet p layout.ihu_ae) layout.ae_link_local then ihu_of (layout.ihu_len + layout.link_local_len) (Some (V6 (link_local_at p layout.ihu_len))) p else contents.Ignored reasons.UnknownEncoding) (λ _. good_ihu_of 22 (Some (V6 (ipv6_at p 6))) p (λ there. v6 _ (ipv6_is p 6 small there)))
    (λ _. by_if IsGood (nat_eq (octet p layout.ihu_ae) layout.ae_link_local) _ (contents.Ignored reasons.UnknownEncoding) (λ _. good_ihu_of 14 (Some (V6 (link_local_at p 6))) p (λ there. v6 _ (link_local_is p 6 small there))) (λ _. no_message reasons.UnknownEncoding)))))

-- ---- families

-- what a family of addresses is known by
record IsFamily (size : ℕ) (family : List ℕ → Addr) : Type 0 where
  addr : (o : List ℕ) → Octets size o → IsAddr (family o)
  prefix : (o : List ℕ) (bits : ℕ) → Cleared size bits o → bits ≤ 8 * size → IsPrefix (record { addr = family o; length = bits })
  kin : (hop o : List ℕ) → are_kin (family hop) (family o) ≡ true

ipv4 : IsFamily 4 V4
ipv4 = record {
  addr = v4;
  prefix = λ o bits is short. record { addr = v4 o is.octets; short = short; clear = ap V4 is.clear };
  kin = λ hop o. refl;
}

ipv6 : IsFamily 16 V6
ipv6 = record {
  addr = v6;
  prefix = λ o bits is short. record { addr = v6 o is.octets; short = short; clear = ap V6 is.clear };
  kin = λ hop o. refl;
}

-- ---- requests

short_of : (size omitted bits at : ℕ) (p : List ℕ) → is_whole size omitted bits at p ≡ true → bits ≤ 8 * size
unfolding is_whole
short_of size omitted bits at p whole = leb-true _ _ (and_parts _ _ whole).0

asked_is : (size : ℕ) (family : List ℕ → Addr) (plen at : ℕ) (p : List ℕ) → IsFamily size family → AreOctets p → octet p plen ≤ 8 * size →
    IsPrefix (asked size family plen at p)
asked_is size family plen at p is small short =
    is.prefix _ (octet p plen) (prefix_is size (replicate size 0) 0 (octet p plen) at p (replicate_octets size) small) short

good_route_request_in : (size : ℕ) (family : List ℕ → Addr) (p : List ℕ) → IsFamily size family → AreOctets p → IsGood (route_request_in size family p)
good_route_request_in size family p is small =
    by_if IsGood _ _ _ (λ whole. good_tail _ _ (simple _ (asked_is size family 1 2 p is small (short_of size 0 (octet p 1) 2 p whole)) refl)) (λ _. no_message _)

good_route_request : (p : List ℕ) → AreOctets p → IsGood (route_request p)
unfolding route_request
good_route_request p small =
    by_if IsGood (nat_lt (length p) layout.route_request_len) (contents.Ignored reasons.Unreadable) _ (λ _. no_message reasons.Unreadable) (λ _. by_if IsGood (nat_eq (octet p layout.route_request_ae) layout.ae_wildcard) (after_tail (drop layout.route_request_len p) (dump_request p)) _ (λ _. good_tail (drop layout.route_request_len p) _ (by_if IsGood (nat_eq (octet p layout.route_request_plen) 0) (contents.Message messages.DumpRequest) (contents.Ignored reasons.Wildcard) (λ _. simple messages.DumpRequest tt refl) (λ _. no_message reasons.Wildcard)))
    (λ _. by_if IsGood (nat_eq (octet p layout.route_request_ae) layout.ae_ipv4) _ _ (λ _. good_route_request_in 4 V4 p ipv4 small) (λ _. by_if IsGood (nat_eq (octet p layout.route_request_ae) layout.ae_ipv6) _ (contents.Ignored reasons.UnknownEncoding) (λ _. good_route_request_in 16 V6 p ipv6 small)
    (λ _. no_message reasons.UnknownEncoding))))

good_seqno_request_for : (prefix : PrefixValue) (p : List ℕ) → IsPrefix prefix → AreOctets p → 14 ≤ length p → IsGood (seqno_request_for prefix p)
unfolding seqno_request_for
good_seqno_request_for prefix p is small there =
    let message = messages.SeqnoRequest prefix (requested_router p) (word p layout.seqno_request_seqno) (octet p layout.seqno_request_hops) in
    by_if IsGood (is_reserved (requested_router p)) (contents.Ignored reasons.NoRouterId)
    (if nat_eq (octet p layout.seqno_request_hops) 0 then contents.Ignored reasons.NoHops else contents.Message message) (λ _. no_message reasons.NoRouterId)
    (λ named. by_if IsGood (nat_eq (octet p layout.seqno_request_hops) 0) (contents.Ignored reasons.NoHops) (contents.Message message)
    (λ _. no_message reasons.NoHops) (λ hops.
    simple message (is, record { size = (slice_is p 6 14 8 small there refl).long; named = named }) (positive (octet p layout.seqno_request_hops) hops)))

good_seqno_request_in : (size : ℕ) (family : List ℕ → Addr) (p : List ℕ) → IsFamily size family → AreOctets p → 14 ≤ length p →
    IsGood (seqno_request_in size family p)
good_seqno_request_in size family p is small there =
    by_if IsGood _ _ _ (λ whole. good_tail _ _
    (good_seqno_request_for _ p (asked_is size family 1 14 p is small (short_of size 0 (octet p 1) 14 p whole)) small there)) (λ _. no_message _)

good_seqno_request : (p : List ℕ) → AreOctets p → IsGood (seqno_request p)
unfolding seqno_request
good_seqno_request p small =
    by_if IsGood (nat_lt (length p) layout.seqno_request_len) (contents.Ignored reasons.Unreadable) _ (λ _. no_message reasons.Unreadable) (λ long.
    let there : 14 ≤ length p = ltb-false (length p) 14 long in
    by_if IsGood (nat_eq (octet p layout.seqno_request_ae) layout.ae_wildcard) (after_tail (drop layout.seqno_request_len p) (contents.Ignored reasons.Wildcard)) _
    (λ _. good_tail (drop layout.seqno_request_len p) (contents.Ignored reasons.Wildcard) (no_message reasons.Wildcard))
    (λ _. by_if IsGood (nat_eq (octet p layout.seqno_request_ae) layout.ae_ipv4) (seqno_request_in 4 V4 p) _ (λ _. good_seqno_request_in 4 V4 p ipv4 small there)
    (λ _. by_if IsGood (nat_eq (octet p layout.seqno_request_ae) layout.ae_ipv6) (seqno_request_in 16 V6 p) (contents.Ignored reasons.UnknownEncoding)
    (λ _. good_seqno_request_in 16 V6 p ipv6 small there) (λ _. no_message reasons.UnknownEncoding))))

-- ---- the parser state

-- as many octets, if there are any
abbrev IfOctets : ℕ → Option (List ℕ) → Type 0
IfOctets size None = Unit {0}
IfOctets size (Some o) = Octets size o

record IsState (d : ParserState) : Type 0 where
  default4 : IfOctets 4 d.default4
  default6 : IfOctets 16 d.default6
  router : IfOctets 8 d.router
  hop4 : IfOctets 4 d.hop4
  hop6 : IfOctets 16 d.hop6

or_is : (size : ℕ) (a b : Option (List ℕ)) → IfOctets size a → IfOctets size b → IfOctets size (option_or a b)
or_is size None b first second = second
or_is size (Some o) b first second = first

-- the octets of an Update's prefix are clear past its length, if they are known
abbrev IfCleared : ℕ → ℕ → Option (List ℕ) → Type 0
IfCleared size bits None = Unit {0}
IfCleared size bits (Some o) = Cleared size bits o

forget : (size bits : ℕ) (o : Option (List ℕ)) → IfCleared size bits o → IfOctets size o
forget size bits None is = tt
forget size bits (Some o) is = is.octets

from_base : (size : ℕ) (base : Option (List ℕ)) (p : List ℕ) → IfOctets size base → AreOctets p →
    IfCleared size (octet p 2) (option_map (λ base. prefix_octets size base (octet p 3) (octet p 2) 10 p) base)
from_base size None p is small = tt
from_base size (Some base) p is small = prefix_is size base (octet p 3) (octet p 2) 10 p is.small small

zeros_are : (size : ℕ) → Octets size (replicate size 0)
zeros_are size = record { long = length-replicate size 0; small = replicate_octets size }

address_is : (size : ℕ) (default : Option (List ℕ)) (p : List ℕ) → IfOctets size default → AreOctets p → IfCleared size (octet p 2) (address size default p)
unfolding address
address_is size default p is small =
    from_base size (base_of size default p) p (by_if (IfOctets size) (nat_eq (octet p layout.update_omitted) 0) (Some (replicate size 0)) _ (λ _. zeros_are size) (λ _. is)) small

update_address_is : (ae size : ℕ) (default : Option (List ℕ)) (kind : ℕ) (p : List ℕ) → IfOctets size default → AreOctets p →
    IfOctets size (update_address ae size default kind p)
unfolding update_address
update_address_is ae size default kind p is small =
    by_if (IfOctets size) (nat_eq kind layout.update && (nat_le layout.update_len (length p) && (nat_eq (octet p layout.update_ae) ae && is_readable size p)))
    (address size default p) None (λ _. forget size (octet p 2) (address size default p) (address_is size default p is small)) (λ _. tt)

flagged_is : (size flag : ℕ) (p : List ℕ) (o : Option (List ℕ)) → IfOctets size o → IfOctets size (flagged flag p o)
flagged_is size flag p None is = tt
flagged_is size flag p (Some o) is = by_if (IfOctets size) (has_flag (octet p layout.update_flags) flag) (Some o) None (λ _. is) (λ _. tt)

mapped_is : (size other : ℕ) (f : List ℕ → List ℕ) (o : Option (List ℕ)) → ((o : List ℕ) → Octets size o → Octets other (f o)) → IfOctets size o →
    IfOctets other (option_map f o)
mapped_is size other f None each is = tt
mapped_is size other f (Some o) each is = each o is

router_of_ipv4_is : (o : List ℕ) → Octets 4 o → Octets 8 (router_of_ipv4 o)
router_of_ipv4_is o is = record { long = length-append (replicate 4 0) o ∙ omega (arith, (zeros_are 4).long, is.long); small = append_octets (replicate 4 0) o (replicate_octets 4) is.small }

router_of_ipv6_is : (o : List ℕ) → Octets 16 o → Octets 8 (router_of_ipv6 o)
router_of_ipv6_is o is = let long = is.long in slice_is o 8 16 8 is.small (omega arith) refl

named_router_is : (kind : ℕ) (p : List ℕ) → AreOctets p → IfOctets 8 (named_router kind p)
unfolding named_router
named_router_is kind p small =
    by_if (IfOctets 8) (nat_eq kind layout.router_id && nat_le layout.router_id_tlv_len (length p)) (Some (slice_range p layout.router_id_value layout.router_id_tlv_len)) None (λ is. slice_is p 2 10 8 small (leb-true _ _ (and_parts (nat_eq kind layout.router_id) _ is).1) refl) (λ _. tt)

named_hop4_is : (kind : ℕ) (p : List ℕ) → AreOctets p → IfOctets 4 (named_hop4 kind p)
unfolding named_hop4
named_hop4_is kind p small =
    by_if (IfOctets 4) (nat_eq kind layout.next_hop && (nat_eq (octet p layout.next_hop_ae) layout.ae_ipv4 && nat_le (layout.next_hop_len + layout.ipv4_len) (length p))) (Some (ipv4_at p layout.next_hop_len)) None (λ is. ipv4_is p 2 small (leb-true _ _ (and_parts (nat_eq (octet p layout.next_hop_ae) layout.ae_ipv4) _ (and_parts (nat_eq kind layout.next_hop) _ is).1).1)) (λ _. tt)

named_hop6_is : (kind : ℕ) (p : List ℕ) → AreOctets p → IfOctets 16 (named_hop6 kind p)
unfolding named_hop6
named_hop6_is kind p small =
    by_if (IfOctets 16) (nat_eq kind layout.next_hop && (nat_eq (octet p layout.next_hop_ae) layout.ae_ipv6 && nat_le (layout.next_hop_len + layout.ipv6_len) (length p))) (Some (ipv6_at p layout.next_hop_len)) _ (λ is. ipv6_is p 2 small (leb-true _ _ (and_parts (nat_eq (octet p layout.next_hop_ae) layout.ae_ipv6) _ (and_parts (nat_eq kind layout.next_hop) _ is).1).1))
    (λ _. by_if (IfOctets 16) (nat_eq kind layout.next_hop && (nat_eq (octet p layout.next_hop_ae) layout.ae_link_local && nat_le (layout.next_hop_len + layout.link_local_len) (length p))) (Some (link_local_at p layout.next_hop_len)) None (λ is. link_local_is p 2 small (leb-true _ _ (and_parts (nat_eq (octet p layout.next_hop_ae) layout.ae_link_local) _ (and_parts (nat_eq kind layout.next_hop) _ is).1).1)) (λ _. tt))

own_router_is : (default4 default6 : Option (List ℕ)) (kind : ℕ) (p : List ℕ) → IfOctets 4 default4 → IfOctets 16 default6 → AreOctets p →
    IfOctets 8 (own_router default4 default6 kind p)
own_router_is default4 default6 kind p four six small =
    let a4 = update_address 1 4 default4 kind p in let a6 = update_address 2 16 default6 kind p in
    or_is 8 (named_router kind p) _ (named_router_is kind p small) (
    or_is 8 (option_map router_of_ipv4 (flagged 0x40 p a4)) (option_map router_of_ipv6 (flagged 0x40 p a6))
    (mapped_is 4 8 router_of_ipv4 (flagged 0x40 p a4) router_of_ipv4_is (flagged_is 4 0x40 p a4 (update_address_is 1 4 default4 kind p four small)))
    (mapped_is 16 8 router_of_ipv6 (flagged 0x40 p a6) router_of_ipv6_is (flagged_is 16 0x40 p a6 (update_address_is 2 16 default6 kind p six small))))

-- each payload has octets
abbrev HasOctets : Place → Type 0
HasOctets t = AreOctets t.payload

default_is : (ae size : ℕ) (ts : List Place) → AllByRecursion HasOctets ts → IfOctets size (default_before ae size ts)
default_is ae size [] all = tt
default_is ae size (t ∷ ts) all =
    let d = default_before ae size ts in let rest = default_is ae size ts all.1 in
    or_is size (own_default ae size d t.kind t.payload) d
    (flagged_is size 0x80 t.payload (update_address ae size d t.kind t.payload) (update_address_is ae size d t.kind t.payload rest all.0)) rest

router_is : (ts : List Place) → AllByRecursion HasOctets ts → IfOctets 8 (router_before ts)
router_is [] all = tt
router_is (t ∷ ts) all =
    or_is 8 (own_router (default_before 1 4 ts) (default_before 2 16 ts) t.kind t.payload) (router_before ts)
    (own_router_is _ _ t.kind t.payload (default_is 1 4 ts all.1) (default_is 2 16 ts all.1) all.0) (router_is ts all.1)

hop4_is : (source : Addr) (ts : List Place) → IsAddr source → AllByRecursion HasOctets ts → IfOctets 4 (hop4_before source ts)
hop4_is (V4 o) [] is all = record { long = is.0; small = is.1 }
hop4_is (V6 o) [] is all = tt
hop4_is source (t ∷ ts) is all =
    or_is 4 (named_hop4 t.kind t.payload) (hop4_before source ts) (named_hop4_is t.kind t.payload all.0) (hop4_is source ts is all.1)

hop6_is : (source : Addr) (ts : List Place) → IsAddr source → AllByRecursion HasOctets ts → IfOctets 16 (hop6_before source ts)
hop6_is (V4 o) [] is all = tt
hop6_is (V6 o) [] is all = record { long = is.0; small = is.1 }
hop6_is source (t ∷ ts) is all =
    or_is 16 (named_hop6 t.kind t.payload) (hop6_before source ts) (named_hop6_is t.kind t.payload all.0) (hop6_is source ts is all.1)

state_is : (source : Addr) (ts : List Place) → IsAddr source → AllByRecursion HasOctets ts → IsState (before source ts)
state_is source ts is all = record {
  default4 = default_is 1 4 ts all;
  default6 = default_is 2 16 ts all;
  router = router_is ts all;
  hop4 = hop4_is source ts is all;
  hop6 = hop6_is source ts is all;
}

-- ---- Update

finite : (p : List ℕ) → AreOctets p → nat_eq (word p 8) 65535 ≡ false → nat_lt (word p 8) 65535 ≡ true
finite p small other = lt-ltb _ _ (let h = eqb-false (word p 8) 65535 other in omega (arith, word_small p 8 small))

good_from_hop : (size : ℕ) (family : List ℕ → Addr) (o : List ℕ) (router : List ℕ) (hop : Option (List ℕ)) (p : List ℕ) → IsFamily size family →
    IsPrefix (record { addr = family o; length = octet p 2 }) → IsRouterId router → IfOctets size hop → nat_lt (word p 8) 65535 ≡ true →
    IsGood (from_hop (record { addr = family o; length = octet p 2 }) router (option_map family hop) p)
good_from_hop size family o router None p is prefix named hop metric = no_message _
good_from_hop size family o router (Some h) p is prefix named hop metric =
    let message = messages.Update (record { addr = family o; length = octet p 2 }) router (family h) (word p 6) (word p 8) (word p 4) in
    by_if IsGood (nat_eq (word p 4) 0) (contents.Ignored reasons.ZeroInterval) (contents.Message message) (λ _. no_message reasons.ZeroInterval) (λ interval.
    simple message (prefix, named, is.addr h hop) (and_from _ _ metric (and_from _ _ (positive (word p 4) interval) (is.kin h o))))

good_from_router : (size : ℕ) (family : List ℕ → Addr) (o : List ℕ) (router : List ℕ) (hop : Option (List ℕ)) (p : List ℕ) (reserved : Bool) →
    is_reserved router ≡ reserved → IsFamily size family → IsPrefix (record { addr = family o; length = octet p 2 }) → Octets 8 router →
    IfOctets size hop → nat_lt (word p 8) 65535 ≡ true →
    IsGood (from_router (record { addr = family o; length = octet p 2 }) (router_id_of router) (option_map family hop) p)
good_from_router size family o router hop p true named is prefix octets hops metric = rw named (no_message _)
good_from_router size family o router hop p false named is prefix octets hops metric =
    rw named (good_from_hop size family o router hop p is prefix (record { size = octets.long; named = named }) hops metric)

good_finite : (size : ℕ) (family : List ℕ → Addr) (o : List ℕ) (router hop : Option (List ℕ)) (p : List ℕ) → IsFamily size family →
    IsPrefix (record { addr = family o; length = octet p 2 }) → IfOctets 8 router → IfOctets size hop → nat_lt (word p 8) 65535 ≡ true →
    IsGood (from_router (record { addr = family o; length = octet p 2 }) (option_and_then router_id_of router) (option_map family hop) p)
good_finite size family o None hop p is prefix octets hops metric = no_message _
good_finite size family o (Some router) hop p is prefix octets hops metric =
    good_from_router size family o router hop p (is_reserved router) refl is prefix octets hops metric

good_prefixed : (size : ℕ) (family : List ℕ → Addr) (o router hop : Option (List ℕ)) (p : List ℕ) → IsFamily size family → IfCleared size (octet p 2) o →
    octet p 2 ≤ 8 * size → IfOctets 8 router → IfOctets size hop → AreOctets p → IsGood (prefixed family o router (option_map family hop) p)
unfolding update_of
good_prefixed size family None router hop p is prefix short octets hops small = no_message _
good_prefixed size family (Some o) router hop p is prefix short octets hops small =
    let whole = is.prefix o (octet p 2) prefix short in
    let retraction = messages.Retraction (record { addr = family o; length = octet p 2 }) (word p 4) in
    by_if IsGood (nat_eq (word p 8) 65535) (contents.Message retraction) _ (λ _. simple retraction whole refl)
    (λ other. good_finite size family o router hop p is whole octets hops (finite p small other))

good_update_in : (size : ℕ) (family : List ℕ → Addr) (o router hop : Option (List ℕ)) (p : List ℕ) → IsFamily size family → IfCleared size (octet p 2) o →
    IfOctets 8 router → IfOctets size hop → AreOctets p → IsGood (update_in size family o router hop p)
good_update_in size family o router hop p is prefix octets hops small =
    by_if IsGood _ _ _ (λ whole. good_tail _ _
    (good_prefixed size family o router hop p is prefix (short_of size (octet p 3) (octet p 2) 10 p whole) octets hops small)) (λ _. no_message _)

good_wildcard : (p : List ℕ) → IsGood (wildcard p)
good_wildcard p =
    by_if IsGood (nat_eq (word p 8) 65535 && (nat_eq (octet p 2) 0 && nat_eq (octet p 3) 0)) (contents.Message (messages.RetractAll (word p 4)))
    (contents.Ignored reasons.Wildcard) (λ _. simple (messages.RetractAll (word p 4)) tt refl) (λ _. no_message reasons.Wildcard)

good_update : (d : ParserState) (p : List ℕ) → IsState d → AreOctets p → IsGood (update d p)
unfolding update
good_update d p is small =
    let router : IfOctets 8 (update_router d p) =
    or_is 8 (own_router d.default4 d.default6 8 p) d.router (own_router_is d.default4 d.default6 8 p is.default4 is.default6 small) is.router in
    by_if IsGood (nat_lt (length p) layout.update_len) (contents.Ignored reasons.Unreadable) _ (λ _. no_message reasons.Unreadable)
    (λ _. by_if IsGood (nat_eq (octet p layout.update_ae) layout.ae_wildcard) (after_tail (drop layout.update_len p) (wildcard p)) _
    (λ _. good_tail (drop layout.update_len p) (wildcard p) (good_wildcard p))
    (λ _. by_if IsGood (nat_eq (octet p layout.update_ae) layout.ae_ipv4) (update4 d p) _
    (λ _. good_update_in 4 V4 (address 4 d.default4 p) (update_router d p) d.hop4 p ipv4 (address_is 4 d.default4 p is.default4 small) router is.hop4 small)
    (λ _. by_if IsGood (nat_eq (octet p layout.update_ae) layout.ae_ipv6) (update6 d p) (contents.Ignored reasons.UnknownEncoding)
    (λ _. good_update_in 16 V6 (address 16 d.default6 p) (update_router d p) d.hop6 p ipv6 (address_is 16 d.default6 p is.default6 small) router is.hop6 small)
    (λ _. no_message reasons.UnknownEncoding))))

-- ---- a TLV, a body, a datagram

good_content : (d : ParserState) (kind : ℕ) (p : List ℕ) → IsState d → AreOctets p → IsGood (content d kind p)
unfolding content
good_content d kind p is small =
    by_if IsGood (nat_le kind layout.pad_n) (contents.Ignored reasons.Padding) _ (λ _. no_message reasons.Padding)
    (λ _. by_if IsGood (nat_eq kind layout.ack_request) (ack_request p) _ (λ _. good_ack_request p)
    (λ _. by_if IsGood (nat_eq kind layout.ack) (ack p) _ (λ _. good_ack p)
    (λ _. by_if IsGood (nat_eq kind layout.hello) (hello p) _ (λ _. good_hello p)
    (λ _. by_if IsGood (nat_eq kind layout.ihu) (ihu p) _ (λ _. good_ihu p small)
    (λ _. by_if IsGood (nat_eq kind layout.router_id) (router_id p) _ (λ _. good_router_id p)
    (λ _. by_if IsGood (nat_eq kind layout.next_hop) (next_hop p) _ (λ _. good_next_hop p)
    (λ _. by_if IsGood (nat_eq kind layout.update) (update d p) _ (λ _. good_update d p is small)
    (λ _. by_if IsGood (nat_eq kind layout.route_request) (route_request p) _ (λ _. good_route_request p small)
    (λ _. by_if IsGood (nat_eq kind layout.seqno_request) (seqno_request p) (contents.Ignored reasons.UnknownType) (λ _. good_seqno_request p small)
    (λ _. no_message reasons.UnknownType))))))))))

one_more : (c : Content) (ms : List Message) → IsGood c → AllByRecursion IsSendable ms → AllByRecursion IsSendable (content_messages c ms)
one_more (contents.Message message) ms good all = (good.holds, all)
one_more contents.State ms good all = all
one_more (contents.Ignored reason) ms good all = all

placed_are : (source : Addr) (earlier ts : List Place) → IsAddr source → AllByRecursion HasOctets earlier → AllByRecursion HasOctets ts →
    AllByRecursion IsSendable (messages_of (placed_from source earlier ts))
placed_are source earlier [] is before_them all = tt
placed_are source earlier (t ∷ ts) is before_them all =
    one_more (content (before source earlier) t.kind t.payload) (messages_of (placed_from source (t ∷ earlier) ts))
    (good_content (before source earlier) t.kind t.payload (state_is source earlier is before_them) all.0)
    (placed_are source (t ∷ earlier) ts is (all.0, before_them) all.1)

-- the payloads of places have octets
places_have : (skip o : ℕ) (bs : List ℕ) → AreOctets bs → AllByRecursion HasOctets (places_at skip o bs)
places_have skip o [] small = tt
places_have (suc skip) o (b ∷ bs) small = places_have skip (o + 1) bs (λ k. small (suc k))
places_have zero o (zero ∷ bs) small = ((λ k. omega arith), places_have zero (o + 1) bs (λ k. small (suc k)))
places_have zero o (suc k ∷ []) small = tt
places_have zero o (suc k ∷ len ∷ bs) small =
    by_if (AllByRecursion HasOctets) (nat_lt (length bs) len) [] (record { offset = o; kind = suc k; payload = take len bs } ∷ places_at len (o + 2) bs) (λ _. tt)
    (λ _. (take_octets len bs (λ j. small (suc (suc j))), places_have len (o + 2) bs (λ j. small (suc (suc j)))))

not_refused : (refusal : Option Refusal) (read : Result (List Placed) Refusal) (placed : List Placed) → unless_refused refusal read ≡ Ok placed → read ≡ Ok placed
not_refused None read placed means = means
not_refused (Some refusal) read placed means = cc

of_body : (source : Addr) (fault : Option ℕ) (ts : List Place) (placed : List Placed) → body_meaning source fault ts ≡ Ok placed →
    placed_from source [] ts ≡ placed
of_body source None ts placed means = cc
of_body source (Some offset) ts placed means = cc

pub decoded_are_sendable : (bytes : List ℕ) (source : Addr) (placed : List Placed) → AreOctets bytes → IsAddr source → meaning bytes source ≡ Ok placed →
    AllByRecursion IsSendable (messages_of placed)
unfolding meaning
decoded_are_sendable bytes source placed small is means =
    let body = body_of bytes in
    let read = of_body source (fault_of body) (places_of body) placed (not_refused (header_refusal bytes) _ placed means) in
    rw (← read) (placed_are source [] (places_of body) is tt (places_have 0 0 body (slice_octets bytes 4 (4 + word bytes 2) small)))
