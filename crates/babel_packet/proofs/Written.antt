-- What is written as a message is read as that message.
use Rattle.std.proofs.Common.{◌≡◌, ◌≢◌, ℕ, ◌+◌, ◌-◌, Bool, true, false, ◌&&◌, List, [], ◌∷◌, ◌++◌, length, take, drop, replicate, Option, Some, None, nat_lt, nat_eq, refl, ap, sym, ◌∙◌, arith, length-append, length-drop, option_map, nat_le}
use Rattle.std.proofs.lemmas.List.{take_at, take_all, drop_all, take-append-drop}
use Rattle.std.proofs.lemmas.Slice.Eq.{bytes_eq-Decides}
use Rattle.std.proofs.lemmas.Bool.{le-ltb, le-leb, ne_eqb, ltb-true, and_parts}
use Rattle.babel_value.specs.declared.addresses.Addr.{Addr}
use Rattle.babel_value.specs.declared.addresses.Addr.TheVariants.{V4, V6}
use Rattle.babel_value.specs.Prefixes.{PrefixValue}
use Rattle.babel_message.specs.declared.messages.Message.{Message}
use Rattle.babel_message.specs.declared.messages.Message.TheVariants as messages
use Rattle.babel_message.specs.declared.placements.Content.TheVariants as contents
use Rattle.babel_packet.specs.Numbers.{word, has_flag, octet}
use Rattle.babel_packet.specs.Prefixes.{octets_of, prefix_octets, is_whole}
use Rattle.babel_packet.specs.Tails.{tail_reason}
use Rattle.babel_packet.specs.Acks.{ack_request, ack}
use Rattle.babel_packet.specs.Hellos.{hello}
use Rattle.babel_packet.specs.Contents.{means}
use Rattle.babel_packet.specs.declared.parser_state.ParserState.{ParserState}
use Rattle.babel_packet.specs.LookBack.{before, flagged, update_address}
use Rattle.babel_packet.specs.RouterIds.{router_id, named_router}
use Rattle.babel_packet.specs.Addresses.{link_local_at}
use Rattle.babel_packet.specs.Ihus.{ihu, ihu_of}
use Rattle.babel_packet.specs.NextHops.{next_hop, next_hop_of, named_hop4, named_hop6}
use Rattle.babel_tlv.specs.Place.{Place}
use Rattle.babel_packet.specs.UpdateFields.{address}
use Rattle.babel_packet.specs.Requests.{route_request, route_request_in, seqno_request, seqno_request_in, seqno_request_for}
use Rattle.babel_packet.specs.Updates.{update, update_in, update_of, update_router}
use Rattle.babel_packet.specs.Meaning.{content}
use Rattle.babel_packet.specs.Payloads.{two, octets, is_link_local, router_id_payload, next_hop_payload, prefix_encoding, prefix_written, update_payload, kind_of, payload_of}
use Rattle.babel_packet.specs.Encodable.{are_kin, is_encodable, IsAddr, IsReceiver, IsPrefix, IsRouterId, IsMessage}
use Rattle.babel_packet.specs.BodyMeanings.{Provides, hop_for}
use Rattle.babel_packet.proofs.Layouts.{following, two_again, prefix_again, whole_again, none_following}
use Rattle.babel_packet.proofs.Compressing.{IsClear}

pub ack_request_again : (d : ParserState) (opaque interval : ℕ) →
    content d 2 (payload_of (messages.AckRequest opaque interval)) ≡ means (messages.AckRequest opaque interval)
unfolding content ack_request word tail_reason
ack_request_again d opaque interval = rw (two_again opaque, two_again interval) refl

pub ack_again : (d : ParserState) (opaque : ℕ) → content d 3 (payload_of (messages.Ack opaque)) ≡ means (messages.Ack opaque)
unfolding content ack word tail_reason
ack_again d opaque = rw (two_again opaque) refl

pub hello_again : (d : ParserState) (unicast : Bool) (seqno interval : ℕ) →
    content d 4 (payload_of (messages.Hello unicast seqno interval)) ≡ means (messages.Hello unicast seqno interval)
unfolding content hello word has_flag tail_reason
hello_again d true seqno interval = rw (two_again seqno, two_again interval) refl
hello_again d false seqno interval = rw (two_again seqno, two_again interval) refl

pub retract_all_again : (d : ParserState) (interval : ℕ) →
    content d 8 (payload_of (messages.RetractAll interval)) ≡ means (messages.RetractAll interval)
unfolding content update word tail_reason
retract_all_again d interval = rw (two_again interval) refl

pub dump_request_again : (d : ParserState) → content d 9 (payload_of messages.DumpRequest) ≡ means messages.DumpRequest
unfolding content route_request tail_reason
dump_request_again d = refl

pub not_zero : (n : ℕ) → nat_lt 0 n ≡ true → nat_eq n 0 ≡ false
not_zero n some = ne_eqb n 0 (λ e. absurd (omega (arith, ltb-true 0 n some, e)))

-- the next hop of the parser state for the family of a prefix, as an address
abbrev pub hop_of_family : Addr → ParserState → Option Addr
hop_of_family (V4 o) d = option_map V4 d.hop4
hop_of_family (V6 o) d = option_map V6 d.hop6

pub is_clear4 : (bits : ℕ) (o : List ℕ) → IsPrefix (record { addr = V4 o; length = bits }) → IsClear 4 bits o
is_clear4 bits o is =
    let clear = is.clear in record { long = is.addr.0; small = is.addr.1; short = is.short; clear = cc }

pub is_clear6 : (bits : ℕ) (o : List ℕ) → IsPrefix (record { addr = V6 o; length = bits }) → IsClear 16 bits o
is_clear6 bits o is =
    let clear = is.clear in record { long = is.addr.0; small = is.addr.1; short = is.short; clear = cc }

-- a prefix after the fields in front of it: it is whole, it is read again, and nothing is left over
record Reads (size bits place : ℕ) (front o : List ℕ) : Type 0 where
  whole : is_whole size 0 bits place (following front bits o) ≡ true
  again : prefix_octets size (replicate size 0) 0 bits place (following front bits o) ≡ o
  none : drop (place + octets_of bits) (following front bits o) ≡ []

reads : (size bits place : ℕ) (front o : List ℕ) → length front ≡ place → IsClear size bits o → Reads size bits place front o
reads size bits place front o here is = record {
  whole = whole_again size bits place front o here is.long is.short;
  again = prefix_again size bits place front o here is.long is.small is.clear;
  none = none_following size bits place front o here is.long is.short (place + octets_of bits) refl;
}

route_request_in_again : (size : ℕ) (family : List ℕ → Addr) (ae bits : ℕ) (o : List ℕ) → IsClear size bits o →
    route_request_in size family (ae ∷ bits ∷ take (octets_of bits) o) ≡ means (messages.RouteRequest (record { addr = family o; length = bits }))
unfolding tail_reason
route_request_in_again size family ae bits o is =
    let r = reads size bits 2 (ae ∷ bits ∷ []) o refl is in rw (r.whole, r.again, r.none) refl

route_request_of : (d : ParserState) (addr : Addr) (bits : ℕ) → IsPrefix (record { addr = addr; length = bits }) →
    content d 9 (payload_of (messages.RouteRequest (record { addr = addr; length = bits }))) ≡
    means (messages.RouteRequest (record { addr = addr; length = bits }))
unfolding content route_request
route_request_of d (V4 o) bits is =
    let long : nat_lt (length (1 ∷ bits ∷ take (octets_of bits) o)) 2 ≡ false = le-ltb _ _ (omega arith) in
    rw long (route_request_in_again 4 V4 1 bits o (is_clear4 bits o is))
route_request_of d (V6 o) bits is =
    let long : nat_lt (length (2 ∷ bits ∷ take (octets_of bits) o)) 2 ≡ false = le-ltb _ _ (omega arith) in
    rw long (route_request_in_again 16 V6 2 bits o (is_clear6 bits o is))

pub route_request_again : (d : ParserState) (prefix : PrefixValue) → IsPrefix prefix →
    content d 9 (payload_of (messages.RouteRequest prefix)) ≡ means (messages.RouteRequest prefix)
route_request_again d prefix is = route_request_of d prefix.addr prefix.length is

seqno_request_in_again : (size : ℕ) (family : List ℕ → Addr) (ae bits seqno hops : ℕ) (router o : List ℕ) → IsClear size bits o → IsRouterId router →
    nat_lt 0 hops ≡ true →
    seqno_request_in size family (ae ∷ bits ∷ (two seqno ++ (hops ∷ 0 ∷ (router ++ take (octets_of bits) o)))) ≡
    means (messages.SeqnoRequest (record { addr = family o; length = bits }) router seqno hops)
unfolding seqno_request_for word tail_reason
seqno_request_in_again size family ae bits seqno hops router o is named some =
    let r = reads size bits 14 (ae ∷ bits ∷ (two seqno ++ (hops ∷ 0 ∷ router))) o (omega (arith, named.size)) is in
    let id = take_at router (take (octets_of bits) o) 8 named.size in
    rw (r.whole, r.again, r.none, id, named.named, not_zero hops some, two_again seqno) refl

seqno_request_of : (d : ParserState) (addr : Addr) (bits seqno hops : ℕ) (router : List ℕ) → IsPrefix (record { addr = addr; length = bits }) →
    IsRouterId router → nat_lt 0 hops ≡ true →
    content d 10 (payload_of (messages.SeqnoRequest (record { addr = addr; length = bits }) router seqno hops)) ≡
    means (messages.SeqnoRequest (record { addr = addr; length = bits }) router seqno hops)
unfolding content seqno_request
seqno_request_of d (V4 o) bits seqno hops router is named some =
    let p = payload_of (messages.SeqnoRequest (record { addr = V4 o; length = bits }) router seqno hops) in
    let long : nat_lt (length p) 14 ≡ false = le-ltb _ _ (omega (arith, named.size, length-append router (take (octets_of bits) o))) in
    rw long (seqno_request_in_again 4 V4 1 bits seqno hops router o (is_clear4 bits o is) named some)
seqno_request_of d (V6 o) bits seqno hops router is named some =
    let p = payload_of (messages.SeqnoRequest (record { addr = V6 o; length = bits }) router seqno hops) in
    let long : nat_lt (length p) 14 ≡ false = le-ltb _ _ (omega (arith, named.size, length-append router (take (octets_of bits) o))) in
    rw long (seqno_request_in_again 16 V6 2 bits seqno hops router o (is_clear6 bits o is) named some)

pub seqno_request_again : (d : ParserState) (prefix : PrefixValue) (router : List ℕ) (seqno hops : ℕ) → IsPrefix prefix → IsRouterId router →
    nat_lt 0 hops ≡ true → content d 10 (payload_of (messages.SeqnoRequest prefix router seqno hops)) ≡ means (messages.SeqnoRequest prefix router seqno hops)
seqno_request_again d prefix router seqno hops is named some = seqno_request_of d prefix.addr prefix.length seqno hops router is named some

-- Without flags, an Update sets no router-id of its own.
unflagged : (flag : ℕ) (p : List ℕ) (octets : Option (List ℕ)) → has_flag (octet p 1) flag ≡ false → flagged flag p octets ≡ None
unflagged flag p None bare = refl
unflagged flag p (Some octets) bare = rw bare refl

router_is_set : (d : ParserState) (ae bits interval seqno metric : ℕ) (written : List ℕ) →
    update_router d (update_payload ae bits interval seqno metric written) ≡ d.router
unfolding named_router has_flag
router_is_set d ae bits interval seqno metric written =
    let p = update_payload ae bits interval seqno metric written in
    let four = unflagged 0x40 p (update_address 1 4 d.default4 8 p) refl in let six = unflagged 0x40 p (update_address 2 16 d.default6 8 p) refl in
    rw (four, six) refl

update_in_again : (size : ℕ) (family : List ℕ → Addr) (default router hop : Option (List ℕ)) (ae bits interval seqno metric : ℕ) (o : List ℕ) →
    IsClear size bits o →
    (let p = update_payload ae bits interval seqno metric (take (octets_of bits) o) in
    update_in size family (address size default p) router hop p ≡ update_of (record { addr = family o; length = bits }) router (option_map family hop) p)
unfolding address tail_reason
update_in_again size family default router hop ae bits interval seqno metric o is =
    let r = reads size bits 10 (update_payload ae bits interval seqno metric []) o refl is in
    let all : octets_of bits - 0 ≡ octets_of bits = omega arith in
    rw (r.whole, r.again, all, r.none) refl

-- the Update TLV of a prefix: its meaning follows from the parser state and its fields
update_of_addr : (d : ParserState) (addr : Addr) (bits interval seqno metric : ℕ) → IsPrefix (record { addr = addr; length = bits }) →
    (let p = update_payload (prefix_encoding addr) bits interval seqno metric (prefix_written (record { addr = addr; length = bits })) in
    content d 8 p ≡ update_of (record { addr = addr; length = bits }) d.router (hop_of_family addr d) p)
unfolding content update
update_of_addr d (V4 o) bits interval seqno metric is =
    let p = update_payload 1 bits interval seqno metric (take (octets_of bits) o) in
    let long : nat_lt (length p) 10 ≡ false = le-ltb _ _ (omega arith) in
    rw (long, router_is_set d 1 bits interval seqno metric (take (octets_of bits) o))
    (update_in_again 4 V4 d.default4 d.router d.hop4 1 bits interval seqno metric o (is_clear4 bits o is))
update_of_addr d (V6 o) bits interval seqno metric is =
    let p = update_payload 2 bits interval seqno metric (take (octets_of bits) o) in
    let long : nat_lt (length p) 10 ≡ false = le-ltb _ _ (omega arith) in
    rw (long, router_is_set d 2 bits interval seqno metric (take (octets_of bits) o))
    (update_in_again 16 V6 d.default6 d.router d.hop6 2 bits interval seqno metric o (is_clear6 bits o is))

pub retraction_again : (d : ParserState) (prefix : PrefixValue) (interval : ℕ) → IsPrefix prefix →
    content d 8 (payload_of (messages.Retraction prefix interval)) ≡ means (messages.Retraction prefix interval)
unfolding update_of word
retraction_again d prefix interval is =
    update_of_addr d prefix.addr prefix.length interval 0 65535 is ∙ rw (two_again interval) refl

-- the next hop of the family of an address, if the parser state has one
pub hop_is_set : (addr hop : Addr) (d : ParserState) → are_kin hop addr ≡ true → hop_for hop d ≡ Some (octets hop) → hop_of_family addr d ≡ Some hop
hop_is_set (V4 o) (V4 hop) d kin state_after = rw state_after refl
hop_is_set (V4 o) (V6 hop) d kin state_after = cc
hop_is_set (V6 o) (V4 hop) d kin state_after = cc
hop_is_set (V6 o) (V6 hop) d kin state_after = rw state_after refl

finite_again : (prefix : PrefixValue) (router : List ℕ) (hop : Addr) (ae bits interval seqno metric : ℕ) (written : List ℕ) → IsRouterId router →
    nat_eq metric 65535 ≡ false → nat_lt 0 interval ≡ true →
    update_of prefix (Some router) (Some hop) (update_payload ae bits interval seqno metric written) ≡
    means (messages.Update prefix router hop seqno metric interval)
unfolding update_of word
finite_again prefix router hop ae bits interval seqno metric written named finite some =
    rw (two_again metric, finite, named.named, two_again interval, not_zero interval some, two_again seqno, two_again metric) refl

pub update_again : (d : ParserState) (prefix : PrefixValue) (router : List ℕ) (hop : Addr) (seqno metric interval : ℕ) → IsPrefix prefix → IsRouterId router →
    is_encodable (messages.Update prefix router hop seqno metric interval) ≡ true → Provides d (messages.Update prefix router hop seqno metric interval) →
    content d 8 (payload_of (messages.Update prefix router hop seqno metric interval)) ≡ means (messages.Update prefix router hop seqno metric interval)
update_again d prefix router hop seqno metric interval is named encodable provides =
    let p = payload_of (messages.Update prefix router hop seqno metric interval) in
    let parts = and_parts (nat_lt metric 65535) (nat_lt 0 interval && are_kin hop prefix.addr) encodable in
    let more = and_parts (nat_lt 0 interval) (are_kin hop prefix.addr) parts.1 in
    let finite : nat_eq metric 65535 ≡ false = ne_eqb metric 65535 (λ e. absurd (omega (arith, ltb-true metric 65535 parts.0, e))) in
    update_of_addr d prefix.addr prefix.length interval seqno metric is ∙
    ap (λ r. update_of prefix r (hop_of_family prefix.addr d) p) provides.0 ∙
    ap (λ h. update_of prefix (Some router) h p) (hop_is_set prefix.addr hop d more.1 provides.1) ∙
    finite_again prefix router hop (prefix_encoding prefix.addr) prefix.length interval seqno metric (prefix_written prefix) named finite more.0

-- A Router-Id is state, and sets the router-id.
pub router_id_again : (d : ParserState) (router : List ℕ) → IsRouterId router → content d 6 (router_id_payload router) ≡ contents.State
unfolding content router_id tail_reason
router_id_again d router named =
    let long : nat_lt (length (0 ∷ 0 ∷ router)) 10 ≡ false = le-ltb _ _ (omega (arith, named.size)) in
    rw (long, drop_all 8 router (omega (arith, named.size))) refl

pub router_id_is_set : (source : Addr) (offset : ℕ) (router : List ℕ) (earlier : List Place) → IsRouterId router →
    (before source (record { offset = offset; kind = 6; payload = router_id_payload router } ∷ earlier)).router ≡ Some router
unfolding named_router
router_id_is_set source offset router earlier named =
    let long : nat_le 10 (length (0 ∷ 0 ∷ router)) ≡ true = le-leb _ _ (omega (arith, named.size)) in
    rw (long, take_all 8 router (omega (arith, named.size))) refl

-- An address that is written is read again.
pub link_local_again : (o : List ℕ) → length o ≡ 16 → is_link_local o ≡ true → link_local_at (drop 8 o) 0 ≡ o
link_local_again o long local =
    let start : take 8 o ≡ 0xfe ∷ 0x80 ∷ 0 ∷ 0 ∷ 0 ∷ 0 ∷ 0 ∷ 0 ∷ [] = (bytes_eq-Decides (take 8 o) (0xfe ∷ 0x80 ∷ 0 ∷ 0 ∷ 0 ∷ 0 ∷ 0 ∷ 0 ∷ [])).0 local in
    rw (take_all 8 (drop 8 o) (omega (arith, length-drop 8 o))) (ap (λ xs. xs ++ drop 8 o) (sym start) ∙ take-append-drop 8 o)

ihu_of_again : (size : ℕ) (to : Option Addr) (ae rxcost interval : ℕ) (e : List ℕ) → 6 + length e ≡ size → (nat_lt 0 rxcost && nat_lt 0 interval) ≡ true →
    ihu_of size to (ae ∷ 0 ∷ (two rxcost ++ (two interval ++ e))) ≡ means (messages.Ihu to rxcost interval)
unfolding ihu_of word tail_reason
ihu_of_again size to ae rxcost interval e long some =
    let p = ae ∷ 0 ∷ (two rxcost ++ (two interval ++ e)) in
    let parts = and_parts (nat_lt 0 rxcost) (nat_lt 0 interval) some in
    let fits : nat_lt (length p) size ≡ false = le-ltb _ _ (omega arith) in
    rw (fits, drop_all size p (omega arith), two_again rxcost, two_again interval, not_zero rxcost parts.0, not_zero interval parts.1) refl

-- the length of the fields before the address
ihu_long : (ae rxcost interval : ℕ) (e : List ℕ) → nat_lt (length (ae ∷ 0 ∷ (two rxcost ++ (two interval ++ e)))) 6 ≡ false
ihu_long ae rxcost interval e = le-ltb _ _ (omega arith)

ihu6_again : (o : List ℕ) (rxcost interval : ℕ) (local : Bool) → is_link_local o ≡ local → length o ≡ 16 → (nat_lt 0 rxcost && nat_lt 0 interval) ≡ true →
    ihu (payload_of (messages.Ihu (Some (V6 o)) rxcost interval)) ≡ means (messages.Ihu (Some (V6 o)) rxcost interval)
unfolding ihu
ihu6_again o rxcost interval true local long some =
    rw (local, ihu_long 3 rxcost interval (drop 8 o), link_local_again o long local)
    (ihu_of_again 14 (Some (V6 o)) 3 rxcost interval (drop 8 o) (omega (arith, length-drop 8 o)) some)
ihu6_again o rxcost interval false other long some =
    rw (other, ihu_long 2 rxcost interval o, take_all 16 o (omega arith)) (ihu_of_again 22 (Some (V6 o)) 2 rxcost interval o (omega arith) some)

pub ihu_again : (d : ParserState) (to : Option Addr) (rxcost interval : ℕ) → IsReceiver to → (nat_lt 0 rxcost && nat_lt 0 interval) ≡ true →
    content d 5 (payload_of (messages.Ihu to rxcost interval)) ≡ means (messages.Ihu to rxcost interval)
unfolding content ihu
ihu_again d None rxcost interval is some = ihu_of_again 6 None 0 rxcost interval [] refl some
ihu_again d (Some (V4 o)) rxcost interval is some =
    rw (ihu_long 1 rxcost interval o, take_all 4 o (omega (arith, is.0))) (ihu_of_again 10 (Some (V4 o)) 1 rxcost interval o (omega (arith, is.0)) some)
ihu_again d (Some (V6 o)) rxcost interval is some = ihu6_again o rxcost interval (is_link_local o) refl is.0 some

next_hop_of_again : (size ae : ℕ) (e : List ℕ) → 2 + length e ≡ size → next_hop_of size (ae ∷ 0 ∷ e) ≡ contents.State
unfolding next_hop_of tail_reason
next_hop_of_again size ae e long =
    let fits : nat_lt (length (ae ∷ 0 ∷ e)) size ≡ false = le-ltb _ _ (omega arith) in
    rw (fits, drop_all size (ae ∷ 0 ∷ e) (omega arith)) refl

next_hop_long : (ae : ℕ) (e : List ℕ) → nat_lt (length (ae ∷ 0 ∷ e)) 2 ≡ false
next_hop_long ae e = le-ltb _ _ (omega arith)

next_hop6_again : (o : List ℕ) (local : Bool) → is_link_local o ≡ local → length o ≡ 16 → next_hop (next_hop_payload (V6 o)) ≡ contents.State
unfolding next_hop
next_hop6_again o true local long = rw (local, next_hop_long 3 (drop 8 o)) (next_hop_of_again 10 3 (drop 8 o) (omega (arith, length-drop 8 o)))
next_hop6_again o false other long = rw (other, next_hop_long 2 o) (next_hop_of_again 18 2 o (omega arith))

-- A Next Hop is state, sets the next hop of its family, and keeps the router-id.
pub next_hop_again : (d : ParserState) (hop : Addr) → IsAddr hop → content d 7 (next_hop_payload hop) ≡ contents.State
unfolding content next_hop
next_hop_again d (V4 o) is = rw (next_hop_long 1 o) (next_hop_of_again 6 1 o (omega (arith, is.0)))
next_hop_again d (V6 o) is = next_hop6_again o (is_link_local o) refl is.0

named6_again : (o : List ℕ) (local : Bool) → is_link_local o ≡ local → length o ≡ 16 → named_hop6 7 (next_hop_payload (V6 o)) ≡ Some o
unfolding named_hop6
named6_again o true local long =
    let fits : nat_le 10 (length (3 ∷ 0 ∷ drop 8 o)) ≡ true = le-leb _ _ (omega (arith, length-drop 8 o)) in
    rw (local, fits, link_local_again o long local) refl
named6_again o false other long =
    let fits : nat_le 18 (length (2 ∷ 0 ∷ o)) ≡ true = le-leb _ _ (omega arith) in rw (other, fits, take_all 16 o (omega arith)) refl

pub next_hop_is_set : (source : Addr) (offset : ℕ) (hop : Addr) (earlier : List Place) → IsAddr hop →
    hop_for hop (before source (record { offset = offset; kind = 7; payload = next_hop_payload hop } ∷ earlier)) ≡ Some (octets hop)
unfolding named_hop4
next_hop_is_set source offset (V4 o) earlier is =
    let fits : nat_le 6 (length (1 ∷ 0 ∷ o)) ≡ true = le-leb _ _ (omega (arith, is.0)) in rw (fits, take_all 4 o (omega (arith, is.0))) refl
next_hop_is_set source offset (V6 o) earlier is = rw (named6_again o (is_link_local o) refl is.0) refl

pub next_hop_keeps : (source : Addr) (offset : ℕ) (payload : List ℕ) (earlier : List Place) →
    (before source (record { offset = offset; kind = 7; payload = payload } ∷ earlier)).router ≡ (before source earlier).router
unfolding named_router update_address
next_hop_keeps source offset payload earlier = refl

-- the message of each kind
pub message_again : (d : ParserState) (message : Message) → IsMessage message → is_encodable message ≡ true → Provides d message →
    content d (kind_of message) (payload_of message) ≡ contents.Message message
message_again d (messages.AckRequest opaque interval) is encodable provides = ack_request_again d opaque interval
message_again d (messages.Ack opaque) is encodable provides = ack_again d opaque
message_again d (messages.Hello unicast seqno interval) is encodable provides = hello_again d unicast seqno interval
message_again d (messages.Ihu to rxcost interval) is encodable provides = ihu_again d to rxcost interval is encodable
message_again d (messages.Update prefix router hop seqno metric interval) is encodable provides =
    update_again d prefix router hop seqno metric interval is.0 is.1 encodable provides
message_again d (messages.Retraction prefix interval) is encodable provides = retraction_again d prefix interval is
message_again d (messages.RetractAll interval) is encodable provides = retract_all_again d interval
message_again d (messages.RouteRequest prefix) is encodable provides = route_request_again d prefix is
message_again d messages.DumpRequest is encodable provides = dump_request_again d
message_again d (messages.SeqnoRequest prefix router seqno hops) is encodable provides = seqno_request_again d prefix router seqno hops is.0 is.1 encodable

-- A TLV is written.
pub kind_is : (message : Message) → kind_of message ≢ 0
kind_is (messages.AckRequest opaque interval) = λ e. absurd (omega arith)
kind_is (messages.Ack opaque) = λ e. absurd (omega arith)
kind_is (messages.Hello unicast seqno interval) = λ e. absurd (omega arith)
kind_is (messages.Ihu to rxcost interval) = λ e. absurd (omega arith)
kind_is (messages.Update prefix router hop seqno metric interval) = λ e. absurd (omega arith)
kind_is (messages.Retraction prefix interval) = λ e. absurd (omega arith)
kind_is (messages.RetractAll interval) = λ e. absurd (omega arith)
kind_is (messages.RouteRequest prefix) = λ e. absurd (omega arith)
kind_is messages.DumpRequest = λ e. absurd (omega arith)
kind_is (messages.SeqnoRequest prefix router seqno hops) = λ e. absurd (omega arith)
