-- What a reader has after each TLV, and what an Update in few octets means.
use Rattle.std.proofs.Common.{◌≡◌, ℕ, Bool, true, false, ◌&&◌, List, ◌∷◌, length, drop, get_or, Option, Some, None, nat_lt, nat_eq, nat_le, refl, ap, ◌∙◌, arith, length-drop, option_map}
use Rattle.std.proofs.lemmas.List.{take_all}
use Rattle.std.proofs.lemmas.Bool.{le-ltb, le-leb, ne_eqb, ltb-true, and_parts}
use Rattle.babel_value.specs.declared.addresses.Addr.{Addr}
use Rattle.babel_value.specs.declared.addresses.Addr.TheVariants.{V4, V6}
use Rattle.babel_value.specs.Prefixes.{PrefixValue}
use Rattle.babel_message.specs.declared.messages.Message.TheVariants as messages
use Rattle.babel_packet.specs.Numbers.{word, has_flag}
use Rattle.babel_packet.specs.Tails.{tail_reason}
use Rattle.babel_packet.specs.Contents.{means}
use Rattle.babel_packet.specs.RouterIds.{named_router}
use Rattle.babel_packet.specs.NextHops.{named_hop4, named_hop6}
use Rattle.babel_packet.specs.UpdateFields.{address}
use Rattle.babel_packet.specs.LookBack.{update_address}
use Rattle.babel_packet.specs.declared.parser_state.ParserState.{ParserState}
use Rattle.babel_packet.specs.Updates.{update, update_in, update_of}
use Rattle.babel_packet.specs.Meaning.{content}
use Rattle.babel_packet.specs.Payloads.{octets, is_link_local, prefix_encoding, prefix_written, router_id_payload, next_hop_payload}
use Rattle.babel_packet.specs.Encodable.{are_kin, is_encodable, IsAddr, IsPrefix, IsRouterId}
use Rattle.babel_packet.specs.BodyMeanings.{hop_for}
use Rattle.babel_packet.specs.Running.{after}
use Rattle.babel_packet.specs.Compressed.{update_fields, update_payload, given_router, with_default, with_router, with_hop, omitted_in}
use Rattle.babel_packet.proofs.Layouts.{two_again}
use Rattle.babel_packet.proofs.Written.{not_zero, link_local_again, is_clear4, is_clear6, hop_of_family, hop_is_set}
use Rattle.babel_packet.proofs.Compressing.{IsClear, payload, Reads, reads}

pub after_router_id : (d : ParserState) (router : List ℕ) → IsRouterId router → after d 6 (router_id_payload router) ≡ with_router router d
unfolding named_router named_hop4 named_hop6 update_address
after_router_id d router named =
    let long : nat_le 10 (length (0 ∷ 0 ∷ router)) ≡ true = le-leb _ _ (omega (arith, named.size)) in
    rw (long, take_all 8 router (omega (arith, named.size))) refl

after_next_hop6 : (d : ParserState) (o : List ℕ) (local : Bool) → is_link_local o ≡ local → length o ≡ 16 →
    after d 7 (next_hop_payload (V6 o)) ≡ with_hop (V6 o) d
unfolding named_router named_hop4 named_hop6 update_address
after_next_hop6 d o true local long =
    let fits : nat_le 10 (length (3 ∷ 0 ∷ drop 8 o)) ≡ true = le-leb _ _ (omega (arith, length-drop 8 o)) in
    rw (local, fits, link_local_again o long local) refl
after_next_hop6 d o false other long =
    let fits : nat_le 18 (length (2 ∷ 0 ∷ o)) ≡ true = le-leb _ _ (omega arith) in rw (other, fits, take_all 16 o (omega arith)) refl

pub after_next_hop : (d : ParserState) (hop : Addr) → IsAddr hop → after d 7 (next_hop_payload hop) ≡ with_hop hop d
unfolding named_router named_hop4 named_hop6 update_address
after_next_hop d (V4 o) is =
    let fits : nat_le 6 (length (1 ∷ 0 ∷ o)) ≡ true = le-leb _ _ (omega (arith, is.0)) in rw (fits, take_all 4 o (omega (arith, is.0))) refl
after_next_hop d (V6 o) is = after_next_hop6 d o (is_link_local o) refl is.0

-- An Update has an address of its own AE alone.
address_of : (ae size : ℕ) (default : Option (List ℕ)) (o p : List ℕ) → nat_eq (get_or p 0 0) ae ≡ true → Reads size default o p →
    update_address ae size default 8 p ≡ Some o
unfolding update_address
address_of ae size default o p here reads = rw (reads.long, here, reads.whole) reads.again

address_of_other : (ae size : ℕ) (default : Option (List ℕ)) (p : List ℕ) → nat_eq (get_or p 0 0) ae ≡ false → nat_le 10 (length p) ≡ true →
    update_address ae size default 8 p ≡ None
unfolding update_address
address_of_other ae size default p other long = rw (long, other) refl

-- The flag 0x80 sets the default prefix, 0x40 the router-id.
pub after_update : (d : ParserState) (addr : Addr) (bits interval seqno metric : ℕ) → IsPrefix (record { addr = addr; length = bits }) →
    after d 8 (update_payload d 0x80 (record { addr = addr; length = bits }) interval seqno metric) ≡ with_default addr d
unfolding named_router named_hop4 named_hop6 has_flag
after_update d (V4 o) bits interval seqno metric is =
    let p = payload 1 0x80 bits d.default4 interval seqno metric o in
    let r = reads 4 1 0x80 bits d.default4 interval seqno metric o (is_clear4 bits o is) in
    rw (address_of 1 4 d.default4 o p refl r, address_of_other 2 16 d.default6 p refl r.long) refl
after_update d (V6 o) bits interval seqno metric is =
    let p = payload 2 0x80 bits d.default6 interval seqno metric o in
    let r = reads 16 2 0x80 bits d.default6 interval seqno metric o (is_clear6 bits o is) in
    rw (address_of 2 16 d.default6 o p refl r, address_of_other 1 4 d.default4 p refl r.long) refl

pub after_naming_update : (d : ParserState) (addr : Addr) (bits interval seqno metric : ℕ) → IsPrefix (record { addr = addr; length = bits }) →
    after d 8 (update_payload d 0xc0 (record { addr = addr; length = bits }) interval seqno metric) ≡ with_default addr (with_router (given_router addr) d)
unfolding named_router named_hop4 named_hop6 has_flag
after_naming_update d (V4 o) bits interval seqno metric is =
    let p = payload 1 0xc0 bits d.default4 interval seqno metric o in
    let r = reads 4 1 0xc0 bits d.default4 interval seqno metric o (is_clear4 bits o is) in
    rw (address_of 1 4 d.default4 o p refl r, address_of_other 2 16 d.default6 p refl r.long) refl
after_naming_update d (V6 o) bits interval seqno metric is =
    let p = payload 2 0xc0 bits d.default6 interval seqno metric o in
    let r = reads 16 2 0xc0 bits d.default6 interval seqno metric o (is_clear6 bits o is) in
    rw (address_of 2 16 d.default6 o p refl r, address_of_other 1 4 d.default4 p refl r.long) refl

update_in_again : (size : ℕ) (family : List ℕ → Addr) (default router hop : Option (List ℕ)) (ae flags bits interval seqno metric : ℕ) (o : List ℕ) →
    IsClear size bits o →
    (let p = payload ae flags bits default interval seqno metric o in
    update_in size family (address size default p) router hop p ≡ update_of (record { addr = family o; length = bits }) router (option_map family hop) p)
unfolding tail_reason
update_in_again size family default router hop ae flags bits interval seqno metric o is =
    let r = reads size ae flags bits default interval seqno metric o is in
    rw (r.whole, r.again, r.none) refl

-- An Update means what its fields say, with the router-id that a reader has after it and the next hop that it has before.
update_of_addr : (d : ParserState) (addr : Addr) (flags bits interval seqno metric : ℕ) → IsPrefix (record { addr = addr; length = bits }) →
    (let p = update_payload d flags (record { addr = addr; length = bits }) interval seqno metric in
    content d 8 p ≡ update_of (record { addr = addr; length = bits }) (after d 8 p).router (hop_of_family addr d) p)
unfolding content update
update_of_addr d (V4 o) flags bits interval seqno metric is =
    let p = payload 1 flags bits d.default4 interval seqno metric o in
    let long : nat_lt (length p) 10 ≡ false = le-ltb _ _ (omega arith) in
    rw long (update_in_again 4 V4 d.default4 (after d 8 p).router d.hop4 1 flags bits interval seqno metric o (is_clear4 bits o is))
update_of_addr d (V6 o) flags bits interval seqno metric is =
    let p = payload 2 flags bits d.default6 interval seqno metric o in
    let long : nat_lt (length p) 10 ≡ false = le-ltb _ _ (omega arith) in
    rw long (update_in_again 16 V6 d.default6 (after d 8 p).router d.hop6 2 flags bits interval seqno metric o (is_clear6 bits o is))

pub retraction_again : (d : ParserState) (prefix : PrefixValue) (interval : ℕ) → IsPrefix prefix →
    content d 8 (update_payload d 0x80 prefix interval 0 65535) ≡ means (messages.Retraction prefix interval)
unfolding update_of word
retraction_again d prefix interval is =
    update_of_addr d prefix.addr 0x80 prefix.length interval 0 65535 is ∙ rw (two_again interval) refl

finite_again : (prefix : PrefixValue) (router : List ℕ) (hop : Addr) (ae flags bits omitted interval seqno metric : ℕ) (written : List ℕ) → IsRouterId router →
    nat_eq metric 65535 ≡ false → nat_lt 0 interval ≡ true →
    update_of prefix (Some router) (Some hop) (update_fields ae flags bits omitted interval seqno metric written) ≡
    means (messages.Update prefix router hop seqno metric interval)
unfolding update_of word
finite_again prefix router hop ae flags bits omitted interval seqno metric written named finite some =
    rw (two_again metric, finite, named.named, two_again interval, not_zero interval some, two_again seqno, two_again metric) refl

-- An Update is read again if the reader has its router-id and its next hop.
pub update_again : (d : ParserState) (prefix : PrefixValue) (router : List ℕ) (hop : Addr) (flags seqno metric interval : ℕ) → IsPrefix prefix →
    IsRouterId router → is_encodable (messages.Update prefix router hop seqno metric interval) ≡ true →
    (after d 8 (update_payload d flags prefix interval seqno metric)).router ≡ Some router → hop_for hop d ≡ Some (octets hop) →
    content d 8 (update_payload d flags prefix interval seqno metric) ≡ means (messages.Update prefix router hop seqno metric interval)
update_again d prefix router hop flags seqno metric interval is named encodable router_set hop_set =
    let p = update_payload d flags prefix interval seqno metric in
    let parts = and_parts (nat_lt metric 65535) (nat_lt 0 interval && are_kin hop prefix.addr) encodable in
    let more = and_parts (nat_lt 0 interval) (are_kin hop prefix.addr) parts.1 in
    let finite : nat_eq metric 65535 ≡ false = ne_eqb metric 65535 (λ e. absurd (omega (arith, ltb-true metric 65535 parts.0, e))) in
    update_of_addr d prefix.addr flags prefix.length interval seqno metric is ∙
    ap (λ r. update_of prefix r (hop_of_family prefix.addr d) p) router_set ∙
    ap (λ h. update_of prefix (Some router) h p) (hop_is_set prefix.addr hop d more.1 hop_set) ∙
    finite_again prefix router hop (prefix_encoding prefix.addr) flags prefix.length (omitted_in d prefix) interval seqno metric
    (drop (omitted_in d prefix) (prefix_written prefix)) named finite more.0
