-- A TLV is ignored for the first reason of the table that applies.
use Rattle.std.proofs.Common.{◌≡◌, ℕ, zero, suc, ◌+◌, ◌-◌, ◌*◌, ◌<◌, ◌≤◌, Bool, true, false, not, ◌&&◌, ◌||◌, List, [], ◌∷◌, length, drop, Option, Some, None, option_map, nat_lt, nat_le, nat_eq, if◌then◌else◌, refl, ap, ◌∙◌, sym, arith, slice_index, is_some, is_none}
use Rattle.std.specs.Option.{option_or, option_and_then}
use Rattle.std.proofs.lemmas.Bool.{lt-ltb, ne_eqb, lt-leb, leb-false, le-ltb, leb-true}
use Rattle.babel_value.specs.declared.addresses.Addr.{Addr}
use Rattle.babel_value.specs.declared.addresses.Addr.TheVariants.{V4, V6}
use Rattle.babel_tlv.specs.Place.{Place}
use Rattle.babel_tlv.specs.Split.{places_of, fault_of}
use Rattle.babel_message.specs.Layout as layout
use Rattle.babel_packet.specs.declared.parser_state.ParserState.{ParserState}
use Rattle.babel_message.specs.declared.messages.Message.{Message}
use Rattle.babel_message.specs.declared.messages.Message.TheVariants as messages
use Rattle.babel_message.specs.declared.placements.Content.{Content}
use Rattle.babel_message.specs.declared.placements.Content.TheVariants as contents
use Rattle.babel_message.specs.declared.placements.Reason.{Reason}
use Rattle.babel_message.specs.declared.placements.Reason.TheVariants as reasons
use Rattle.babel_packet.specs.Numbers.{octet, word}
use Rattle.babel_packet.specs.Addresses.{ipv4_at, ipv6_at, link_local_at}
use Rattle.babel_packet.specs.Contents.{unless, ignored, means}
use Rattle.babel_packet.specs.Tails.{mandatory, tail_reason_of, tail_reason, after_tail}
use Rattle.babel_packet.specs.Acks.{ack_request, ack}
use Rattle.babel_packet.specs.Hellos.{hello}
use Rattle.babel_packet.specs.Ihus.{ihu, ihu_of, ihu_to}
use Rattle.babel_packet.specs.RouterIds.{router_id}
use Rattle.babel_packet.specs.NextHops.{next_hop, next_hop_of}
use Rattle.babel_packet.specs.Prefixes.{octets_of, is_whole}
use Rattle.babel_packet.specs.UpdateFields.{is_readable, address, written}
use Rattle.babel_packet.specs.Updates.{from_router, update_of, prefixed, wildcard, update_in, update_router, update}
use Rattle.babel_packet.specs.Requests.{asked, route_request_in, dump_request, route_request, requested_router, seqno_request_for, seqno_request_in, seqno_request}
use Rattle.babel_value.specs.Prefixes.{PrefixValue}
use Rattle.babel_value.specs.RouterIds.{is_reserved, router_id_of}
use Rattle.babel_packet.specs.Meaning.{content}
use Rattle.babel_packet.specs.ReasonTable as table
use Rattle.babel_packet.specs.ReasonTable.{Row, row, first_reason, reason_of}

-- ---- the tail

one_more_mandatory : (known : Bool) (kind : ℕ) (subs : List Place) →
    mandatory subs ≡ (if nat_lt 0 (length (table.mandatory_kinds subs)) then Some (reasons.MandatorySubTlv (slice_index (table.mandatory_kinds subs) 0)) else None) →
    (if known then Some (reasons.MandatorySubTlv kind) else mandatory subs) ≡
    (if nat_lt 0 (length (if known then kind ∷ table.mandatory_kinds subs else table.mandatory_kinds subs))
    then Some (reasons.MandatorySubTlv (slice_index (if known then kind ∷ table.mandatory_kinds subs else table.mandatory_kinds subs) 0))
    else None)
one_more_mandatory true kind subs same =
    let some : nat_lt 0 (suc (length (table.mandatory_kinds subs))) ≡ true = lt-ltb _ _ (omega arith) in rw some refl
one_more_mandatory false kind subs same = same

mandatory_is : (subs : List Place) →
    mandatory subs ≡ (if nat_lt 0 (length (table.mandatory_kinds subs)) then Some (reasons.MandatorySubTlv (slice_index (table.mandatory_kinds subs) 0)) else None)
mandatory_is [] = refl
mandatory_is (t ∷ ts) = one_more_mandatory (nat_le layout.mandatory t.kind) t.kind ts (mandatory_is ts)

tail_of : (fault : Option ℕ) (subs : List Place) →
    tail_reason_of fault subs ≡
    (if is_some fault then Some reasons.TailOverrun
    else if nat_lt 0 (length (table.mandatory_kinds subs)) then Some (reasons.MandatorySubTlv (slice_index (table.mandatory_kinds subs) 0)) else None)
tail_of (Some offset) subs = refl
tail_of None subs = mandatory_is subs

tail_is : (t : List ℕ) →
    tail_reason t ≡
    (if table.overruns t then Some reasons.TailOverrun
    else if nat_lt 0 (length (table.mandatory_in t)) then Some (reasons.MandatorySubTlv (slice_index (table.mandatory_in t) 0)) else None)
unfolding tail_reason
tail_is t = tail_of (fault_of t) (places_of t)

-- ---- the table in the order of reading

-- The fixed fields, the encoding, what is left of the fields, the tail, and the last reasons.
abbrev outcome : Bool → Bool → Bool → Option Reason → Option Reason → Option Reason
outcome short taken cut tail last =
    if short || (taken && cut) then Some reasons.Unreadable else if taken then option_or tail last else Some reasons.UnknownEncoding

in_order : (short taken cut over mandatory : Bool) (m : Reason) (last : Option Reason) →
    (if short || (taken && cut) then Some reasons.Unreadable
    else if taken && over then Some reasons.TailOverrun
    else if taken && mandatory then Some m
    else if not taken then Some reasons.UnknownEncoding
    else last) ≡
    outcome short taken cut (if over then Some reasons.TailOverrun else if mandatory then Some m else None) last
in_order true taken cut over mandatory m last = refl
in_order false false cut over mandatory m last = refl
in_order false true true over mandatory m last = refl
in_order false true false true mandatory m last = refl
in_order false true false false true m last = refl
in_order false true false false false m last = refl

-- I7 to I13
abbrev late : ParserState → ℕ → List ℕ → List Row
late d kind p =
    row reasons.NoDefaultPrefix (table.lacks_default_prefix d kind p) ∷
    row reasons.NoRouterId (table.lacks_router_id d kind p) ∷
    row reasons.NoNextHop (table.lacks_next_hop d kind p) ∷
    row reasons.ZeroInterval (table.has_zero_interval kind p) ∷
    row reasons.ZeroRxcost (table.has_zero_rxcost kind p) ∷
    row reasons.Wildcard (table.is_wrong_wildcard kind p) ∷
    row reasons.NoHops (table.has_no_hops kind p) ∷
    []

abbrev read_in_order : ParserState → ℕ → List ℕ → Option Reason
read_in_order d kind p =
    outcome (nat_lt (length p) (table.fixed_len kind)) (table.is_taken kind p) (table.is_cut kind p) (tail_reason (table.tail kind p)) (first_reason (late d kind p))

table_is : (d : ParserState) (kind : ℕ) (p : List ℕ) → nat_le kind 1 ≡ false → nat_lt 10 kind ≡ false →
    first_reason (table.reason_table d kind p) ≡ read_in_order d kind p
table_is d kind p some known =
    rw (some, known, tail_is (table.tail kind p))
    (in_order (nat_lt (length p) (table.fixed_len kind)) (table.is_taken kind p) (table.is_cut kind p) (table.overruns (table.tail kind p))
    (nat_lt 0 (length (table.mandatory_in (table.tail kind p)))) (reasons.MandatorySubTlv (slice_index (table.mandatory_in (table.tail kind p)) 0)) (first_reason (late d kind p)))

-- ---- contents in the order of reading

-- a message in place of any other
abbrev some_message : Content
some_message = means messages.DumpRequest

-- the content, whatever its message is
abbrev erased : Content → Content
erased (contents.Message message) = some_message
erased contents.State = contents.State
erased (contents.Ignored reason) = ignored reason

-- The content is ignored for this reason, or is this rest.
abbrev Gives : Content → Option Reason → Content → Type 0
Gives c reason rest = erased c ≡ unless reason rest

tail_first : (reason : Option Reason) (c : Content) (last : Option Reason) (rest : Content) → Gives c last rest → Gives (unless reason c) (option_or reason last) rest
tail_first None c last rest same = same
tail_first (Some reason) c last rest same = refl

sized : (short lacks : Bool) (t : List ℕ) (c : Content) (last : Option Reason) (rest : Content) → Gives c last rest →
    Gives (if short then ignored reasons.Unreadable else if lacks then ignored reasons.Unreadable else after_tail t c)
    (outcome short true lacks (tail_reason t) last) rest
sized true lacks t c last rest same = refl
sized false true t c last rest same = refl
sized false false t c last rest same = tail_first (tail_reason t) c last rest same

fixed : (short : Bool) (t : List ℕ) (c : Content) (last : Option Reason) (rest : Content) → Gives c last rest →
    Gives (if short then ignored reasons.Unreadable else after_tail t c) (outcome short true short (tail_reason t) last) rest
fixed true t c last rest same = refl
fixed false t c last rest same = tail_first (tail_reason t) c last rest same

whole_or_not : (short whole cut : Bool) (t : List ℕ) (c : Content) (last : Option Reason) (rest : Content) → cut ≡ not whole → Gives c last rest →
    Gives (if short then ignored reasons.Unreadable else if whole then after_tail t c else ignored reasons.Unreadable)
    (outcome short true cut (tail_reason t) last) rest
whole_or_not true whole cut t c last rest same again = refl
whole_or_not false true cut t c last rest same again = rw same (tail_first (tail_reason t) c last rest again)
whole_or_not false false cut t c last rest same again = rw same refl

untaken : (short : Bool) (rest : Content) →
    Gives (if short then ignored reasons.Unreadable else ignored reasons.UnknownEncoding) (outcome short false false None None) rest
untaken true rest = refl
untaken false rest = refl

differs : (ae n k : ℕ) → ae ≡ n → k < n → nat_eq ae k ≡ false
differs ae n k e more = ne_eqb ae k (λ h. absurd (omega arith))

exceeds : (ae n k : ℕ) → ae ≡ n → k < n → nat_le ae k ≡ false
exceeds ae n k e more = lt-leb ae k (omega arith)

-- ---- TLVs without an encoding

ack_request_reasons : (d : ParserState) (p : List ℕ) → Gives (ack_request p) (read_in_order d 2 p) some_message
unfolding ack_request
ack_request_reasons d p = fixed (nat_lt (length p) 6) (drop 6 p) _ None some_message refl

ack_reasons : (d : ParserState) (p : List ℕ) → Gives (ack p) (read_in_order d 3 p) some_message
unfolding ack
ack_reasons d p = fixed (nat_lt (length p) 2) (drop 2 p) _ None some_message refl

hello_reasons : (d : ParserState) (p : List ℕ) → Gives (hello p) (read_in_order d 4 p) some_message
unfolding hello
hello_reasons d p = fixed (nat_lt (length p) 6) (drop 6 p) _ None some_message refl

router_id_reasons : (d : ParserState) (p : List ℕ) → Gives (router_id p) (read_in_order d 6 p) contents.State
unfolding router_id
router_id_reasons d p = fixed (nat_lt (length p) 10) (drop 10 p) contents.State None contents.State refl

-- ---- IHU

ihu_last : (interval rxcost : Bool) (message : Message) →
    Gives (if interval then ignored reasons.ZeroInterval else if rxcost then ignored reasons.ZeroRxcost else means message)
    (if interval then Some reasons.ZeroInterval else if rxcost then Some reasons.ZeroRxcost else None) some_message
ihu_last true rxcost message = refl
ihu_last false true message = refl
ihu_last false false message = refl

ihu_to_is : (to : Option Addr) (p : List ℕ) →
    Gives (ihu_to to p)
    (if nat_eq (word p layout.ihu_interval) 0 then Some reasons.ZeroInterval else if nat_eq (word p layout.ihu_rxcost) 0 then Some reasons.ZeroRxcost else None)
    some_message
ihu_to_is to p =
    ihu_last (nat_eq (word p layout.ihu_interval) 0) (nat_eq (word p layout.ihu_rxcost) 0)
    (messages.Ihu to (word p layout.ihu_rxcost) (word p layout.ihu_interval))

ihu_reasons : (ae : ℕ) (d : ParserState) (p : List ℕ) → octet p 0 ≡ ae → Gives (ihu p) (read_in_order d 5 p) some_message
unfolding ihu ihu_of
ihu_reasons zero d p e =
    rw e (sized (nat_lt (length p) 6) (nat_lt (length p) 6) (drop 6 p) (ihu_to None p) _ some_message (ihu_to_is None p))
ihu_reasons (suc zero) d p e =
    let to : Option Addr = Some (V4 (ipv4_at p 6)) in
    rw e (sized (nat_lt (length p) 6) (nat_lt (length p) 10) (drop 10 p) (ihu_to to p) _ some_message (ihu_to_is to p))
ihu_reasons (suc (suc zero)) d p e =
    let to : Option Addr = Some (V6 (ipv6_at p 6)) in
    rw e (sized (nat_lt (length p) 6) (nat_lt (length p) 22) (drop 22 p) (ihu_to to p) _ some_message (ihu_to_is to p))
ihu_reasons (suc (suc (suc zero))) d p e =
    let to : Option Addr = Some (V6 (link_local_at p 6)) in
    rw e (sized (nat_lt (length p) 6) (nat_lt (length p) 14) (drop 14 p) (ihu_to to p) _ some_message (ihu_to_is to p))
ihu_reasons (suc (suc (suc (suc n)))) d p e =
    let other : (k : ℕ) → k < 4 → nat_eq (octet p 0) k ≡ false = λ k less. differs (octet p 0) (suc (suc (suc (suc n)))) k e (omega arith) in
    rw (other 0 (omega arith), other 1 (omega arith), other 2 (omega arith), other 3 (omega arith), exceeds (octet p 0) (suc (suc (suc (suc n)))) 3 e (omega arith))
    (untaken (nat_lt (length p) 6) some_message)

-- ---- Next Hop

next_hop_reasons : (ae : ℕ) (d : ParserState) (p : List ℕ) → octet p 0 ≡ ae → Gives (next_hop p) (read_in_order d 7 p) contents.State
unfolding next_hop next_hop_of
next_hop_reasons zero d p e = rw e (untaken (nat_lt (length p) 2) contents.State)
next_hop_reasons (suc zero) d p e =
    rw e (sized (nat_lt (length p) 2) (nat_lt (length p) 6) (drop 6 p) contents.State None contents.State refl)
next_hop_reasons (suc (suc zero)) d p e =
    rw e (sized (nat_lt (length p) 2) (nat_lt (length p) 18) (drop 18 p) contents.State None contents.State refl)
next_hop_reasons (suc (suc (suc zero))) d p e =
    rw e (sized (nat_lt (length p) 2) (nat_lt (length p) 10) (drop 10 p) contents.State None contents.State refl)
next_hop_reasons (suc (suc (suc (suc n)))) d p e =
    let other : (k : ℕ) → k < 4 → nat_eq (octet p 0) k ≡ false = λ k less. differs (octet p 0) (suc (suc (suc (suc n)))) k e (omega arith) in
    rw (other 0 (omega arith), other 1 (omega arith), other 2 (omega arith), other 3 (omega arith), exceeds (octet p 0) (suc (suc (suc (suc n)))) 3 e (omega arith))
    (untaken (nat_lt (length p) 2) contents.State)

-- ---- prefixes

greater_by : (o : Bool) (a b : ℕ) → nat_le a b ≡ o → nat_lt b a ≡ not o
greater_by true a b e = le-ltb b a (leb-true a b e)
greater_by false a b e = lt-ltb b a (leb-false a b e)

greater : (a b : ℕ) → nat_lt b a ≡ not (nat_le a b)
greater a b = greater_by (nat_le a b) a b refl

not_both : (a b : Bool) → (not a || not b) ≡ not (a && b)
not_both true b = refl
not_both false b = refl

cut_is : (size omitted bits at : ℕ) (p : List ℕ) →
    (nat_lt (8 * size) bits || nat_lt (length p) (at + (octets_of bits - omitted))) ≡ not (is_whole size omitted bits at p)
unfolding is_whole
cut_is size omitted bits at p =
    rw (greater bits (8 * size), greater (at + (octets_of bits - omitted)) (length p))
    (not_both (nat_le bits (8 * size)) (nat_le (at + (octets_of bits - omitted)) (length p)))

-- ---- Update

-- I8 to I10 of an Update of a prefix
abbrev update_last : Bool → Bool → Bool → Bool → Option Reason
update_last infinite unnamed hopless hurried =
    if (not infinite && unnamed) || false then Some reasons.NoRouterId
    else if not infinite && hopless then Some reasons.NoNextHop
    else if (not infinite && hurried) || false then Some reasons.ZeroInterval
    else None

zero_interval : (hurried : Bool) (message : Message) →
    Gives (if hurried then ignored reasons.ZeroInterval else means message) (if hurried || false then Some reasons.ZeroInterval else None) some_message
zero_interval true message = refl
zero_interval false message = refl

finite_or_not : (infinite : Bool) (prefix : PrefixValue) (router hop : Option (List ℕ)) (family : List ℕ → Addr) (p : List ℕ) →
    Gives (if infinite then means (messages.Retraction prefix (word p 4)) else from_router prefix router (option_map family hop) p)
    (update_last infinite (is_none router) (is_none hop) (nat_eq (word p 4) 0)) some_message
finite_or_not true prefix router hop family p = refl
finite_or_not false prefix None hop family p = refl
finite_or_not false prefix (Some router) None family p = refl
finite_or_not false prefix (Some router) (Some hop) family p =
    zero_interval (nat_eq (word p 4) 0) (messages.Update prefix router (family hop) (word p 6) (word p 8) (word p 4))

update_of_is : (prefix : PrefixValue) (router hop : Option (List ℕ)) (family : List ℕ → Addr) (p : List ℕ) →
    Gives (update_of prefix router (option_map family hop) p)
    (update_last (nat_eq (word p 8) 65535) (is_none (option_and_then router_id_of router)) (is_none hop) (nat_eq (word p 4) 0)) some_message
unfolding update_of
update_of_is prefix router hop family p = finite_or_not (nat_eq (word p 8) 65535) prefix (option_and_then router_id_of router) hop family p

based : (none_omitted : Bool) (zeros : List ℕ) (default : Option (List ℕ)) (f : List ℕ → List ℕ) (family : List ℕ → Addr) (router hop : Option (List ℕ)) (p : List ℕ) →
    Gives (prefixed family (option_map f (if none_omitted then Some zeros else default)) router (option_map family hop) p)
    (if not none_omitted && is_none default then Some reasons.NoDefaultPrefix
    else update_last (nat_eq (word p 8) 65535) (is_none (option_and_then router_id_of router)) (is_none hop) (nat_eq (word p 4) 0)) some_message
based true zeros default f family router hop p = update_of_is (record { addr = family (f zeros); length = octet p 2 }) router hop family p
based false zeros None f family router hop p = refl
based false zeros (Some base) f family router hop p = update_of_is (record { addr = family (f base); length = octet p 2 }) router hop family p

prefixed_is : (size : ℕ) (default : Option (List ℕ)) (family : List ℕ → Addr) (router hop : Option (List ℕ)) (p : List ℕ) →
    Gives (prefixed family (address size default p) router (option_map family hop) p)
    (if not (nat_eq (octet p 3) 0) && is_none default then Some reasons.NoDefaultPrefix
    else update_last (nat_eq (word p 8) 65535) (is_none (option_and_then router_id_of router)) (is_none hop) (nat_eq (word p 4) 0)) some_message
unfolding address
prefixed_is size default family router hop p = based (nat_eq (octet p 3) 0) _ default _ family router hop p

update_in_is : (size : ℕ) (default : Option (List ℕ)) (family : List ℕ → Addr) (router hop : Option (List ℕ)) (p : List ℕ) →
    Gives (if nat_lt (length p) 10 then ignored reasons.Unreadable else update_in size family (address size default p) router hop p)
    (outcome (nat_lt (length p) 10) true (nat_lt (8 * size) (octet p 2) || nat_lt (length p) (10 + written p)) (tail_reason (drop (10 + written p) p))
    (if not (nat_eq (octet p 3) 0) && is_none default then Some reasons.NoDefaultPrefix
    else update_last (nat_eq (word p 8) 65535) (is_none (option_and_then router_id_of router)) (is_none hop) (nat_eq (word p 4) 0))) some_message
update_in_is size default family router hop p =
    whole_or_not (nat_lt (length p) 10) (is_readable size p) _ (drop (10 + written p) p) (prefixed family (address size default p) router (option_map family hop) p) _
    some_message (cut_is size (octet p 3) (octet p 2) 10 p) (prefixed_is size default family router hop p)

retracts_all : (infinite length none_omitted : Bool) (message : Message) →
    Gives (if infinite && (length && none_omitted) then means message else ignored reasons.Wildcard)
    (if (not infinite || not (length && none_omitted)) || false then Some reasons.Wildcard else None) some_message
retracts_all true true true message = refl
retracts_all true true false message = refl
retracts_all true false none_omitted message = refl
retracts_all false length none_omitted message = refl

update_reasons : (ae : ℕ) (d : ParserState) (p : List ℕ) → octet p 0 ≡ ae → Gives (update d p) (read_in_order d 8 p) some_message
unfolding update
update_reasons zero d p e =
    rw e (fixed (nat_lt (length p) 10) (drop 10 p) (wildcard p) _ some_message
    (retracts_all (nat_eq (word p 8) 65535) (nat_eq (octet p 2) 0) (nat_eq (octet p 3) 0) (messages.RetractAll (word p 4))))
update_reasons (suc zero) d p e = rw e (update_in_is 4 d.default4 V4 (update_router d p) d.hop4 p)
update_reasons (suc (suc zero)) d p e = rw e (update_in_is 16 d.default6 V6 (update_router d p) d.hop6 p)
update_reasons (suc (suc (suc n))) d p e =
    let other : (k : ℕ) → k < 3 → nat_eq (octet p 0) k ≡ false = λ k less. differs (octet p 0) (suc (suc (suc n))) k e (omega arith) in
    rw (other 0 (omega arith), other 1 (omega arith), other 2 (omega arith), exceeds (octet p 0) (suc (suc (suc n))) 2 e (omega arith))
    (untaken (nat_lt (length p) 10) some_message)

-- ---- requests

dumps : (length : Bool) →
    Gives (if length then means messages.DumpRequest else ignored reasons.Wildcard) (if not length || false then Some reasons.Wildcard else None) some_message
dumps true = refl
dumps false = refl

route_request_in_is : (size : ℕ) (family : List ℕ → Addr) (p : List ℕ) →
    Gives (if nat_lt (length p) 2 then ignored reasons.Unreadable else route_request_in size family p)
    (outcome (nat_lt (length p) 2) true (nat_lt (8 * size) (octet p 1) || nat_lt (length p) (2 + (octets_of (octet p 1) - 0)))
    (tail_reason (drop (2 + (octets_of (octet p 1) - 0)) p)) None) some_message
route_request_in_is size family p =
    let all : octets_of (octet p 1) - 0 ≡ octets_of (octet p 1) = omega arith in
    let cut = nat_lt (8 * size) (octet p 1) || nat_lt (length p) (2 + (octets_of (octet p 1) - 0)) in
    whole_or_not (nat_lt (length p) 2) (is_whole size 0 (octet p 1) 2 p) cut (drop (2 + octets_of (octet p 1)) p) (means (messages.RouteRequest (asked size family 1 2 p))) None
    some_message (cut_is size 0 (octet p 1) 2 p) refl ∙
    ap (λ n. unless (outcome (nat_lt (length p) 2) true cut (tail_reason (drop (2 + n) p)) None) some_message) (sym all)

route_request_reasons : (ae : ℕ) (d : ParserState) (p : List ℕ) → octet p 0 ≡ ae → Gives (route_request p) (read_in_order d 9 p) some_message
unfolding route_request
route_request_reasons zero d p e =
    rw e (fixed (nat_lt (length p) 2) (drop 2 p) (dump_request p) _ some_message (dumps (nat_eq (octet p 1) 0)))
route_request_reasons (suc zero) d p e = rw e (route_request_in_is 4 V4 p)
route_request_reasons (suc (suc zero)) d p e = rw e (route_request_in_is 16 V6 p)
route_request_reasons (suc (suc (suc n))) d p e =
    let other : (k : ℕ) → k < 3 → nat_eq (octet p 0) k ≡ false = λ k less. differs (octet p 0) (suc (suc (suc n))) k e (omega arith) in
    rw (other 0 (omega arith), other 1 (omega arith), other 2 (omega arith), exceeds (octet p 0) (suc (suc (suc n))) 2 e (omega arith))
    (untaken (nat_lt (length p) 2) some_message)

request_last : (reserved hopless : Bool) (message : Message) →
    Gives (if reserved then ignored reasons.NoRouterId else if hopless then ignored reasons.NoHops else means message)
    (if reserved then Some reasons.NoRouterId else if hopless then Some reasons.NoHops else None) some_message
request_last true hopless message = refl
request_last false true message = refl
request_last false false message = refl

abbrev request_reason : List ℕ → Option Reason
request_reason p =
    if is_reserved (requested_router p) then Some reasons.NoRouterId else if nat_eq (octet p 4) 0 then Some reasons.NoHops else None

seqno_request_for_is : (prefix : PrefixValue) (p : List ℕ) → Gives (seqno_request_for prefix p) (request_reason p) some_message
unfolding seqno_request_for
seqno_request_for_is prefix p =
    request_last (is_reserved (requested_router p)) (nat_eq (octet p 4) 0) (messages.SeqnoRequest prefix (requested_router p) (word p 2) (octet p 4))

seqno_request_in_is : (size : ℕ) (family : List ℕ → Addr) (p : List ℕ) →
    Gives (if nat_lt (length p) 14 then ignored reasons.Unreadable else seqno_request_in size family p)
    (outcome (nat_lt (length p) 14) true (nat_lt (8 * size) (octet p 1) || nat_lt (length p) (14 + (octets_of (octet p 1) - 0)))
    (tail_reason (drop (14 + (octets_of (octet p 1) - 0)) p)) (request_reason p)) some_message
seqno_request_in_is size family p =
    let all : octets_of (octet p 1) - 0 ≡ octets_of (octet p 1) = omega arith in
    let cut = nat_lt (8 * size) (octet p 1) || nat_lt (length p) (14 + (octets_of (octet p 1) - 0)) in
    whole_or_not (nat_lt (length p) 14) (is_whole size 0 (octet p 1) 14 p) cut (drop (14 + octets_of (octet p 1)) p) (seqno_request_for (asked size family 1 14 p) p)
    (request_reason p) some_message (cut_is size 0 (octet p 1) 14 p) (seqno_request_for_is (asked size family 1 14 p) p) ∙
    ap (λ n. unless (outcome (nat_lt (length p) 14) true cut (tail_reason (drop (14 + n) p)) (request_reason p)) some_message) (sym all)

seqno_request_reasons : (ae : ℕ) (d : ParserState) (p : List ℕ) → octet p 0 ≡ ae → Gives (seqno_request p) (read_in_order d 10 p) some_message
unfolding seqno_request
seqno_request_reasons zero d p e =
    rw e (fixed (nat_lt (length p) 14) (drop 14 p) (ignored reasons.Wildcard) (Some reasons.Wildcard) some_message refl)
seqno_request_reasons (suc zero) d p e = rw e (seqno_request_in_is 4 V4 p)
seqno_request_reasons (suc (suc zero)) d p e = rw e (seqno_request_in_is 16 V6 p)
seqno_request_reasons (suc (suc (suc n))) d p e =
    let other : (k : ℕ) → k < 3 → nat_eq (octet p 0) k ≡ false = λ k less. differs (octet p 0) (suc (suc (suc n))) k e (omega arith) in
    rw (other 0 (omega arith), other 1 (omega arith), other 2 (omega arith), exceeds (octet p 0) (suc (suc (suc n))) 2 e (omega arith))
    (untaken (nat_lt (length p) 14) some_message)

-- ---- all types

-- what isn't ignored: state, or a message
abbrev heeded : ℕ → Content
heeded kind = if nat_eq kind layout.router_id || nat_eq kind layout.next_hop then contents.State else some_message

abbrev Meets : ℕ → Type 0
Meets kind = (d : ParserState) (p : List ℕ) → Gives (content d kind p) (first_reason (table.reason_table d kind p)) (heeded kind)

by_table : (d : ParserState) (kind : ℕ) (p : List ℕ) (c rest : Content) → nat_le kind 1 ≡ false → nat_lt 10 kind ≡ false → Gives c (read_in_order d kind p) rest →
    Gives c (first_reason (table.reason_table d kind p)) rest
by_table d kind p c rest some known same = same ∙ ap (λ r. unless r rest) (sym (table_is d kind p some known))

beyond : (kind : ℕ) → 10 < kind → Meets kind
unfolding content
beyond kind more d p =
    let other : (k : ℕ) → k ≤ 10 → nat_eq kind k ≡ false = λ k less. ne_eqb kind k (λ h. absurd (omega arith)) in
    rw (lt-leb kind 1 (omega arith), other 2 (omega arith), other 3 (omega arith), other 4 (omega arith), other 5 (omega arith), other 6 (omega arith), other 7 (omega arith), other 8 (omega arith), other 9 (omega arith), other 10 (omega arith), lt-ltb 10 kind more)
    refl

meets : (kind : ℕ) → Meets kind
unfolding content
meets zero d p = refl
meets (suc zero) d p = refl
meets (suc (suc zero)) d p = by_table d 2 p _ some_message refl refl (ack_request_reasons d p)
meets (suc (suc (suc zero))) d p = by_table d 3 p _ some_message refl refl (ack_reasons d p)
meets (suc (suc (suc (suc zero)))) d p = by_table d 4 p _ some_message refl refl (hello_reasons d p)
meets (suc (suc (suc (suc (suc zero))))) d p = by_table d 5 p _ some_message refl refl (ihu_reasons (octet p 0) d p refl)
meets (suc (suc (suc (suc (suc (suc zero)))))) d p = by_table d 6 p _ contents.State refl refl (router_id_reasons d p)
meets (suc (suc (suc (suc (suc (suc (suc zero))))))) d p = by_table d 7 p _ contents.State refl refl (next_hop_reasons (octet p 0) d p refl)
meets (suc (suc (suc (suc (suc (suc (suc (suc zero)))))))) d p = by_table d 8 p _ some_message refl refl (update_reasons (octet p 0) d p refl)
meets (suc (suc (suc (suc (suc (suc (suc (suc (suc zero))))))))) d p = by_table d 9 p _ some_message refl refl (route_request_reasons (octet p 0) d p refl)
meets (suc (suc (suc (suc (suc (suc (suc (suc (suc (suc zero)))))))))) d p = by_table d 10 p _ some_message refl refl (seqno_request_reasons (octet p 0) d p refl)
meets (suc (suc (suc (suc (suc (suc (suc (suc (suc (suc (suc n))))))))))) d p = beyond (suc (suc (suc (suc (suc (suc (suc (suc (suc (suc (suc n))))))))))) (omega arith) d p

-- ---- the law

same_reason : (c : Content) → reason_of (erased c) ≡ reason_of c
same_reason (contents.Message message) = refl
same_reason contents.State = refl
same_reason (contents.Ignored reason) = refl

same_state : (c : Content) → table.is_state (erased c) ≡ table.is_state c
same_state (contents.Message message) = refl
same_state contents.State = refl
same_state (contents.Ignored reason) = refl

reason_again : (reason : Option Reason) (state : Bool) → reason_of (unless reason (if state then contents.State else some_message)) ≡ reason
reason_again (Some reason) state = refl
reason_again None true = refl
reason_again None false = refl

state_again : (reason : Option Reason) (state : Bool) → reason ≡ None →
    table.is_state (unless reason (if state then contents.State else some_message)) ≡ state
state_again None true none = refl
state_again None false none = refl
state_again (Some reason) state none = cc

pub reasons_are_first : (d : ParserState) (kind : ℕ) (p : List ℕ) → reason_of (content d kind p) ≡ first_reason (table.reason_table d kind p)
reasons_are_first d kind p =
    sym (same_reason (content d kind p)) ∙ (ap reason_of (meets kind d p) ∙ reason_again (first_reason (table.reason_table d kind p)) (nat_eq kind 6 || nat_eq kind 7))

pub states_are_of_two_types : (d : ParserState) (kind : ℕ) (p : List ℕ) → reason_of (content d kind p) ≡ None →
    table.is_state (content d kind p) ≡ (nat_eq kind layout.router_id || nat_eq kind layout.next_hop)
states_are_of_two_types d kind p none =
    sym (same_state (content d kind p)) ∙ (ap table.is_state (meets kind d p) ∙
    state_again (first_reason (table.reason_table d kind p)) (nat_eq kind 6 || nat_eq kind 7) (sym (reasons_are_first d kind p) ∙ none))
