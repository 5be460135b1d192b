-- A body that grows by the compressed TLVs of a message: what it means, and what its reader has after it.
use Rattle.std.proofs.Common.{◌≡◌, ◌≢◌, ℕ, Bool, true, false, List, [], ◌∷◌, ◌++◌, drop, Option, Some, None, refl, ap, sym, ◌∙◌, subst, arith, append-nil, append_assoc, if◌then◌else◌}
use Rattle.std.specs.Str.{bytes_eq}
use Rattle.std.proofs.lemmas.Slice.Eq.{bytes_eq-Decides}
use Rattle.babel_value.specs.declared.addresses.Addr.{Addr}
use Rattle.babel_value.specs.declared.addresses.Addr.TheVariants.{V4, V6}
use Rattle.babel_value.specs.Prefixes.{PrefixValue}
use Rattle.babel_tlv.specs.Spelling.{spelled}
use Rattle.babel_tlv.specs.Split.{fault_of}
use Rattle.babel_message.specs.declared.messages.Message.{Message}
use Rattle.babel_message.specs.declared.messages.Message.TheVariants as messages
use Rattle.babel_message.specs.declared.placements.Content.TheVariants as contents
use Rattle.babel_packet.specs.RouterIds.{named_router}
use Rattle.babel_packet.specs.NextHops.{named_hop4, named_hop6}
use Rattle.babel_packet.specs.LookBack.{update_address}
use Rattle.babel_packet.specs.declared.parser_state.ParserState.{ParserState}
use Rattle.babel_packet.specs.Meaning.{content}
use Rattle.babel_packet.specs.Payloads.{octets, prefix_encoding, prefix_written, router_id_payload, next_hop_payload, payload_of}
use Rattle.babel_packet.specs.Encodable.{is_encodable, IsAddr, IsMessage}
use Rattle.babel_packet.specs.BodyMeanings.{BodyMeans, state_after, hop_for}
use Rattle.babel_packet.specs.Running.{after}
use Rattle.babel_packet.specs.Compressed.{is_set, default_for, given_router, omitted, update_fields, update_payload, next_hop_before, compressed, with_default, with_router, with_hop, state_with}
use Rattle.babel_packet.proofs.Growing.{Splits, means_message, means_state, state_more}
use Rattle.babel_packet.proofs.Written.{ack_request_again, ack_again, hello_again, ihu_again, retract_all_again, route_request_again, dump_request_again, seqno_request_again, router_id_again, next_hop_again}
use Rattle.babel_packet.proofs.CompressedTlvs.{after_router_id, after_next_hop, after_update, after_naming_update, retraction_again, update_again}

-- what splitting is known to do with one more TLV
abbrev pub SplitsMore : Type 0
SplitsMore = (body : List ℕ) (kind : ℕ) (payload : List ℕ) → fault_of body ≡ None → kind ≢ 0 → Splits body kind payload

-- the body with more octets, which mean nothing of their own, is whole, and this is what its reader has
record Sets (source : Addr) (body more : List ℕ) (next : ParserState) : Type 0 where
  whole : fault_of (body ++ more) ≡ None
  state : state_after source (body ++ more) ≡ next
  silent : (decoded : List Message) → BodyMeans source body decoded → BodyMeans source (body ++ more) decoded

-- the same with octets that mean a message
pub record Adds (source : Addr) (body more : List ℕ) (message : Message) (next : ParserState) : Type 0 where
  pub whole : fault_of (body ++ more) ≡ None
  pub state : state_after source (body ++ more) ≡ next
  pub means : (decoded : List Message) → BodyMeans source body decoded → is_encodable message ≡ true → BodyMeans source (body ++ more) (decoded ++ message ∷ [])

sets_nothing : (source : Addr) (body : List ℕ) (next : ParserState) → fault_of body ≡ None → state_after source body ≡ next → Sets source body [] next
sets_nothing source body next whole state = record {
  whole = ap fault_of (append-nil body) ∙ whole;
  state = ap (state_after source) (append-nil body) ∙ state;
  silent = λ decoded means. subst (λ octets. BodyMeans source octets decoded) (sym (append-nil body)) means;
}

sets_state : SplitsMore → (source : Addr) (body : List ℕ) (kind : ℕ) (payload : List ℕ) (d next : ParserState) → fault_of body ≡ None → kind ≢ 0 →
    state_after source body ≡ d → content d kind payload ≡ contents.State → after d kind payload ≡ next → Sets source body (spelled kind payload) next
sets_state split source body kind payload d next whole some state is_state is_next =
    let more = split body kind payload whole some in
    record {
      whole = more.fault;
      state = state_more source body kind payload more ∙ ap (λ s. after s kind payload) state ∙ is_next;
      silent = λ decoded means. means_state source body decoded kind payload more means (ap (λ s. content s kind payload) state ∙ is_state);
    }

adds_tlv : SplitsMore → (source : Addr) (body : List ℕ) (kind : ℕ) (payload : List ℕ) (message : Message) (d next : ParserState) → fault_of body ≡ None →
    kind ≢ 0 → state_after source body ≡ d → (is_encodable message ≡ true → content d kind payload ≡ contents.Message message) →
    after d kind payload ≡ next → Adds source body (spelled kind payload) message next
adds_tlv split source body kind payload message d next whole some state is_message is_next =
    let more = split body kind payload whole some in
    record {
      whole = more.fault;
      state = state_more source body kind payload more ∙ ap (λ s. after s kind payload) state ∙ is_next;
      means = λ decoded means encodable. means_message source body decoded kind payload message more means
          (ap (λ s. content s kind payload) state ∙ is_message encodable);
    }

-- octets that mean nothing, then octets that mean a message
adds_after : (source : Addr) (body front more : List ℕ) (message : Message) (middle next : ParserState) → Sets source body front middle →
    Adds source (body ++ front) more message next → Adds source body (front ++ more) message next
adds_after source body front more message middle next sets adds =
    let same = append_assoc body front more in
    record {
      whole = ap fault_of (sym same) ∙ adds.whole;
      state = ap (state_after source) (sym same) ∙ adds.state;
      means = λ decoded means encodable.
          subst (λ octets. BodyMeans source octets (decoded ++ message ∷ [])) same (adds.means decoded (sets.silent decoded means) encodable);
    }

pub is_set_before : (before : Option (List ℕ)) (o : List ℕ) → is_set before o ≡ true → before ≡ Some o
is_set_before None o set = cc
is_set_before (Some before) o set = ap Some ((bytes_eq-Decides before o).0 set)

abbrev at_router : ParserState → Option (List ℕ) → ParserState
at_router d router = record d { router = router }

abbrev at_hop4 : ParserState → Option (List ℕ) → ParserState
at_hop4 d hop = record d { hop4 = hop }

abbrev at_hop6 : ParserState → Option (List ℕ) → ParserState
at_hop6 d hop = record d { hop6 = hop }

router_kept : (router : List ℕ) (d : ParserState) → d.router ≡ Some router → d ≡ with_router router d
router_kept router d same = ap (λ r. at_router d r) same

hop_kept : (hop : Addr) (d : ParserState) → hop_for hop d ≡ Some (octets hop) → d ≡ with_hop hop d
hop_kept (V4 o) d same = ap (λ h. at_hop4 d h) same
hop_kept (V6 o) d same = ap (λ h. at_hop6 d h) same

hop_set : (hop : Addr) (d : ParserState) → hop_for hop (with_hop hop d) ≡ Some (octets hop)
hop_set (V4 o) d = refl
hop_set (V6 o) d = refl

hop_and_router : (hop : Addr) (router : List ℕ) (d : ParserState) → with_router router (with_hop hop d) ≡ with_hop hop (with_router router d)
hop_and_router (V4 o) router d = refl
hop_and_router (V6 o) router d = refl

default_kept : (addr hop : Addr) (d : ParserState) → default_for addr (with_hop hop d) ≡ default_for addr d
default_kept (V4 o) (V4 hop) d = refl
default_kept (V4 o) (V6 hop) d = refl
default_kept (V6 o) (V4 hop) d = refl
default_kept (V6 o) (V6 hop) d = refl

named_default_kept : (addr : Addr) (router : List ℕ) (d : ParserState) → default_for addr (with_router router d) ≡ default_for addr d
named_default_kept (V4 o) router d = refl
named_default_kept (V6 o) router d = refl

-- A payload depends on the default prefix of its AE alone.
payload_kept : (d e : ParserState) (flags : ℕ) (prefix : PrefixValue) (interval seqno metric : ℕ) → default_for prefix.addr d ≡ default_for prefix.addr e →
    update_payload d flags prefix interval seqno metric ≡ update_payload e flags prefix interval seqno metric
payload_kept d e flags prefix interval seqno metric same =
    let w = prefix_written prefix in
    ap (λ default. update_fields (prefix_encoding prefix.addr) flags prefix.length (omitted default w) interval seqno metric (drop (omitted default w) w)) same

-- A Next Hop, if the next hop differs
hop_from : SplitsMore → (source : Addr) (body : List ℕ) (d : ParserState) (hop : Addr) (b : Bool) → is_set (hop_for hop d) (octets hop) ≡ b → fault_of body ≡ None →
    state_after source body ≡ d → IsAddr hop → Sets source body (if b then [] else spelled 7 (next_hop_payload hop)) (with_hop hop d)
hop_from split source body d hop true set whole state is =
    sets_nothing source body (with_hop hop d) whole (state ∙ hop_kept hop d (is_set_before (hop_for hop d) (octets hop) set))
hop_from split source body d hop false set whole state is =
    sets_state split source body 7 (next_hop_payload hop) d (with_hop hop d) whole (λ e. absurd (omega (arith, e))) state (next_hop_again d hop is) (after_next_hop d hop is)

hop_before : SplitsMore → (source : Addr) (body : List ℕ) (d : ParserState) (hop : Addr) → fault_of body ≡ None → state_after source body ≡ d → IsAddr hop →
    Sets source body (next_hop_before d hop) (with_hop hop d)
hop_before split source body d hop whole state is = hop_from split source body d hop (is_set (hop_for hop d) (octets hop)) refl whole state is

next_hop_kept : (hop : Addr) (router : List ℕ) (d : ParserState) → hop_for hop (with_router router d) ≡ hop_for hop d
next_hop_kept (V4 o) router d = refl
next_hop_kept (V6 o) router d = refl

router_stays : (addr : Addr) (d : ParserState) → (with_default addr d).router ≡ d.router
router_stays (V4 o) d = refl
router_stays (V6 o) d = refl

router_stays_with_hop : (hop : Addr) (d : ParserState) → (with_hop hop d).router ≡ d.router
router_stays_with_hop (V4 o) d = refl
router_stays_with_hop (V6 o) d = refl

-- an Update after TLVs that set its router-id
update_added : SplitsMore → (source : Addr) (body front : List ℕ) (d : ParserState) (prefix : PrefixValue) (router : List ℕ) (hop : Addr) (seqno metric interval : ℕ) →
    IsMessage (messages.Update prefix router hop seqno metric interval) → Sets source body front (with_router router d) →
    Adds source body (front ++ (next_hop_before d hop ++ spelled 8 (update_payload d 0x80 prefix interval seqno metric)))
    (messages.Update prefix router hop seqno metric interval) (state_with d (messages.Update prefix router hop seqno metric interval))
update_added split source body front d prefix router hop seqno metric interval is sets =
    let message = messages.Update prefix router hop seqno metric interval in
    let named = with_router router d in
    let ready = with_hop hop named in
    let next = state_with d message in
    let hopped = subst (λ before. Sets source (body ++ front) (if is_set before (octets hop) then [] else spelled 7 (next_hop_payload hop)) ready) (next_hop_kept hop router d)
    (hop_before split source (body ++ front) named hop sets.whole sets.state is.2) in
    let same = payload_kept ready d 0x80 prefix interval seqno metric (default_kept prefix.addr hop named ∙ named_default_kept prefix.addr router d) in
    let sets_next = after_update ready prefix.addr prefix.length interval seqno metric is.0 in
    let router_set = ap (λ (s : ParserState). s.router) sets_next ∙ router_stays prefix.addr ready ∙ router_stays_with_hop hop named in
    let added = adds_tlv split source ((body ++ front) ++ next_hop_before d hop) 8 (update_payload ready 0x80 prefix interval seqno metric) message ready next
    hopped.whole (λ e. absurd (omega (arith, e))) hopped.state
    (λ encodable. update_again ready prefix router hop 0x80 seqno metric interval is.0 is.1 encodable router_set (hop_set hop named)) sets_next in
    adds_after source body front (next_hop_before d hop ++ spelled 8 (update_payload d 0x80 prefix interval seqno metric)) message named next sets
    (adds_after source (body ++ front) (next_hop_before d hop) (spelled 8 (update_payload d 0x80 prefix interval seqno metric)) message ready next hopped
    (subst (λ payload. Adds source ((body ++ front) ++ next_hop_before d hop) (spelled 8 payload) message next) same added))

-- an Update that sets its router-id itself
naming_update_added : SplitsMore → (source : Addr) (body : List ℕ) (d : ParserState) (prefix : PrefixValue) (router : List ℕ) (hop : Addr) (seqno metric interval : ℕ) →
    IsMessage (messages.Update prefix router hop seqno metric interval) → given_router prefix.addr ≡ router → fault_of body ≡ None → state_after source body ≡ d →
    Adds source body (next_hop_before d hop ++ spelled 8 (update_payload d 0xc0 prefix interval seqno metric))
    (messages.Update prefix router hop seqno metric interval) (state_with d (messages.Update prefix router hop seqno metric interval))
naming_update_added split source body d prefix router hop seqno metric interval is given whole state =
    let message = messages.Update prefix router hop seqno metric interval in
    let ready = with_hop hop d in
    let next = state_with d message in
    let hopped = hop_before split source body d hop whole state is.2 in
    let same = payload_kept ready d 0xc0 prefix interval seqno metric (default_kept prefix.addr hop d) in
    let sets_next = after_naming_update ready prefix.addr prefix.length interval seqno metric is.0 ∙
    ap (λ r. with_default prefix.addr (with_router r ready)) given ∙ ap (λ s. with_default prefix.addr s) (hop_and_router hop router d) in
    let router_set = ap (λ (s : ParserState). s.router) sets_next ∙ router_stays prefix.addr (with_hop hop (with_router router d)) ∙ router_stays_with_hop hop (with_router router d) in
    let added = adds_tlv split source (body ++ next_hop_before d hop) 8 (update_payload ready 0xc0 prefix interval seqno metric) message ready next
    hopped.whole (λ e. absurd (omega (arith, e))) hopped.state
    (λ encodable. update_again ready prefix router hop 0xc0 seqno metric interval is.0 is.1 encodable router_set (hop_set hop d)) sets_next in
    adds_after source body (next_hop_before d hop) (spelled 8 (update_payload d 0xc0 prefix interval seqno metric)) message ready next hopped
    (subst (λ payload. Adds source (body ++ next_hop_before d hop) (spelled 8 payload) message next) same added)

update_from : SplitsMore → (source : Addr) (body : List ℕ) (d : ParserState) (prefix : PrefixValue) (router : List ℕ) (hop : Addr) (seqno metric interval : ℕ) →
    (set given : Bool) → is_set d.router router ≡ set → bytes_eq (given_router prefix.addr) router ≡ given →
    IsMessage (messages.Update prefix router hop seqno metric interval) → fault_of body ≡ None → state_after source body ≡ d →
    Adds source body (compressed d (messages.Update prefix router hop seqno metric interval))
    (messages.Update prefix router hop seqno metric interval) (state_with d (messages.Update prefix router hop seqno metric interval))
update_from split source body d prefix router hop seqno metric interval true given set gives is whole state =
    rw set (update_added split source body [] d prefix router hop seqno metric interval is
    (sets_nothing source body (with_router router d) whole (state ∙ router_kept router d (is_set_before d.router router set))))
update_from split source body d prefix router hop seqno metric interval false true set gives is whole state =
    rw (set, gives) (naming_update_added split source body d prefix router hop seqno metric interval is ((bytes_eq-Decides (given_router prefix.addr) router).0 gives) whole state)
update_from split source body d prefix router hop seqno metric interval false false set gives is whole state =
    rw (set, gives) (update_added split source body (spelled 6 (router_id_payload router)) d prefix router hop seqno metric interval is
    (sets_state split source body 6 (router_id_payload router) d (with_router router d) whole (λ e. absurd (omega (arith, e))) state
    (router_id_again d router is.1) (after_router_id d router is.1)))

-- the message of each kind
pub added : SplitsMore → (source : Addr) (body : List ℕ) (d : ParserState) (message : Message) → fault_of body ≡ None → state_after source body ≡ d → IsMessage message →
    Adds source body (compressed d message) message (state_with d message)
unfolding named_router named_hop4 named_hop6 update_address
added split source body d (messages.AckRequest opaque interval) whole state is =
    adds_tlv split source body 2 (payload_of (messages.AckRequest opaque interval)) (messages.AckRequest opaque interval) d d whole (λ e. absurd (omega (arith, e))) state
    (λ encodable. ack_request_again d opaque interval) refl
added split source body d (messages.Ack opaque) whole state is =
    adds_tlv split source body 3 (payload_of (messages.Ack opaque)) (messages.Ack opaque) d d whole (λ e. absurd (omega (arith, e))) state
    (λ encodable. ack_again d opaque) refl
added split source body d (messages.Hello unicast seqno interval) whole state is =
    adds_tlv split source body 4 (payload_of (messages.Hello unicast seqno interval)) (messages.Hello unicast seqno interval) d d whole (λ e. absurd (omega (arith, e))) state
    (λ encodable. hello_again d unicast seqno interval) refl
added split source body d (messages.Ihu to rxcost interval) whole state is =
    adds_tlv split source body 5 (payload_of (messages.Ihu to rxcost interval)) (messages.Ihu to rxcost interval) d d whole (λ e. absurd (omega (arith, e))) state
    (λ encodable. ihu_again d to rxcost interval is encodable) refl
added split source body d (messages.Update prefix router hop seqno metric interval) whole state is =
    update_from split source body d prefix router hop seqno metric interval (is_set d.router router) (bytes_eq (given_router prefix.addr) router) refl refl is whole state
added split source body d (messages.Retraction prefix interval) whole state is =
    adds_tlv split source body 8 (update_payload d 0x80 prefix interval 0 65535) (messages.Retraction prefix interval) d (with_default prefix.addr d) whole
    (λ e. absurd (omega (arith, e))) state (λ encodable. retraction_again d prefix interval is) (after_update d prefix.addr prefix.length interval 0 65535 is)
added split source body d (messages.RetractAll interval) whole state is =
    adds_tlv split source body 8 (payload_of (messages.RetractAll interval)) (messages.RetractAll interval) d d whole (λ e. absurd (omega (arith, e))) state
    (λ encodable. retract_all_again d interval) refl
added split source body d (messages.RouteRequest prefix) whole state is =
    adds_tlv split source body 9 (payload_of (messages.RouteRequest prefix)) (messages.RouteRequest prefix) d d whole (λ e. absurd (omega (arith, e))) state
    (λ encodable. route_request_again d prefix is) refl
added split source body d messages.DumpRequest whole state is =
    adds_tlv split source body 9 (payload_of messages.DumpRequest) messages.DumpRequest d d whole (λ e. absurd (omega (arith, e))) state
    (λ encodable. dump_request_again d) refl
added split source body d (messages.SeqnoRequest prefix router seqno hops) whole state is =
    adds_tlv split source body 10 (payload_of (messages.SeqnoRequest prefix router seqno hops)) (messages.SeqnoRequest prefix router seqno hops) d d whole
    (λ e. absurd (omega (arith, e))) state (λ encodable. seqno_request_again d prefix router seqno hops is.0 is.1 encodable) refl
