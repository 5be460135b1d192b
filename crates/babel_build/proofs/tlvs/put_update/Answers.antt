-- The octets after the omitted ones are those that are written.
use Rattle.std.proofs.Common.{◌≡◌, ℕ, ◌+◌, List, ◌∷◌, ◌-◌, ◌++◌, length, take, drop, ap, ◌∙◌}
use Rattle.std.proofs.lemmas.List.{take_rest}
use Rattle.babel_tlv.specs.Spelling.{spelled}
use Rattle.babel_message.specs.Layout as layout
use Rattle.babel_packet.specs.Payloads.{prefix_encoding, prefix_written}
use Rattle.babel_packet.specs.Compressed.{default_for, omitted, omitted_in, update_payload}
use Rattle.babel_build.specs.Built.{is_room}
use Rattle.babel_build.proofs.Shared.{front_by_length, update_in_parts}
use Rattle.babel_build.proofs.tlvs.put_update.Goals as goal
use Rattle.babel_build.proofs.tlvs.put_update.Goals.{After-put_start}

-- its start and the octets that are written
whole : (c : After-put_start) → c.update_start.result ++ take (length c.reached-octets.result.now - c.omitted-omitted.result) (drop c.omitted-omitted.result c.reached-octets.result.now)
    ≡ spelled layout.update (update_payload c.args.state.now c.args.flags c.args.prefix.now c.args.advertised.interval c.args.advertised.seqno c.args.advertised.metric)
whole c =
    let prefix = c.args.prefix.now in
    let octets = c.reached-octets.result.now in
    let n = c.omitted-omitted.result in
    let all : octets ≡ prefix_written prefix = cc in
    let same = front_by_length octets _ _ c.reached-octets.ensures.octets in
    let shared = c.omitted-omitted.ensures.value ∙ ap (λ front. omitted (default_for c.addr-addr.result c.args.state.now) front) same in
    let few : n ≡ omitted_in c.args.state.now prefix = cc in
    let rest : take (length octets - n) (drop n octets) ≡ drop n octets = take_rest octets n in
    let bits : c.length-bits.result ≡ prefix.length = cc in
    let encoding : c.prefix_encoding-encoding.result ≡ prefix_encoding prefix.addr = cc in
    let a = c.args.advertised in
    ap (λ (start : List ℕ). start ++ take (length octets - n) (drop n octets)) c.update_start.ensures
    ∙ ap (λ (fields : List ℕ). (layout.update ∷ (layout.update_len + length (take (length octets - n) (drop n octets))) ∷ fields) ++ take (length octets - n) (drop n octets)) c.update_fields-fields.ensures
    ∙ update_in_parts c.prefix_encoding-encoding.result c.args.flags c.length-bits.result n a.interval a.seqno a.metric (take (length octets - n) (drop n octets))
    ∙ rw (rest, all, few, bits, encoding)

pub returns-clause-fits : goal.returns-clause-fits
returns-clause-fits c = c.put_start.ensures.fits ∙ ap (λ (more : List ℕ). is_room c.args.datagram.now.items more) (whole c)

pub returns-clause-appended : goal.returns-clause-appended
returns-clause-appended c = rw (whole c) at c.put_start.ensures.appended
