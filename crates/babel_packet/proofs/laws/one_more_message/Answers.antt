-- The messages of the body, and the meaning of the TLV after it.
use Rattle.std.proofs.Common.{◌≡◌, ◌≢◌, ℕ, None, List, reverse, length, ap, ◌∙◌, arith}
use Rattle.babel_tlv.specs.Split.{places_of, fault_of}
use Rattle.babel_packet.specs.declared.parser_state.ParserState.{ParserState}
use Rattle.babel_packet.specs.Payloads.{router_id_payload, next_hop_payload, kind_of, payload_of}
use Rattle.babel_packet.specs.BodyMeanings.{state_after, hop_for}
use Rattle.babel_packet.proofs.Growing.{Splits, means_message, means_state, state_more}
use Rattle.babel_packet.proofs.Written.{message_again, kind_is, router_id_again, router_id_is_set, next_hop_again, next_hop_is_set, next_hop_keeps}
use Rattle.babel_packet.proofs.Datagrams.{datagram_means}
use Rattle.babel_packet.proofs.laws.one_more_message.Goals as goal

splits : (c : goal.After-put_is_one_more) (body : List ℕ) (kind : ℕ) (payload : List ℕ) → fault_of body ≡ None → kind ≢ 0 → Splits body kind payload
splits c body kind payload whole some = record {
  places = c.put_is_one_more.ensures.places body kind payload whole some;
  fault = c.put_is_one_more.ensures.fault body kind payload whole;
}

pub returns-clause-message : goal.returns-clause-message
returns-clause-message c = λ source body decoded message says is sayable provides.
    means_message source body decoded (kind_of message) (payload_of message) message
    (splits c body (kind_of message) (payload_of message) says.whole (kind_is message)) says
    (message_again (state_after source body) message is sayable provides)

pub returns-clause-router_id : goal.returns-clause-router_id
returns-clause-router_id c = λ source body decoded router says is.
    let more = splits c body 6 (router_id_payload router) says.whole (λ e. absurd (omega arith)) in (
      means_state source body decoded 6 (router_id_payload router) more says (router_id_again (state_after source body) router is),
      ap (λ (d : ParserState). d.router) (state_more source body 6 (router_id_payload router) more) ∙ router_id_is_set source (length body) router (reverse (places_of body)) is,
    )

pub returns-clause-next_hop : goal.returns-clause-next_hop
returns-clause-next_hop c = λ source body decoded hop says is.
    let more = splits c body 7 (next_hop_payload hop) says.whole (λ e. absurd (omega arith)) in
    let now = state_more source body 7 (next_hop_payload hop) more in (
      means_state source body decoded 7 (next_hop_payload hop) more says (next_hop_again (state_after source body) hop is),
      ap (λ (d : ParserState). hop_for hop d) now ∙ next_hop_is_set source (length body) hop (reverse (places_of body)) is,
      ap (λ (d : ParserState). d.router) now ∙ next_hop_keeps source (length body) (next_hop_payload hop) (reverse (places_of body)),
    )

pub returns-clause-datagram : goal.returns-clause-datagram
returns-clause-datagram c = datagram_means
