-- A datagram that is being built.
use Rattle.std.specs.Prelude.{◌≡◌, ◌≤◌, ℕ, ◌+◌, List, [], ◌∷◌, Bool, ◌++◌, None, length, take, nat_le}
use Rattle.babel_value.specs.declared.addresses.Addr.{Addr}
use Rattle.babel_tlv.specs.Layout.{datagram_len}
use Rattle.babel_tlv.specs.Spelling.{spelled}
use Rattle.babel_tlv.specs.Split.{fault_of}
use Rattle.babel_message.specs.declared.messages.Message.{Message}
use Rattle.babel_message.specs.Layout.{magic, version, datagram_header_len}
use Rattle.babel_packet.specs.Payloads.{kind_of, payload_of}
use Rattle.babel_packet.specs.declared.parser_state.ParserState.{ParserState}
use Rattle.babel_packet.specs.BodyMeanings.{BodyMeans, state_after}
use Rattle.babel_packet.specs.Compressed.{compressed}

-- the address that it will be sent from, and the body so far (RFC 8966, section 4.2)
pub record Built : Type 0 where
  pub source : Addr
  pub body : List ℕ

-- it means these messages so far, in this order and nothing else (RFC 8966, sections 4.2 and 4.6)
abbrev pub HasEncoded : Built → List Message → Type 0
HasEncoded built messages = BodyMeans built.source built.body messages

-- the TLVs of a message in few octets, after the body so far (RFC 8966, section 4.5)
abbrev pub tlvs_of : Built → Message → List ℕ
tlvs_of built message = compressed (state_after built.source built.body) message

-- More octets fit after these, in a datagram that is built (profile).
abbrev pub is_room : List ℕ → List ℕ → Bool
is_room octets more = nat_le (length octets + length more) datagram_len

-- The TLVs of a message fit after the header and the body (profile).
abbrev pub fits : Built → Message → Bool
fits built message = nat_le (datagram_header_len + length built.body + length (tlvs_of built message)) datagram_len

-- the datagram with the TLVs of the message
abbrev pub added : Built → Message → Built
added built message = record { source = built.source; body = built.body ++ tlvs_of built message }

-- The header is there, its length still 0, and all of it fits into a datagram (RFC 8966, section 4.2; profile).
pub record IsBegun (octets : List ℕ) : Type 0 where
  pub header : take datagram_header_len octets ≡ magic ∷ version ∷ 0 ∷ 0 ∷ []
  pub short : length octets ≤ datagram_len

-- The TLVs of the body are whole, and this is what its reader has after them.
pub record IsKept (source : Addr) (body : List ℕ) (state : ParserState) : Type 0 where
  pub whole : fault_of body ≡ None
  pub kept : state ≡ state_after source body

-- a message as one TLV, which leaves nothing out (RFC 8966, section 4.6)
abbrev pub one_tlv : Message → List ℕ
one_tlv message = spelled (kind_of message) (payload_of message)
