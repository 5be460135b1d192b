-- Messages, reasons, places and codes of refusals as text (profile). Numbers are decimal.
use Rattle.std.specs.Prelude.{ℕ, List, ◌++◌, true, false, Option, Some, None, codes}
use Rattle.std.specs.Fmt.{decimal}
use Rattle.babel_value.specs.declared.addresses.Addr.{Addr}
use Rattle.babel_value.specs.Prefixes.{PrefixValue}
use Rattle.babel_value.specs.Texts.{addr_text, prefix_text, router_text}
use Rattle.babel_message.specs.declared.messages.Message.{Message}
use Rattle.babel_message.specs.declared.messages.Message.TheVariants as messages
use Rattle.babel_message.specs.declared.placements.Reason.{Reason}
use Rattle.babel_message.specs.declared.placements.Reason.TheVariants as reasons
use Rattle.babel_message.specs.declared.placements.Content.{Content}
use Rattle.babel_message.specs.declared.placements.Content.TheVariants as contents
use Rattle.babel_message.specs.declared.placements.Placed.{Placed}
use Rattle.babel_message.specs.declared.errors.Refusal.{Refusal}
use Rattle.babel_message.specs.declared.errors.Refusal.TheVariants as refusals

abbrev pub receiver_text : Option Addr → List ℕ
receiver_text None = codes "any"
receiver_text (Some addr) = addr_text addr

-- the prefix, router-id and next hop of an Update
abbrev pub route_text : PrefixValue → List ℕ → Addr → List ℕ
route_text prefix router next_hop = prefix_text prefix ++ codes " router " ++ router_text router ++ codes " next-hop " ++ addr_text next_hop

-- a message's name and fields
abbrev pub message_text : Message → List ℕ
message_text (messages.AckRequest opaque interval) = codes "ack-request opaque " ++ decimal opaque ++ codes " interval " ++ decimal interval
message_text (messages.Ack opaque) = codes "ack opaque " ++ decimal opaque
message_text (messages.Hello true seqno interval) = codes "hello unicast seqno " ++ decimal seqno ++ codes " interval " ++ decimal interval
message_text (messages.Hello false seqno interval) = codes "hello multicast seqno " ++ decimal seqno ++ codes " interval " ++ decimal interval
message_text (messages.Ihu to rxcost interval) =
    codes "ihu to " ++ receiver_text to ++ codes " rxcost " ++ decimal rxcost ++ codes " interval " ++ decimal interval
message_text (messages.Update prefix router next_hop seqno metric interval) =
    codes "update " ++ route_text prefix router next_hop ++ codes " seqno " ++ decimal seqno ++ codes " metric " ++ decimal metric ++
    codes " interval " ++ decimal interval
message_text (messages.Retraction prefix interval) = codes "retract " ++ prefix_text prefix ++ codes " interval " ++ decimal interval
message_text (messages.RetractAll interval) = codes "retract-all interval " ++ decimal interval
message_text (messages.RouteRequest prefix) = codes "route-request " ++ prefix_text prefix
message_text messages.DumpRequest = codes "dump-request"
message_text (messages.SeqnoRequest prefix router seqno hops) =
    codes "seqno-request " ++ prefix_text prefix ++ codes " router " ++ router_text router ++ codes " seqno " ++ decimal seqno ++ codes " hops " ++ decimal hops

-- a refusal's code, and the offset of the TLV that runs past the body
abbrev pub refusal_code : Refusal → List ℕ
refusal_code refusals.Short = codes "P1"
refusal_code refusals.Magic = codes "P2"
refusal_code refusals.Version = codes "P3"
refusal_code refusals.BodyLength = codes "P4"
refusal_code (refusals.Tlv offset) = codes "P5 " ++ decimal offset
refusal_code refusals.Memory = codes "P6"

-- a reason's code, and the type of the sub-TLV that isn't understood
abbrev pub reason_text : Reason → List ℕ
reason_text reasons.Padding = codes "I1"
reason_text reasons.UnknownType = codes "I2"
reason_text reasons.Unreadable = codes "I3"
reason_text reasons.TailOverrun = codes "I4"
reason_text (reasons.MandatorySubTlv kind) = codes "I5 " ++ decimal kind
reason_text reasons.UnknownEncoding = codes "I6"
reason_text reasons.NoDefaultPrefix = codes "I7"
reason_text reasons.NoRouterId = codes "I8"
reason_text reasons.NoNextHop = codes "I9"
reason_text reasons.ZeroInterval = codes "I10"
reason_text reasons.ZeroRxcost = codes "I11"
reason_text reasons.Wildcard = codes "I12"
reason_text reasons.NoHops = codes "I13"

abbrev pub content_text : Content → List ℕ
content_text (contents.Message message) = message_text message
content_text contents.State = codes "state"
content_text (contents.Ignored reason) = codes "ignored " ++ reason_text reason

-- a place's offset and content
abbrev pub placed_text : Placed → List ℕ
placed_text placed = decimal placed.offset ++ codes " " ++ content_text placed.content
