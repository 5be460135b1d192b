-- What a datagram means (RFC 8966, sections 4.2 and 4.6).
use Rattle.std.specs.Prelude.{◌≡◌, ℕ, ◌+◌, List, [], ◌∷◌, Option, Some, None, Result, Ok, Err, IsOk, length, slice_range, nat_eq, nat_le, nat_lt, not, ◌⊎◌, if◌then◌else◌}
use Rattle.babel_value.specs.declared.addresses.Addr.{Addr}
use Rattle.babel_tlv.specs.Place.{Place}
use Rattle.babel_tlv.specs.Split.{places_of, fault_of}
use Rattle.babel_message.specs.Layout as layout
use Rattle.babel_message.specs.declared.messages.Message.{Message}
use Rattle.babel_message.specs.declared.placements.Content.{Content}
use Rattle.babel_message.specs.declared.placements.Content.TheVariants as contents
use Rattle.babel_message.specs.declared.placements.Reason.TheVariants as reasons
use Rattle.babel_message.specs.declared.placements.Placed.{Placed}
use Rattle.babel_message.specs.declared.errors.Refusal.{Refusal}
use Rattle.babel_message.specs.declared.errors.Refusal.TheVariants as refusals
use Rattle.babel_packet.specs.Numbers.{octet, word}
use Rattle.babel_packet.specs.Contents.{ignored}
use Rattle.babel_packet.specs.Acks.{ack_request, ack}
use Rattle.babel_packet.specs.Hellos.{hello}
use Rattle.babel_packet.specs.Ihus.{ihu}
use Rattle.babel_packet.specs.RouterIds.{router_id}
use Rattle.babel_packet.specs.NextHops.{next_hop}
use Rattle.babel_packet.specs.declared.parser_state.ParserState.{ParserState}
use Rattle.babel_packet.specs.LookBack.{before}
use Rattle.babel_packet.specs.Updates.{update}
use Rattle.babel_packet.specs.Requests.{route_request, seqno_request}

-- the content of a TLV in this parser state
unfoldable pub content : ParserState → ℕ → List ℕ → Content
content d kind p =
    if nat_le kind layout.pad_n then ignored reasons.Padding
    else if nat_eq kind layout.ack_request then ack_request p
    else if nat_eq kind layout.ack then ack p
    else if nat_eq kind layout.hello then hello p
    else if nat_eq kind layout.ihu then ihu p
    else if nat_eq kind layout.router_id then router_id p
    else if nat_eq kind layout.next_hop then next_hop p
    else if nat_eq kind layout.update then update d p
    else if nat_eq kind layout.route_request then route_request p
    else if nat_eq kind layout.seqno_request then seqno_request p
    else ignored reasons.UnknownType

-- each place after those before it, the latest of them first; offsets count from the datagram's first octet
abbrev pub placed_from : Addr → List Place → List Place → List Placed
placed_from source earlier [] = []
placed_from source earlier (t ∷ ts) =
    (record { offset = layout.datagram_header_len + t.offset; content = content (before source earlier) t.kind t.payload }) ∷ placed_from source (t ∷ earlier) ts

-- the body, which follows the header; the trailer after it isn't read
abbrev pub body_of : List ℕ → List ℕ
body_of bytes = slice_range bytes layout.datagram_header_len (layout.datagram_header_len + word bytes layout.body_len_at)

abbrev pub body_meaning : Addr → Option ℕ → List Place → Result (List Placed) Refusal
body_meaning source (Some offset) ts = Err (refusals.Tlv (layout.datagram_header_len + offset))
body_meaning source None ts = Ok (placed_from source [] ts)

-- the refusal for the header: the first whose cause holds
abbrev pub header_refusal : List ℕ → Option Refusal
header_refusal bytes =
    if nat_lt (length bytes) layout.datagram_header_len then Some refusals.Short
    else if not (nat_eq (octet bytes layout.magic_at) layout.magic) then Some refusals.Magic
    else if not (nat_eq (octet bytes layout.version_at) layout.version) then Some refusals.Version
    else if nat_lt (length bytes) (layout.datagram_header_len + word bytes layout.body_len_at) then Some refusals.BodyLength
    else None

abbrev pub unless_refused : Option Refusal → Result (List Placed) Refusal → Result (List Placed) Refusal
unless_refused None read = read
unless_refused (Some refusal) read = Err refusal

-- the meaning of a datagram from this source address: its refusal, or the content of each of its places
unfoldable pub meaning : List ℕ → Addr → Result (List Placed) Refusal
meaning bytes source =
    unless_refused (header_refusal bytes) (body_meaning source (fault_of (body_of bytes)) (places_of (body_of bytes)))

-- A refusal is the datagram's own; or the call ran out of memory, and the datagram itself isn't refused.
abbrev pub Refuses : Refusal → Result (List Placed) Refusal → Type 0
Refuses refusal read = (read ≡ Err refusal) ⊎ ((refusal ≡ refusals.Memory) × IsOk read)

abbrev pub content_messages : Content → List Message → List Message
content_messages (contents.Message message) messages = message ∷ messages
content_messages content messages = messages

-- the messages among places: those without state and without what is ignored
abbrev pub messages_of : List Placed → List Message
messages_of [] = []
messages_of (x ∷ xs) = content_messages x.content (messages_of xs)
