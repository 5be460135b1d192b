-- The messages of a body and of a datagram (RFC 8966, sections 4.2 and 4.5).
use Rattle.std.specs.Prelude.{◌≡◌, ℕ, List, [], ◌∷◌, ◌++◌, reverse, length, Bool, true, false, Option, Some, None, Ok}
use Rattle.std.specs.List.{list_all}
use Rattle.babel_value.specs.declared.addresses.Addr.{Addr}
use Rattle.babel_value.specs.declared.addresses.Addr.TheVariants.{V4, V6}
use Rattle.babel_tlv.specs.Split.{places_of, fault_of}
use Rattle.babel_message.specs.Layout as layout
use Rattle.babel_message.specs.declared.messages.Message.{Message}
use Rattle.babel_message.specs.declared.messages.Message.TheVariants as messages
use Rattle.babel_message.specs.declared.placements.Content.{Content}
use Rattle.babel_message.specs.declared.placements.Content.TheVariants as contents
use Rattle.babel_message.specs.declared.placements.Placed.{Placed}
use Rattle.babel_packet.specs.declared.parser_state.ParserState.{ParserState}
use Rattle.babel_packet.specs.LookBack.{before}
use Rattle.babel_packet.specs.Meaning.{placed_from, messages_of, meaning}
use Rattle.babel_packet.specs.Payloads.{two, octets}

-- a place that isn't ignored
abbrev pub is_heeded : Content → Bool
is_heeded (contents.Ignored reason) = false
is_heeded content = true

abbrev pub are_heeded : List Placed → Bool
are_heeded placed = list_all (λ (p : Placed). is_heeded p.content) placed

-- the content of each place of a body, and the parser state after them
abbrev pub placed_of : Addr → List ℕ → List Placed
placed_of source body = placed_from source [] (places_of body)

abbrev pub state_after : Addr → List ℕ → ParserState
state_after source body = before source (reverse (places_of body))

-- A body from this source address means these messages: its TLVs are whole, the messages are theirs, in order, and none of its places is
-- ignored.
pub record BodyMeans (source : Addr) (body : List ℕ) (messages : List Message) : Type 0 where
  pub whole : fault_of body ≡ None
  pub decoded : messages_of (placed_of source body) ≡ messages
  pub heeded : are_heeded (placed_of source body) ≡ true

-- A datagram from this source address means these messages: it isn't refused, the messages are those of its places, in order, and none of its
-- places is ignored.
pub record Means (bytes : List ℕ) (source : Addr) (messages : List Message) : Type 0 where
  pub placed : List Placed
  pub read : meaning bytes source ≡ Ok placed
  pub decoded : messages_of placed ≡ messages
  pub heeded : are_heeded placed ≡ true

-- the datagram of a body: magic number, version and the length of the body precede it (section 4.2)
abbrev pub datagram : List ℕ → List ℕ
datagram body = layout.magic ∷ layout.version ∷ (two (length body) ++ body)

-- the next hop of the parser state for the family of this address
abbrev pub hop_for : Addr → ParserState → Option (List ℕ)
hop_for (V4 o) d = d.hop4
hop_for (V6 o) d = d.hop6

-- The parser state has the router-id and the next hop of an Update. Other messages take nothing from it.
abbrev pub Provides : ParserState → Message → Type 0
Provides d (messages.Update prefix router next_hop seqno metric interval) =
    (d.router ≡ Some router) × (hop_for next_hop d ≡ Some (octets next_hop))
Provides d message = Unit {0}
