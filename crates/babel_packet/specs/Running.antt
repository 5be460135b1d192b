-- The parser state that the code keeps in place of looking back (RFC 8966, section 4.5; profile). No public clause has it.
use Rattle.std.specs.Prelude.{ℕ, ◌+◌, List, [], ◌∷◌}
use Rattle.std.specs.Option.{option_or}
use Rattle.babel_tlv.specs.Place.{Place}
use Rattle.babel_message.specs.Layout as layout
use Rattle.babel_message.specs.declared.placements.Placed.{Placed}
use Rattle.babel_packet.specs.NextHops.{named_hop4, named_hop6}
use Rattle.babel_packet.specs.declared.parser_state.ParserState.{ParserState}
use Rattle.babel_packet.specs.LookBack.{default_after, router_after}
use Rattle.babel_packet.specs.Meaning.{content}

-- the parser state after a TLV
abbrev pub after : ParserState → ℕ → List ℕ → ParserState
after d kind p = record {
  default4 = default_after layout.ae_ipv4 layout.ipv4_len d.default4 kind p;
  default6 = default_after layout.ae_ipv6 layout.ipv6_len d.default6 kind p;
  router = router_after d.default4 d.default6 d.router kind p;
  hop4 = option_or (named_hop4 kind p) d.hop4;
  hop6 = option_or (named_hop6 kind p) d.hop6;
}

-- the places, read from left to right
abbrev pub placed_with : ParserState → List Place → List Placed
placed_with d [] = []
placed_with d (t ∷ ts) =
    (record { offset = layout.datagram_header_len + t.offset; content = content d t.kind t.payload }) ∷ placed_with (after d t.kind t.payload) ts
