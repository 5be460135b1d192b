-- What a speaker reports of its tables (RFC 8966, section 3.2).
use Rattle.std.specs.Prelude.{List, map}
use Rattle.babel_value.specs.declared.keys.Peer.{Peer}
use Rattle.babel_link.specs.declared.links.Link.{Link}
use Rattle.babel_state.specs.State.{State, cost_at, rxcost_at}
use Rattle.babel_speaker.specs.declared.inspecting.Neighbour.{Neighbour}

-- A neighbour with what is known of it, and both costs of its link as of now (RFC 8966, sections 3.2.4 and 3.4.3).
abbrev pub reported_neighbour : State → Peer × Link → Neighbour
reported_neighbour s e = record {
  peer = e.0;
  link = e.1;
  rxcost = rxcost_at s e.0;
  cost = cost_at s e.0;
}

-- The neighbours in ascending order: `neighbour` returns the one at a place.
unfoldable pub reported_neighbours : State → List Neighbour
reported_neighbours s = map (reported_neighbour s) s.neighbours
