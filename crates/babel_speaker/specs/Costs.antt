-- The costs of links, read from the interface table and the neighbour table (RFC 8966, section 3.4.3).
use Rattle.std.specs.Prelude.{ℕ, List, slice_get}
use Rattle.std.specs.Option.{option_map_or}
use Rattle.babel_value.specs.declared.keys.Peer.{Peer}
use Rattle.babel_value.specs.Metrics.{infinity}
use Rattle.babel_link.specs.Neighbours.{Links, cost_of}
use Rattle.babel_state.specs.declared.interfaces.InterfaceEntry.{InterfaceEntry}

-- What the link to a neighbour costs. `cost_at` of a state is this of its two tables.
abbrev pub link_cost : List InterfaceEntry → Links → Peer → ℕ
link_cost interfaces neighbours peer =
    cost_of peer (option_map_or (λ i. i.cost) (slice_get interfaces peer.iface) infinity) neighbours
