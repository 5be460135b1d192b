-- The links of an interface that is down: what the system says of a link counts next to the Hellos that were heard (RFC 8966, section 3.4.3).
use Rattle.std.specs.Prelude.{ℕ, List, [], ◌∷◌, filter, nat_eq, None}
use Rattle.babel_value.specs.declared.keys.Peer.{Peer}
use Rattle.babel_value.specs.Metrics.{infinity}
use Rattle.babel_link.specs.Neighbours.{Links, peers_of}
use Rattle.babel_message.specs.declared.messages.Message.{Message}
use Rattle.babel_message.specs.declared.messages.Message.TheVariants as messages
use Rattle.babel_state.specs.State.{State}
use Rattle.babel_state.specs.Messages.{handle_message}

-- The neighbours on the interface, ascending.
abbrev pub peers_on : ℕ → Links → List Peer
peers_on iface neighbours = filter (λ peer. nat_eq peer.iface iface) (peers_of neighbours)

-- An IHU to all: its sender hears nobody (RFC 8966, section 4.6.6).
abbrev pub deaf : Message
deaf = messages.Ihu None infinity 1

-- The link to the neighbour costs infinity until an IHU reports another cost, as after its IHU that it hears nobody.
abbrev pub link_lost : ℕ → Peer → State → State
link_lost now peer s = (handle_message now peer deaf s).0

abbrev pub each_lost : ℕ → List Peer → State → State
each_lost now [] s = s
each_lost now (peer ∷ peers) s = each_lost now peers (link_lost now peer s)

unfoldable pub links_lost : ℕ → ℕ → State → State
links_lost now iface s = each_lost now (peers_on iface s.neighbours) s
