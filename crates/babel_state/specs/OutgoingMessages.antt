-- The message of an item at the moment at which it is sent (profile; RFC 8966, sections 3.4, 3.7 and 3.8).
use Rattle.std.specs.Prelude.{ℕ, ◌*◌, Bool, false, ◌&&◌, ◌==◌, List, length, Option, Some, None, is_none, if◌then◌else◌}
use Rattle.std.specs.Option.{option_map_or}
use Rattle.std.specs.FinMap.{find}
use Rattle.babel_value.specs.declared.addresses.Addr.{Addr}
use Rattle.babel_value.specs.declared.distances.Distance.{Distance}
use Rattle.babel_value.specs.declared.keys.Peer.{Peer}
use Rattle.babel_value.specs.declared.keys.Source.{Source}
use Rattle.babel_value.specs.Addresses.{family_of}
use Rattle.babel_value.specs.Orders.{source_cmp}
use Rattle.babel_value.specs.Prefixes.{PrefixValue}
use Rattle.babel_message.specs.declared.messages.Message.TheVariants as messages
use Rattle.babel_choice.specs.declared.entries.Selection.{Selection}
use Rattle.babel_choice.specs.Routes.{key_of}
use Rattle.babel_choice.specs.Choices.{route_metric}
use Rattle.babel_sources.specs.Sources.{Sources}
use Rattle.babel_sources.specs.Rooms.{most_sources}
use Rattle.babel_state.specs.declared.interfaces.InterfaceEntry.{InterfaceEntry}
use Rattle.babel_state.specs.declared.items.Item.{Item}
use Rattle.babel_state.specs.declared.items.Item.TheVariants as items
use Rattle.babel_state.specs.declared.items.Outgoing.{Outgoing}
use Rattle.babel_state.specs.declared.items.Outgoing.TheVariants as outgoings
use Rattle.babel_state.specs.declared.items.Target.{Target}
use Rattle.babel_state.specs.State.{State, interface_at, announces, is_neighbour, cost_at, rxcost_at, selected_at}
use Rattle.babel_state.specs.Addresses.{address_of}

abbrev pub to_all : ℕ → Target
to_all iface = record { iface = iface; to = None }

abbrev pub to_peer : Peer → Target
to_peer peer = record { iface = peer.iface; to = Some peer.addr }

-- The next Hello of the interface (RFC 8966, section 3.4.1).
abbrev pub outgoing_hello : ℕ → InterfaceEntry → Outgoing
outgoing_hello iface i = outgoings.Message (to_all iface) (messages.Hello false i.hello_seqno i.hello)

-- How well the neighbour is heard (RFC 8966, section 3.4.2).
abbrev pub outgoing_ihu : Peer → State → InterfaceEntry → Outgoing
outgoing_ihu peer s i = outgoings.Message (to_all peer.iface) (messages.Ihu (Some peer.addr) (rxcost_at s peer) (3 * i.hello))

-- ---- updates (RFC 8966, section 3.7)

-- What the speaker advertises of a prefix: a router-id, a seqno and a metric.
pub record Advertisement : Type 0 where
  pub router : List ℕ
  pub distance : Distance

-- Of an own prefix: the own router-id and seqno, with metric 0 (RFC 8966, section 3.7).
abbrev pub own_advertisement : State → Advertisement
own_advertisement s = record { router = s.router; distance = record { seqno = s.seqno; metric = 0 } }

-- Of a selected route: its router-id and seqno, with its metric here.
abbrev pub route_advertisement : PrefixValue → State → Selection → Advertisement
route_advertisement prefix s route = record {
  router = route.entry.router;
  distance = record {
    seqno = route.entry.distance.seqno;
    metric = route_metric (cost_at s) (key_of prefix route.peer, route.entry);
  };
}

abbrev pub advertisement : PrefixValue → State → Option Advertisement
advertisement prefix s =
    if announces prefix s then Some (own_advertisement s)
    else option_map_or (λ route. Some (route_advertisement prefix s route)) (selected_at prefix s) None

-- The source is new to the source table, and the table has no room.
abbrev pub is_source_too_many : Source → Sources → Bool
is_source_too_many source sources = is_none (find source_cmp source sources) && (length sources == most_sources)

-- An Update names the interface's own address of the prefix's family as next hop. It needs a place in the source table (RFC 8966, section 3.7.3).
abbrev pub outgoing_finite : Target → PrefixValue → Advertisement → InterfaceEntry → State → Option Addr → Outgoing
outgoing_finite target prefix t i s None = outgoings.Nothing
outgoing_finite target prefix t i s (Some hop) =
    if is_source_too_many (record { prefix = prefix; router = t.router }) s.sources then outgoings.LeftOut
    else outgoings.Message target (messages.Update prefix t.router hop t.distance.seqno t.distance.metric (4 * i.hello))

-- A retraction, if there is nothing to advertise. It needs neither address nor place.
abbrev pub outgoing_advertisement : Target → PrefixValue → State → InterfaceEntry → Option Advertisement → Outgoing
outgoing_advertisement target prefix s i None = outgoings.Message target (messages.Retraction prefix (4 * i.hello))
outgoing_advertisement target prefix s i (Some t) = outgoing_finite target prefix t i s (address_of (family_of prefix.addr) i)

abbrev pub outgoing_update : Target → PrefixValue → State → InterfaceEntry → Outgoing
outgoing_update target prefix s i = outgoing_advertisement target prefix s i (advertisement prefix s)

-- ---- each item

-- An item for an interface that doesn't exist means nothing.
abbrev pub outgoing_over : (InterfaceEntry → Outgoing) → Option InterfaceEntry → Outgoing
outgoing_over f interface = option_map_or f interface outgoings.Nothing

unfoldable pub outgoing : State → Item → Outgoing
outgoing s (items.Hello iface) = outgoing_over (outgoing_hello iface) (interface_at iface s)
outgoing s (items.Ihu peer) =
    if is_neighbour peer s then outgoing_over (outgoing_ihu peer s) (interface_at peer.iface s) else outgoings.Nothing
outgoing s (items.Update target prefix) = outgoing_over (outgoing_update target prefix s) (interface_at target.iface s)
outgoing s (items.Request peer source seqno hops) =
    outgoing_over (λ i. outgoings.Message (to_peer peer) (messages.SeqnoRequest source.prefix source.router seqno hops)) (interface_at peer.iface s)
outgoing s (items.Ack peer opaque) =
    outgoing_over (λ i. outgoings.Message (to_peer peer) (messages.Ack opaque)) (interface_at peer.iface s)
