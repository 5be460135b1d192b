-- The lines of the protocol, as babeld writes them (profile).
use Rattle.std.specs.Prelude.{ℕ, List, [], ◌∷◌, ◌++◌, Option, Some, None, false, codes, slice_get}
use Rattle.std.specs.Option.{option_map_or}
use Rattle.std.specs.Fmt.{decimal, digits}
use Rattle.babel_value.specs.Prefixes.{PrefixValue}
use Rattle.babel_value.specs.declared.addresses.Addr.TheVariants.{V4, V6}
use Rattle.babel_value.specs.declared.keys.Peer.{Peer}
use Rattle.babel_control.specs.declared.lines.Event.{Event}
use Rattle.babel_control.specs.declared.lines.Event.TheVariants.{Add, Change, Flush}
use Rattle.babel_control.specs.declared.rows.Installed.{Installed}
use Rattle.babel_control.specs.declared.rows.Installed.TheVariants.{Yes, No}
use Rattle.babel_control.specs.declared.rows.NeighbourRow.{NeighbourRow}
use Rattle.babel_control.specs.declared.rows.RouteRow.{RouteRow}
use Rattle.babel_control.specs.declared.views.DeviceAddresses.{DeviceAddresses}
use Rattle.babel_control.specs.declared.views.DeviceView.{DeviceView}
use Rattle.babel_control.specs.Limits.{line_feed}
use Rattle.babel_control.specs.Texts.{addr_text, prefix_text, all_sources, padded_hex, router_text}

-- The end of a line.
abbrev pub line_end : List ℕ
line_end = line_feed ∷ []

abbrev pub event_text : Event → List ℕ
event_text Add = codes "add"
event_text Change = codes "change"
event_text Flush = codes "flush"

abbrev pub installed_text : Installed → List ℕ
installed_text Yes = codes "yes"
installed_text No = codes "no"

-- The name of the device of an interface.
abbrev pub name_at : List DeviceView → ℕ → List ℕ
name_at devices iface = option_map_or (λ device. device.name.now) (slice_get devices iface) (codes "?")

-- The lines that a client gets first: the version of the protocol, of the program, the name of the
-- machine, and the router-id.
abbrev pub greeting : List ℕ → List ℕ → List ℕ → List ℕ
greeting version host router =
    codes "BABEL 1.0" ++ (line_end ++ (codes "version babel-" ++ (version ++ (line_end ++
    (codes "host " ++ (host ++ (line_end ++ (codes "my-id " ++ (router_text router ++
    (line_end ++ (codes "ok" ++ line_end)))))))))))

-- ---- devices

abbrev pub ipv6_field : Option (List ℕ) → List ℕ
ipv6_field None = []
ipv6_field (Some octets) = codes " ipv6 " ++ addr_text (V6 octets)

abbrev pub ipv4_field : Option (List ℕ) → List ℕ
ipv4_field None = []
ipv4_field (Some octets) = codes " ipv4 " ++ addr_text (V4 octets)

-- Whether the device is up, and its addresses.
abbrev pub state_field : Option DeviceAddresses → List ℕ
state_field None = codes " up false"
state_field (Some addresses) = codes " up true" ++ ipv6_field addresses.ipv6 ++ ipv4_field addresses.ipv4

abbrev pub interface_line : Event → DeviceView → List ℕ
interface_line event device =
    event_text event ++ (codes " interface " ++ (device.name.now ++
    (state_field device.addresses ++ line_end)))

-- ---- neighbours

-- What of the last Hellos came, the costs of both directions, and that of the link.
abbrev pub cost_fields : NeighbourRow → List ℕ
cost_fields row =
    codes " reach " ++ (padded_hex 4 row.reach ++ (codes " ureach " ++
    (padded_hex 4 row.ureach ++ (codes " rxcost " ++ (decimal row.rxcost ++
    (codes " txcost " ++ (decimal row.txcost ++ (codes " cost " ++ decimal row.cost))))))))

abbrev pub neighbour_line : Event → ℕ → NeighbourRow → List DeviceView → List ℕ
neighbour_line event id row devices =
    event_text event ++ (codes " neighbour " ++ (digits 16 false id ++
    (codes " address " ++ (addr_text row.peer.addr ++ (codes " if " ++
    (name_at devices row.peer.iface ++ (cost_fields row ++ line_end)))))))

-- ---- announced prefixes

abbrev pub xroute_line : Event → PrefixValue → List ℕ
xroute_line event prefix =
    event_text event ++ (codes " xroute " ++ (prefix_text prefix ++ (codes "-" ++
    (all_sources prefix.addr ++ (codes " prefix " ++ (prefix_text prefix ++ (codes " from " ++
    (all_sources prefix.addr ++ (codes " metric 0" ++ line_end)))))))))

-- ---- routes

-- The router-id, the metric over the link, and the one that the neighbour advertised.
abbrev pub metric_fields : RouteRow → List ℕ
metric_fields row =
    codes " id " ++ (router_text row.router ++ (codes " metric " ++ (decimal row.metric ++
    (codes " refmetric " ++ decimal row.advertised))))

-- What is advertised, whether it is selected, and the metrics.
unfoldable pub route_fields : RouteRow → List ℕ
route_fields row =
    codes " prefix " ++ (prefix_text row.prefix ++ (codes " from " ++
    (all_sources row.prefix.addr ++ (codes " installed " ++ (installed_text row.installed ++
    metric_fields row)))))

-- By which neighbour and device it goes.
unfoldable pub link_fields : Peer → List DeviceView → List ℕ
link_fields peer devices =
    codes " via " ++ (addr_text peer.addr ++ (codes " if " ++ name_at devices peer.iface))

abbrev pub route_line : Event → ℕ → RouteRow → List DeviceView → List ℕ
route_line event id row devices =
    event_text event ++ (codes " route " ++ (digits 16 false id ++ (route_fields row ++
    (link_fields row.peer devices ++ line_end))))

-- ---- expiries

-- When the next Hello of a neighbour is missed, in so many centiseconds.
abbrev pub neighbour_expiry_line : Peer → ℕ → List DeviceView → List ℕ
neighbour_expiry_line peer rest devices =
    codes "expires neighbour address " ++ (addr_text peer.addr ++ (codes " if " ++
    (name_at devices peer.iface ++ (codes " in " ++ (decimal rest ++ line_end)))))

-- When a route is too old, in so many centiseconds.
abbrev pub route_expiry_line : PrefixValue → Peer → ℕ → List DeviceView → List ℕ
route_expiry_line prefix peer rest devices =
    codes "expires route prefix " ++ (prefix_text prefix ++ (codes " via " ++
    (addr_text peer.addr ++ (codes " if " ++ (name_at devices peer.iface ++
    (codes " in " ++ (decimal rest ++ line_end)))))))
