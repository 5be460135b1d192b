-- The first state of a speaker, and what its other calls make of a state (profile).
use Rattle.std.specs.Prelude.{ℕ, Bool, false, ◌==◌, List, [], map, length, Option, Some, None, if◌then◌else◌}
use Rattle.std.specs.Option.{option_map}
use Rattle.std.specs.FinMap.{put}
use Rattle.babel_value.specs.declared.keys.Peer.{Peer}
use Rattle.babel_value.specs.Orders.{prefix_cmp}
use Rattle.babel_value.specs.Prefixes.{PrefixValue}
use Rattle.babel_choice.specs.declared.entries.Entry.{Entry}
use Rattle.babel_choice.specs.declared.entries.Selection.{Selection}
use Rattle.babel_table.specs.Entries.{without}
use Rattle.babel_choice.specs.Routes.{Route, key_of}
use Rattle.babel_choice.specs.Choices.{routes_of, route_metric}
use Rattle.babel_state.specs.declared.configs.Config.{Config}
use Rattle.babel_state.specs.declared.configs.Interface.{Interface}
use Rattle.babel_state.specs.declared.errors.SetCostFault.{SetCostFault}
use Rattle.babel_state.specs.declared.errors.SetCostFault.TheVariants.{NoInterface, CostOutOfRange}
use Rattle.babel_state.specs.declared.interfaces.InterfaceEntry.{InterfaceEntry}
use Rattle.babel_state.specs.declared.selected.Choice.{Choice}
use Rattle.babel_state.specs.declared.selected.Selected.{Selected}
use Rattle.babel_state.specs.Limits.{greatest_cost, most_prefixes}
use Rattle.babel_state.specs.Configs.{is_up_to}
use Rattle.babel_state.specs.State.{State, interface_at, with_interface, announces, cost_at, selected_at, gathered}
use Rattle.babel_state.specs.Reselection.{queue, updates_to_all, select}

-- ---- a new speaker

-- An interface as it is configured: its first Hello has seqno 0, and no timer is set.
abbrev pub new_interface : Interface → InterfaceEntry
new_interface i = record {
  transport = i.transport;
  ipv4 = i.ipv4;
  ipv6 = i.ipv6;
  cost = i.cost;
  hello = i.hello;
  hello_seqno = 0;
  hello_due = None;
  ihu_due = None;
  update_due = None;
}

-- It announces the configured prefixes, has nothing queued, and knows no neighbour.
unfoldable pub first_state : Config → State
first_state c = record {
  router = c.router_id;
  collects = c.collect;
  seqno = c.seqno;
  raises = 0;
  announced = gathered c.prefixes.items [];
  interfaces = map new_interface c.interfaces.items;
  neighbours = [];
  sources = [];
  routes = record { entries = []; selections = [] };
  requests = [];
  pending = record { items = []; dropped = 0 };
  left_out = 0;
}

-- ---- `set_cost`

-- Why a nominal cost isn't set: the first cause that holds.
abbrev pub set_cost_fault_on : ℕ → Option InterfaceEntry → Option SetCostFault
set_cost_fault_on cost None = Some NoInterface
set_cost_fault_on cost (Some i) = if is_up_to greatest_cost cost then None else Some CostOutOfRange

abbrev pub set_cost_fault : ℕ → ℕ → State → Option SetCostFault
set_cost_fault iface cost s = set_cost_fault_on cost (interface_at iface s)

-- The interface's nominal cost from now on. No route is selected again: a link that is up costs what its neighbour reported.
unfoldable pub cost_set : ℕ → ℕ → State → State
cost_set iface cost s = with_interface iface (λ i. record i { cost = cost }) s

-- ---- `announce` and `withdraw`

-- The route is selected again, and an Update is queued for all, once, whether that changed the selection or not.
abbrev pub select_and_advertise : PrefixValue → State → State
select_and_advertise prefix s = queue (updates_to_all prefix s) (select prefix s)

-- The prefix is new, and 64 others are announced.
abbrev pub is_prefix_too_many : PrefixValue → State → Bool
is_prefix_too_many prefix s = if announces prefix s then false else length s.announced == most_prefixes

unfoldable pub announced_also : PrefixValue → State → State
announced_also prefix s =
    if announces prefix s then s
    else select_and_advertise prefix (record s { announced = put prefix_cmp prefix tt s.announced })

-- Of a prefix that is announced.
unfoldable pub withdrawn : PrefixValue → State → State
withdrawn prefix s =
    select_and_advertise prefix (record s { announced = without prefix_cmp prefix s.announced })

-- ---- what is reported of the routes

-- The selected route of a prefix, with its metric by the present cost.
abbrev pub reported_selected : PrefixValue → State → Selection → Selected
reported_selected prefix s route = record {
  peer = route.peer;
  next_hop = route.entry.next_hop;
  router = route.entry.router;
  distance = route.entry.distance;
  metric = route_metric (cost_at s) (key_of prefix route.peer, route.entry);
}

unfoldable pub selected_route : PrefixValue → State → Option Selected
selected_route prefix s = option_map (reported_selected prefix s) (selected_at prefix s)

-- What a log names of it.
abbrev pub choice_of : Selected → Choice
choice_of s = record { peer = s.peer; metric = s.metric; router = s.router; seqno = s.distance.seqno }

-- An entry, with its neighbour and the cost of the link to it.
abbrev pub reported_entry : State → Route → Peer × Entry × ℕ
reported_entry s route = (route.0.peer, route.1, cost_at s route.0.peer)

-- The prefix's entries, ascending by neighbour: `entry` returns the one at an index.
unfoldable pub reported_entries : PrefixValue → State → List (Peer × Entry × ℕ)
reported_entries prefix s = map (reported_entry s) (routes_of prefix s.routes.entries)
