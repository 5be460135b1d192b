-- What holds of a speaker's state after every call (profile).
use Rattle.std.specs.Prelude.{◌≡◌, ℕ, ◌<◌, ◌≤◌, ◌*◌, ◌^◌, true, false, List, All, length, IsSome, None, Some, ⊤}
use Rattle.std.specs.FinMap.{is_sorted}
use Rattle.babel_value.specs.declared.keys.Peer.{Peer}
use Rattle.babel_value.specs.declared.keys.Source.{Source}
use Rattle.babel_value.specs.Orders.{prefix_cmp, peer_cmp, source_cmp}
use Rattle.babel_value.specs.Prefixes.{PrefixValue}
use Rattle.babel_value.specs.Metrics.{infinity}
use Rattle.babel_value.specs.Seqnos.{seqno_modulus}
use Rattle.babel_link.specs.declared.links.Link.{Link}
use Rattle.babel_link.specs.Neighbours.{max_neighbours, Links}
use Rattle.babel_message.specs.declared.messages.Message.{Message}
use Rattle.babel_packet.specs.Encodable.{is_encodable}
use Rattle.babel_choice.specs.declared.entries.Selection.{Selection}
use Rattle.babel_sources.specs.declared.sources.SourceEntry.{SourceEntry}
use Rattle.babel_choice.specs.RouteKeys.{route_cmp}
use Rattle.babel_route.specs.Selections.{RoutesValue}
use Rattle.babel_sources.specs.Sources.{Sources}
use Rattle.babel_sources.specs.Rooms.{most_sources}
use Rattle.babel_state.specs.declared.configs.Config.{Config}
use Rattle.babel_state.specs.declared.interfaces.InterfaceEntry.{InterfaceEntry}
use Rattle.babel_state.specs.declared.items.Item.{Item}
use Rattle.babel_state.specs.declared.items.Item.TheVariants as items
use Rattle.babel_state.specs.declared.requests.PendingRequest.{PendingRequest}
use Rattle.babel_state.specs.Limits.{most_interfaces, most_prefixes, most_requests, most_pending, greatest_cost, longest_hello, last_wait}
use Rattle.babel_state.specs.Configs.{config_fault}
use Rattle.babel_state.specs.Queueing.{Pending}
use Rattle.babel_state.specs.PendingRequests.{PendingRequests}
use Rattle.babel_state.specs.State.{State, PrefixSet, entry_at, selected_at}
use Rattle.babel_state.specs.Addresses.{transport_of}
use Rattle.babel_state.specs.Messages.{handle_message}
use Rattle.babel_state.specs.LostLinks.{links_lost}
use Rattle.babel_state.specs.Ticks.{ticked}
use Rattle.babel_state.specs.NextDatagram.{Fits, next_datagram}
use Rattle.babel_state.specs.Grouping.{items_grouped}
use Rattle.babel_state.specs.Requesting.{seqnos_requested}
use Rattle.babel_state.specs.SeqnoRequests.{raised}
use Rattle.babel_state.specs.Calls.{first_state, set_cost_fault, cost_set, is_prefix_too_many, announced_also, withdrawn}
use Rattle.babel_state.specs.CurrentSelections.{is_selection_candidate, IsCurrentAt, KeepsCurrent, KeepsSelections, AreInHalf}
use Rattle.babel_state.specs.KeptRoutes.{KeepsRoutes}

-- ---- each table

-- An interface's cost is finite and positive, its Hello interval is at most 40 seconds, and it has an address of its transport's family.
pub record IsUsable (i : InterfaceEntry) : Type 0 where
  pub cost : (1 ≤ i.cost) × (i.cost ≤ greatest_cost)
  pub hello : (1 ≤ i.hello) × (i.hello ≤ longest_hello)
  pub transport : IsSome (transport_of i)

pub record AreInterfaces (interfaces : List InterfaceEntry) : Type 0 where
  pub few : length interfaces ≤ most_interfaces
  pub usable : All IsUsable interfaces

-- A link costs at least 1 (RFC 8966, section 3.5.2: costs are positive).
abbrev pub HasCost : Peer × Link → Type 0
HasCost e = 1 ≤ e.1.txcost

pub record AreNeighbours (neighbours : Links) : Type 0 where
  pub few : length neighbours ≤ max_neighbours
  pub costs : All HasCost neighbours
  pub in_order : is_sorted peer_cmp neighbours ≡ true

pub record AreAnnounced (announced : PrefixSet) : Type 0 where
  pub few : length announced ≤ most_prefixes
  pub in_order : is_sorted prefix_cmp announced ≡ true

-- A feasibility distance is finite (RFC 8966, section 3.2.5).
abbrev pub IsFinite : Source × SourceEntry → Type 0
IsFinite e = e.1.distance.metric < infinity

pub record AreSources (sources : Sources) : Type 0 where
  pub few : length sources ≤ most_sources
  pub finite : All IsFinite sources
  pub in_order : is_sorted source_cmp sources ≡ true

pub record AreRoutes (routes : RoutesValue) : Type 0 where
  pub entries_in_order : is_sorted route_cmp routes.entries ≡ true
  pub selections_in_order : is_sorted prefix_cmp routes.selections ≡ true

-- A wait doubles as long as it is below 1,600 centiseconds.
abbrev pub HasShortWait : Source × PendingRequest → Type 0
HasShortWait e = e.1.wait < 2 * last_wait

pub record AreRequests (requests : PendingRequests) : Type 0 where
  pub few : length requests ≤ most_requests
  pub waits : All HasShortWait requests
  pub in_order : is_sorted source_cmp requests ≡ true

-- A Seqno Request that is queued has a hop count above 0 (RFC 8966, section 4.6.11).
abbrev pub HasHops : Item → Type 0
HasHops (items.Request peer source seqno hops) = 1 ≤ hops
HasHops item = ⊤

pub record IsQueue (pending : Pending) : Type 0 where
  pub few : length pending.items ≤ most_pending
  pub hops : All HasHops pending.items
  pub dropped : pending.dropped < 2 ^ 64

-- ---- the state

-- Each table by itself: in order, with no more entries than it has room for, and with entries that can be used.
pub record AreTables (s : State) : Type 0 where
  pub interfaces : AreInterfaces s.interfaces
  pub neighbours : AreNeighbours s.neighbours
  pub announced : AreAnnounced s.announced
  pub sources : AreSources s.sources
  pub routes : AreRoutes s.routes
  pub requests : AreRequests s.requests
  pub pending : IsQueue s.pending
  pub seqno : s.seqno < seqno_modulus
  pub raises : s.raises < 2 ^ 64
  pub left_out : s.left_out < 2 ^ 64

-- A selected route is an entry of the table, and a candidate: feasible, with a finite metric, and not of an own prefix.
abbrev pub IsSelectable : PrefixValue → State → Selection → Type 0
IsSelectable prefix s route = (entry_at prefix route.peer s ≡ Some route.entry) × (is_selection_candidate prefix s route ≡ true)

abbrev pub AreSelectable : State → Type 0
AreSelectable s = (prefix : PrefixValue) (route : Selection) → selected_at prefix s ≡ Some route → IsSelectable prefix s route

pub record IsWellFormed (s : State) : Type 0 where
  pub tables : AreTables s
  pub selections : AreSelectable s

-- ---- a new speaker has it, and each step keeps it

abbrev pub NewSpeakersAreWellFormed : Type 0
NewSpeakersAreWellFormed = (c : Config) → c.seqno < seqno_modulus → config_fault c ≡ None → IsWellFormed (first_state c)

abbrev pub MessagesKeepTables : Type 0
MessagesKeepTables =
    (now : ℕ) (peer : Peer) (message : Message) (s : State) → is_encodable message ≡ true → AreTables s → AreTables (handle_message now peer message s).0

abbrev pub MessagesKeepWellFormed : Type 0
MessagesKeepWellFormed =
    (now : ℕ) (peer : Peer) (message : Message) (s : State) → is_encodable message ≡ true → IsWellFormed s → IsWellFormed (handle_message now peer message s).0

abbrev pub TicksKeepTables : Type 0
TicksKeepTables = (now : ℕ) (s : State) → AreTables s → AreTables (ticked now s)

abbrev pub TicksKeepWellFormed : Type 0
TicksKeepWellFormed = (now : ℕ) (s : State) → IsWellFormed s → IsWellFormed (ticked now s)

abbrev pub SendingKeepsWellFormed : Type 0
SendingKeepsWellFormed = (now : ℕ) (fits : Fits) (s : State) → IsWellFormed s → IsWellFormed (next_datagram now fits s).state

abbrev pub CostsKeepWellFormed : Type 0
CostsKeepWellFormed = (iface cost : ℕ) (s : State) → set_cost_fault iface cost s ≡ None → IsWellFormed s → IsWellFormed (cost_set iface cost s)

abbrev pub AnnouncingKeepsWellFormed : Type 0
AnnouncingKeepsWellFormed = (prefix : PrefixValue) (s : State) → is_prefix_too_many prefix s ≡ false → IsWellFormed s → IsWellFormed (announced_also prefix s)

abbrev pub WithdrawingKeepsWellFormed : Type 0
WithdrawingKeepsWellFormed = (prefix : PrefixValue) (s : State) → IsWellFormed s → IsWellFormed (withdrawn prefix s)

abbrev pub RaisingKeepsWellFormed : Type 0
RaisingKeepsWellFormed = (s : State) → IsWellFormed s → IsWellFormed (raised s)

abbrev pub RequestingKeepsWellFormed : Type 0
RequestingKeepsWellFormed = (now : ℕ) (s : State) → IsWellFormed s → IsWellFormed (seqnos_requested now s)

abbrev pub LosingKeepsWellFormed : Type 0
LosingKeepsWellFormed = (now iface : ℕ) (s : State) → IsWellFormed s → IsWellFormed (links_lost now iface s)

abbrev pub GroupingKeepsWellFormed : Type 0
GroupingKeepsWellFormed = (s : State) → IsWellFormed s → IsWellFormed (items_grouped s)

-- A change of a nominal cost changes no link's cost, so that what is current stays current.
abbrev pub CostsKeepCurrent : Type 0
CostsKeepCurrent = (iface cost : ℕ) (s : State) → set_cost_fault iface cost s ≡ None → IsWellFormed s → KeepsCurrent s (cost_set iface cost s)

-- So the same is reported of each selected route, too.
abbrev pub CostsKeepRoutes : Type 0
CostsKeepRoutes = (iface cost : ℕ) (s : State) → set_cost_fault iface cost s ≡ None → IsWellFormed s → KeepsRoutes s (cost_set iface cost s)

-- A datagram changes no selection, and each selected route is a candidate after it.
abbrev pub SendingKeepsSelected : Type 0
SendingKeepsSelected =
    (now : ℕ) (fits : Fits) (s : State) → IsWellFormed s →
    ((prefix : PrefixValue) → selected_at prefix (next_datagram now fits s).state ≡ selected_at prefix s) × AreSelectable (next_datagram now fits s).state

-- And each that is current stays so, unless an unfeasible route of its prefix became feasible.
abbrev pub SendingKeepsSelections : Type 0
SendingKeepsSelections = (now : ℕ) (fits : Fits) (s : State) → IsWellFormed s → KeepsSelections s (next_datagram now fits s).state

-- That can't be while the seqnos of the prefix lie in one half of the circle: there each that is current stays so.
abbrev pub SendingKeepsCurrentInHalf : Type 0
SendingKeepsCurrentInHalf =
    (now : ℕ) (fits : Fits) (s : State) (first : ℕ) (prefix : PrefixValue) → IsWellFormed s → AreInHalf first prefix s →
    IsCurrentAt prefix s → IsCurrentAt prefix (next_datagram now fits s).state
