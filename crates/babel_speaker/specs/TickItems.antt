-- The items that a tick queues, read from single tables of the state.
use Rattle.std.specs.Prelude.{ℕ, ◌+◌, ◌&&◌, not, nat_eq, List, [], ◌∷◌, ◌++◌, map, filter, if◌then◌else◌}
use Rattle.babel_value.specs.declared.keys.Peer.{Peer}
use Rattle.babel_value.specs.declared.keys.Source.{Source}
use Rattle.babel_value.specs.Prefixes.{PrefixValue}
use Rattle.babel_link.specs.Neighbours.{Links, peers_of}
use Rattle.babel_choice.specs.Routes.{RouteEntries}
use Rattle.babel_choice.specs.Choices.{routes_of}
use Rattle.babel_sources.specs.Sources.{Sources}
use Rattle.babel_state.specs.declared.interfaces.InterfaceEntry.{InterfaceEntry}
use Rattle.babel_state.specs.declared.items.Item.{Item}
use Rattle.babel_state.specs.declared.items.Item.TheVariants as items
use Rattle.babel_state.specs.declared.requests.PendingRequest.{PendingRequest}
use Rattle.babel_state.specs.declared.requests.Resend.{Resend}
use Rattle.babel_state.specs.declared.requests.Resend.TheVariants.{Unfeasible, Neighbour, Never}
use Rattle.babel_state.specs.PendingRequests.{PendingRequests}
use Rattle.babel_state.specs.Reselection.{request_items, is_unfeasible, update_to_all}
use Rattle.babel_state.specs.Ticks.{is_due_request, is_last, is_due}
use Rattle.babel_state.specs.Limits.{request_hops}

-- ---- requests that are repeated (RFC 8966, section 3.8.2.1)

abbrev pub receivers_of : Resend → PrefixValue → Sources → RouteEntries → List Peer
receivers_of Unfeasible prefix sources entries = map (λ r. r.0.peer) (filter (is_unfeasible sources) (routes_of prefix entries))
receivers_of (Neighbour peer) prefix sources entries = peer ∷ []
receivers_of Never prefix sources entries = []

abbrev pub repeats_of : ℕ → Sources → RouteEntries → Source × PendingRequest → List Item
repeats_of now sources entries e =
    if is_due_request now e.1 && not (is_last e.1.resend e.1.wait)
    then request_items e.0 e.1.seqno request_hops (receivers_of e.1.resend e.0.prefix sources entries) else []

abbrev pub all_repeats_of : ℕ → Sources → RouteEntries → PendingRequests → List Item
all_repeats_of now sources entries [] = []
all_repeats_of now sources entries (e ∷ es) = repeats_of now sources entries e ++ all_repeats_of now sources entries es

-- ---- timers of interfaces (RFC 8966, sections 3.4.1, 3.4.2 and 3.7.1)

abbrev pub ihus_of : ℕ → Links → List Item
ihus_of iface links = map (λ peer. items.Ihu peer) (filter (λ peer. nat_eq peer.iface iface) (peers_of links))

abbrev pub updates_of : ℕ → List PrefixValue → List Item
updates_of iface prefixes = map (λ prefix. update_to_all prefix iface) prefixes

abbrev pub timers_of : ℕ → Links → List PrefixValue → ℕ → InterfaceEntry → List Item
timers_of now links prefixes iface i =
    (if is_due now i.hello_due then items.Hello iface ∷ [] else []) ++
    (if is_due now i.ihu_due then ihus_of iface links else []) ++
    (if is_due now i.update_due then updates_of iface prefixes else [])

abbrev pub all_timers_of : ℕ → Links → List PrefixValue → ℕ → List InterfaceEntry → List Item
all_timers_of now links prefixes iface [] = []
all_timers_of now links prefixes iface (i ∷ is) = timers_of now links prefixes iface i ++ all_timers_of now links prefixes (iface + 1) is
