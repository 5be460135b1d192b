-- What time brings (RFC 8966, sections 3.4, 3.5.4, 3.7.1 and 3.8.2.1): a tick takes all that is due, in this order.
use Rattle.std.specs.Prelude.{ℕ, ◌+◌, ◌*◌, Bool, true, ◌&&◌, not, nat_le, nat_eq, List, [], ◌∷◌, ◌++◌, map, filter, Option, Some, None, if◌then◌else◌}
use Rattle.std.specs.Option.{option_map_or}
use Rattle.babel_value.specs.declared.keys.Peer.{Peer}
use Rattle.babel_value.specs.declared.keys.Source.{Source}
use Rattle.babel_value.specs.Moments.{later}
use Rattle.babel_value.specs.Prefixes.{PrefixValue}
use Rattle.babel_link.specs.Neighbours.{tick_of, gone_of, peers_of}
use Rattle.babel_table.specs.Entries.{revised_entries}
use Rattle.babel_choice.specs.Routes.{expired}
use Rattle.babel_sources.specs.Sources.{collected}
use Rattle.babel_state.specs.declared.interfaces.InterfaceEntry.{InterfaceEntry}
use Rattle.babel_state.specs.declared.items.Item.{Item}
use Rattle.babel_state.specs.declared.items.Item.TheVariants as items
use Rattle.babel_state.specs.declared.requests.PendingRequest.{PendingRequest}
use Rattle.babel_state.specs.declared.requests.Resend.{Resend}
use Rattle.babel_state.specs.declared.requests.Resend.TheVariants.{Unfeasible, Neighbour, Never}
use Rattle.babel_state.specs.Limits.{last_wait, request_hops}
use Rattle.babel_state.specs.PendingRequests.{PendingRequests}
use Rattle.babel_state.specs.State.{State, with_entries, reachable_prefixes}
use Rattle.babel_state.specs.Reselection.{queue, request_items, unfeasible_peers, update_to_all, reselect_all}
use Rattle.babel_state.specs.Hellos.{forget_neighbour}

-- ---- 1. Hellos and IHUs that didn't come (RFC 8966, sections 3.4.1 and 3.4.2)

abbrev pub forget_each : List Peer → State → State
forget_each [] s = s
forget_each (peer ∷ peers) s = forget_each peers (forget_neighbour peer s)

-- Costs grow, and a neighbour that isn't heard any more is flushed, with its routes.
unfoldable pub links_ticked : ℕ → State → State
links_ticked now s =
    forget_each (gone_of now s.neighbours) (record s { neighbours = tick_of now s.neighbours })

-- ---- 2. routes that weren't advertised again (RFC 8966, section 3.5.4)

unfoldable pub routes_ticked : ℕ → State → State
routes_ticked now s = with_entries (expired now s.routes.entries) s

-- ---- 3. requests that weren't satisfied (RFC 8966, section 3.8.2.1)

abbrev pub is_due_request : ℕ → PendingRequest → Bool
is_due_request now r = nat_le r.due now

-- The wait is over for the last time: after three repeats, at once for one that is another router's.
abbrev pub is_last : Resend → ℕ → Bool
is_last Never wait = true
is_last resend wait = nat_le last_wait wait

-- It is repeated, and waits twice as long.
abbrev pub repeated : ℕ → PendingRequest → PendingRequest
repeated now r = record r { wait = 2 * r.wait; due = later now (2 * r.wait) }

abbrev pub waited : ℕ → Source → PendingRequest → Option PendingRequest
waited now source r =
    if is_due_request now r then (if is_last r.resend r.wait then None else Some (repeated now r)) else Some r

-- Who is asked again.
abbrev pub requested_again : Resend → PrefixValue → State → List Peer
requested_again Unfeasible prefix s = unfeasible_peers prefix s
requested_again (Neighbour peer) prefix s = peer ∷ []
requested_again Never prefix s = []

abbrev pub repeated_items : ℕ → State → Source × PendingRequest → List Item
repeated_items now s e =
    if is_due_request now e.1 && not (is_last e.1.resend e.1.wait)
    then request_items e.0 e.1.seqno request_hops (requested_again e.1.resend e.0.prefix s) else []

abbrev pub all_repeated_items : ℕ → State → PendingRequests → List Item
all_repeated_items now s [] = []
all_repeated_items now s (e ∷ es) = repeated_items now s e ++ all_repeated_items now s es

unfoldable pub requests_ticked : ℕ → State → State
requests_ticked now s =
    queue (all_repeated_items now s s.requests) (record s { requests = revised_entries (waited now) s.requests })

-- ---- 4. the timers of the interfaces (RFC 8966, sections 3.4.1, 3.4.2 and 3.7.1)

-- A timer is due at the first tick, and then at its moment.
abbrev pub is_due : ℕ → Option ℕ → Bool
is_due now timer = option_map_or (λ due. nat_le due now) timer true

abbrev pub next_due : ℕ → ℕ → Option ℕ → Option ℕ
next_due now duration timer = if is_due now timer then Some (later now duration) else timer

-- Hellos each Hello interval, IHUs each 3 of them, Updates each 4 (profile; RFC 8966, appendix B).
abbrev pub fired : ℕ → InterfaceEntry → InterfaceEntry
fired now i = record i {
  hello_due = next_due now i.hello i.hello_due;
  ihu_due = next_due now (3 * i.hello) i.ihu_due;
  update_due = next_due now (4 * i.hello) i.update_due;
}

abbrev pub ihu_items : ℕ → State → List Item
ihu_items iface s = map (λ peer. items.Ihu peer) (filter (λ peer. nat_eq peer.iface iface) (peers_of s.neighbours))

abbrev pub update_items : ℕ → State → List Item
update_items iface s = map (λ prefix. update_to_all prefix iface) (reachable_prefixes s)

-- What an interface queues: a Hello; an IHU for each of its neighbours; an Update for each prefix that is announced here or selected.
abbrev pub timer_items : ℕ → State → ℕ → InterfaceEntry → List Item
timer_items now s iface i =
    (if is_due now i.hello_due then items.Hello iface ∷ [] else []) ++
    (if is_due now i.ihu_due then ihu_items iface s else []) ++
    (if is_due now i.update_due then update_items iface s else [])

abbrev pub all_timer_items : ℕ → State → ℕ → List InterfaceEntry → List Item
all_timer_items now s iface [] = []
all_timer_items now s iface (i ∷ is) = timer_items now s iface i ++ all_timer_items now s (iface + 1) is

unfoldable pub interfaces_ticked : ℕ → State → State
interfaces_ticked now s =
    queue (all_timer_items now s 0 s.interfaces) (record s { interfaces = map (fired now) s.interfaces })

-- ---- 5. sources that weren't named for long (RFC 8966, section 3.2.5)

unfoldable pub sources_ticked : ℕ → State → State
sources_ticked now s = if s.collects then record s { sources = collected now s.sources } else s

-- ---- the tick

abbrev pub routes_selected : ℕ → State → State
routes_selected now s = reselect_all now (routes_ticked now (reselect_all now (links_ticked now s)))

unfoldable pub ticked : ℕ → State → State
ticked now s = sources_ticked now (interfaces_ticked now (requests_ticked now (routes_selected now s)))
