-- Each step leaves every table in order and within its room.
use Rattle.std.specs.Prelude.{◌≡◌, ℕ, ◌-◌, ◌≤◌, ◌<◌, ◌^◌, Bool, true, false, ◌&&◌, ◌==◌, nat_lt, nat_le, List, [], ◌∷◌, ◌++◌, All, IfSome, map, length, not, is_none, is_some, Option, Some, None, if◌then◌else◌}
use Rattle.std.specs.List.{range_with_len}
use Rattle.std.specs.Option.{option_map, option_map_or, option_and_then, unwrap_or}
use Rattle.std.specs.FinMap.{find, put, is_sorted}
use Rattle.std.proofs.Common.{refl, sym, subst, arith, length-drop}
use Rattle.std.proofs.lemmas.Bool.{and_parts, ltb-true, ltb-false}
use Rattle.std.proofs.lemmas.List.Elements.{All-nil, All-cons, All-append, All-drop, All-map, All-filter}
use Rattle.babel_value.specs.declared.addresses.Addr.{Addr}
use Rattle.babel_value.specs.declared.distances.Distance.{Distance}
use Rattle.babel_value.specs.declared.keys.Peer.{Peer}
use Rattle.babel_value.specs.declared.keys.Source.{Source}
use Rattle.babel_value.specs.Orders.{prefix_cmp, peer_cmp, source_cmp}
use Rattle.babel_value.proofs.OrderLaws.{prefix_total, peer_total, source_total}
use Rattle.babel_value.specs.Prefixes.{PrefixValue}
use Rattle.babel_link.specs.declared.links.Link.{Link}
use Rattle.babel_link.specs.declared.links.History.{History}
use Rattle.babel_link.specs.declared.marks.Heard.{Heard}
use Rattle.babel_link.specs.declared.marks.Heard.TheVariants.{Kept, Flush}
use Rattle.babel_link.specs.Links.{new_link, with_history, history_of, is_flushed_by, hello_link, ihu_link, fired_history, unless_silent, fired_link, expired_link, ticked_link}
use Rattle.babel_link.specs.Neighbours.{Links, link_of, hello_of, hello_verdict, ihu_of, tick_of}
use Rattle.babel_message.specs.declared.messages.Message.{Message}
use Rattle.babel_message.specs.declared.messages.Message.TheVariants as messages
use Rattle.babel_packet.specs.Encodable.{is_encodable}
use Rattle.babel_choice.specs.declared.entries.Entry.{Entry}
use Rattle.babel_choice.specs.declared.entries.Selection.{Selection}
use Rattle.babel_sources.specs.Distances.{is_feasible}
use Rattle.babel_table.specs.Entries.{without, with_value}
use Rattle.babel_table.proofs.RevisionLemmas.{sorted_revised}
use Rattle.babel_table.proofs.PlaceLemmas.{sorted_put, sorted_without}
use Rattle.babel_choice.specs.RouteKeys.{route_cmp, route_total}
use Rattle.babel_choice.specs.Routes.{RouteEntries, key_of, updated, retracted, retracted_all, retracted_entry, forgotten, entry_of_update, kept_without, retracted_from}
use Rattle.babel_route.specs.Selections.{RoutesValue, reselected, choice_at}
use Rattle.babel_sources.specs.Sources.{Sources}
use Rattle.babel_state.specs.declared.interfaces.InterfaceEntry.{InterfaceEntry}
use Rattle.babel_state.specs.declared.items.Item.{Item}
use Rattle.babel_state.specs.declared.items.Item.TheVariants as items
use Rattle.babel_state.specs.declared.requests.PendingRequest.{PendingRequest}
use Rattle.babel_state.specs.declared.requests.Resend.{Resend}
use Rattle.babel_state.specs.declared.requests.Resend.TheVariants.{Never}
use Rattle.babel_state.specs.declared.notes.Verdict.TheVariants as verdicts
use Rattle.babel_state.specs.Sameness.{is_same_router}
use Rattle.babel_state.specs.Queueing.{Pending, queued, queued_at_once}
use Rattle.babel_state.specs.PendingRequests.{PendingRequests, is_redundant, recorded, has_no_room, new_request}
use Rattle.babel_state.specs.State.{State, PrefixSet, announces, is_neighbour, routed_prefixes, reachable_prefixes, selected_at, pair_at, with_entries, cost_at}
use Rattle.babel_state.specs.Reselection.{UnfeasibleUpdate, queue, update_to, update_to_all, updates_to_all, request_items, request_seqno, request_for_update, request_from_sender, request_for_seqno, advertise_change, select, reselect, reselect_each, reselect_all}
use Rattle.babel_state.specs.Hellos.{Step, forget_neighbour, forgets_flushed, hears, is_neighbour_too_many, is_for_interface, handle_hello, handle_ihu}
use Rattle.babel_state.specs.Updates.{store, advertise_if_selected, satisfy_request, handle_feasible, handle_unfeasible, judge, is_route_too_many, handle_update, handle_retraction, handle_retract_all}
use Rattle.babel_state.specs.SeqnoRequests.{raised, satisfies, requested_of_own, forward, requested_of_route, receiver, handle_seqno_request}
use Rattle.babel_state.specs.Messages.{handle_from_neighbour, handle_message}
use Rattle.babel_state.specs.Invariants.{AreInterfaces, AreNeighbours, AreAnnounced, AreSources, AreRoutes, AreRequests, HasShortWait, HasHops, IsQueue, HasCost, AreTables, MessagesKeepTables}
use Rattle.babel_state.proofs.Cutting.{queueing-cuts}
use Rattle.babel_state.proofs.Tables.{each_put, each_find, each_revised, few_put, few_revised, few_without}

pub if_tables : (b : Bool) (x y : State) → AreTables x → AreTables y → AreTables (if b then x else y)
if_tables true x y p q = p
if_tables false x y p q = q

if_step : (b : Bool) (x y : Step) → AreTables x.0 → AreTables y.0 → AreTables (if b then x else y).0
if_step true x y p q = p
if_step false x y p q = q

option_tables : {A : Type 0} (f : A → State) (m : Option A) (d : State) → ((a : A) → AreTables (f a)) → AreTables d → AreTables (option_map_or f m d)
option_tables f None d p q = q
option_tables f (Some a) d p q = p a

-- ---- one table changed

pub interfaces_tables : (s : State) (x : List InterfaceEntry) → AreInterfaces x → AreTables s → AreTables (record s { interfaces = x })
interfaces_tables s x p t = record {
  interfaces = p;
  neighbours = t.neighbours;
  announced = t.announced;
  sources = t.sources;
  routes = t.routes;
  requests = t.requests;
  pending = t.pending;
  seqno = t.seqno;
  raises = t.raises;
  left_out = t.left_out;
}

pub neighbours_tables : (s : State) (x : Links) → AreNeighbours x → AreTables s → AreTables (record s { neighbours = x })
neighbours_tables s x p t = record {
  interfaces = t.interfaces;
  neighbours = p;
  announced = t.announced;
  sources = t.sources;
  routes = t.routes;
  requests = t.requests;
  pending = t.pending;
  seqno = t.seqno;
  raises = t.raises;
  left_out = t.left_out;
}

pub announced_tables : (s : State) (x : PrefixSet) → AreAnnounced x → AreTables s → AreTables (record s { announced = x })
announced_tables s x p t = record {
  interfaces = t.interfaces;
  neighbours = t.neighbours;
  announced = p;
  sources = t.sources;
  routes = t.routes;
  requests = t.requests;
  pending = t.pending;
  seqno = t.seqno;
  raises = t.raises;
  left_out = t.left_out;
}

pub sources_tables : (s : State) (x : Sources) → AreSources x → AreTables s → AreTables (record s { sources = x })
sources_tables s x p t = record {
  interfaces = t.interfaces;
  neighbours = t.neighbours;
  announced = t.announced;
  sources = p;
  routes = t.routes;
  requests = t.requests;
  pending = t.pending;
  seqno = t.seqno;
  raises = t.raises;
  left_out = t.left_out;
}

pub routes_tables : (s : State) (x : RoutesValue) → AreRoutes x → AreTables s → AreTables (record s { routes = x })
routes_tables s x p t = record {
  interfaces = t.interfaces;
  neighbours = t.neighbours;
  announced = t.announced;
  sources = t.sources;
  routes = p;
  requests = t.requests;
  pending = t.pending;
  seqno = t.seqno;
  raises = t.raises;
  left_out = t.left_out;
}

pub requests_tables : (s : State) (x : PendingRequests) → AreRequests x → AreTables s → AreTables (record s { requests = x })
requests_tables s x p t = record {
  interfaces = t.interfaces;
  neighbours = t.neighbours;
  announced = t.announced;
  sources = t.sources;
  routes = t.routes;
  requests = p;
  pending = t.pending;
  seqno = t.seqno;
  raises = t.raises;
  left_out = t.left_out;
}

pub pending_tables : (s : State) (x : Pending) → IsQueue x → AreTables s → AreTables (record s { pending = x })
pending_tables s x p t = record {
  interfaces = t.interfaces;
  neighbours = t.neighbours;
  announced = t.announced;
  sources = t.sources;
  routes = t.routes;
  requests = t.requests;
  pending = p;
  seqno = t.seqno;
  raises = t.raises;
  left_out = t.left_out;
}

pub raised_tables : (s : State) → AreTables s → AreTables (raised s)
raised_tables s t = record {
  interfaces = t.interfaces;
  neighbours = t.neighbours;
  announced = t.announced;
  sources = t.sources;
  routes = t.routes;
  requests = t.requests;
  pending = t.pending;
  seqno = omega arith;
  raises = omega arith;
  left_out = t.left_out;
}

pub left_out_tables : (s : State) (n : ℕ) → n < 2 ^ 64 → AreTables s → AreTables (record s { left_out = n })
left_out_tables s n p t = record {
  interfaces = t.interfaces;
  neighbours = t.neighbours;
  announced = t.announced;
  sources = t.sources;
  routes = t.routes;
  requests = t.requests;
  pending = t.pending;
  seqno = t.seqno;
  raises = t.raises;
  left_out = p;
}

-- ---- the queue

queued_is : (xs : List Item) (old : Pending) → All HasHops xs → IsQueue old → IsQueue (queued_at_once xs old)
queued_is xs old hops q = record {
  few = omega (arith, length-drop (length (old.items ++ xs) - 4096) (old.items ++ xs));
  hops = All-drop HasHops (length (old.items ++ xs) - 4096) (old.items ++ xs) (All-append HasHops old.items xs q.hops hops);
  dropped = omega arith;
}

pub queue_tables : (xs : List Item) (s : State) → All HasHops xs → AreTables s → AreTables (queue xs s)
queue_tables xs s hops t =
    pending_tables s (queued xs s.pending)
    (subst IsQueue (sym (queueing-cuts xs s.pending t.pending.few t.pending.dropped)) (queued_is xs s.pending hops t.pending)) t

pub to_all_hops : (prefix : PrefixValue) (s : State) → All HasHops (updates_to_all prefix s)
to_all_hops prefix s = All-map HasHops (update_to_all prefix) (range_with_len 0 (length s.interfaces)) (λ k d lt. tt)

pub asked_hops : (source : Source) (seqno hops : ℕ) (peers : List Peer) → 1 ≤ hops → All HasHops (request_items source seqno hops peers)
asked_hops source seqno hops peers some = All-map HasHops (λ peer. items.Request peer source seqno hops) peers (λ k d lt. some)

pub one_hops : (x : Item) → HasHops x → All HasHops (x ∷ [])
one_hops x p = All-cons HasHops x [] p (All-nil HasHops)

-- ---- requests

recorded_is : (now : ℕ) (source : Source) (seqno : ℕ) (resend : Resend) (requests : PendingRequests) → AreRequests requests → AreRequests (recorded now source seqno resend requests)
recorded_is now source seqno resend requests r = by (has_no_room source requests) refl
  where
    made : PendingRequest
    made = new_request now seqno resend

    by : (b : Bool) → has_no_room source requests ≡ b → AreRequests (if b then requests else put source_cmp source made requests)
    by true full = r
    by false room = record {
      few = few_put source_cmp source_total source made 64 requests r.in_order r.few room;
      waits = each_put source_cmp (λ (q : PendingRequest). q.wait < 3200) source made requests (omega arith) r.waits;
      in_order = sorted_put source_cmp source_total source made requests r.in_order;
    }

pub asks_tables : (now : ℕ) (source : Source) (seqno : ℕ) (resend : Resend) (hops : ℕ) (peers : List Peer) (s : State) → 1 ≤ hops → AreTables s → AreTables (request_seqno now source seqno resend hops peers s)
unfolding request_seqno
asks_tables now source seqno resend hops peers s some t =
    if_tables (is_redundant source seqno s.requests) s _ t
    (queue_tables (request_items source seqno hops peers) _ (asked_hops source seqno hops peers some)
    (requests_tables s (recorded now source seqno resend s.requests) (recorded_is now source seqno resend s.requests t.requests) t))

-- ---- a reselection

advertise_tables : (prefix : PrefixValue) (old new : Option Selection) (s : State) → AreTables s → AreTables (advertise_change prefix old new s)
advertise_tables prefix old new s t = if_tables _ s _ t (queue_tables (updates_to_all prefix s) s (to_all_hops prefix s) t)

pub for_update_tables : (now : ℕ) (prefix : PrefixValue) (update : UnfeasibleUpdate) (s : State) → AreTables s → AreTables (request_for_update now prefix update s)
for_update_tables now prefix update s t =
    option_tables _ (pair_at prefix update.router s) s (λ pair. asks_tables _ _ _ _ 64 _ s (omega arith) t) t

sender_tables : (now : ℕ) (cause : Option UnfeasibleUpdate) (prefix : PrefixValue) (old : Option Selection) (s : State) → AreTables s → AreTables (request_from_sender now cause prefix old s)
sender_tables now None prefix old s t = t
sender_tables now (Some update) prefix old s t = if_tables _ _ s (for_update_tables now prefix update s t) t

seqno_tables : (now : ℕ) (cause : Option UnfeasibleUpdate) (prefix : PrefixValue) (old new : Option Selection) (s : State) → AreTables s → AreTables (request_for_seqno now cause prefix old new s)
seqno_tables now cause prefix (Some lost) None s t =
    if_tables _ _ _ (asks_tables _ _ _ _ 64 _ s (omega arith) t) (sender_tables now cause prefix (Some lost) s t)
seqno_tables now cause prefix (Some lost) (Some new) s t = sender_tables now cause prefix (Some lost) s t
seqno_tables now cause prefix None None s t = sender_tables now cause prefix None s t
seqno_tables now cause prefix None (Some new) s t = sender_tables now cause prefix None s t

with_value_sorted : (prefix : PrefixValue) (value : Option Selection) (selections : List (PrefixValue × Selection)) → is_sorted prefix_cmp selections ≡ true → is_sorted prefix_cmp (with_value prefix_cmp prefix value selections) ≡ true
with_value_sorted prefix None selections sorted = sorted_without prefix_cmp prefix selections sorted
with_value_sorted prefix (Some value) selections sorted = sorted_put prefix_cmp prefix_total prefix value selections sorted

pub select_tables : (prefix : PrefixValue) (s : State) → AreTables s → AreTables (select prefix s)
select_tables prefix s t =
    routes_tables s (reselected s.sources (cost_at s) prefix (announces prefix s) s.routes)
    (record {
      entries_in_order = t.routes.entries_in_order;
      selections_in_order = with_value_sorted prefix (choice_at s.sources (cost_at s) prefix (announces prefix s) s.routes) s.routes.selections t.routes.selections_in_order;
    }) t

pub reselect_tables : (now : ℕ) (cause : Option UnfeasibleUpdate) (prefix : PrefixValue) (s : State) → AreTables s → AreTables (reselect now cause prefix s)
unfolding reselect
reselect_tables now cause prefix s t =
    let old : Option Selection = selected_at prefix s in
    let new : Option Selection = selected_at prefix (select prefix s) in
    seqno_tables now cause prefix old new (advertise_change prefix old new (select prefix s))
    (advertise_tables prefix old new (select prefix s) (select_tables prefix s t))

each_tables : (now : ℕ) (ps : List PrefixValue) (s : State) → AreTables s → AreTables (reselect_each now ps s)
each_tables now [] s t = t
each_tables now (p ∷ ps) s t = each_tables now ps (reselect now None p s) (reselect_tables now None p s t)

pub all_tables : (now : ℕ) (s : State) → AreTables s → AreTables (reselect_all now s)
unfolding reselect_all
all_tables now s t = each_tables now (routed_prefixes s) s t

-- ---- neighbours

abbrev Costs : Links → Type 0
Costs = All HasCost

find_costs : (peer : Peer) (links : Links) → Costs links → (link : Link) → find peer_cmp peer links ≡ Some link → 1 ≤ link.txcost
find_costs peer links all link at = each_find peer_cmp (λ (link : Link). 1 ≤ link.txcost) peer link links all at

known_cost : (m : Option Link) → ((link : Link) → m ≡ Some link → 1 ≤ link.txcost) → 1 ≤ (unwrap_or m new_link).txcost
known_cost None all = omega arith
known_cost (Some link) all = all link refl

with_history_cost : (unicast : Bool) (history : Option History) (link : Link) → 1 ≤ link.txcost → 1 ≤ (with_history unicast history link).txcost
with_history_cost true history link p = p
with_history_cost false history link p = p

hello_cost : (now : ℕ) (unicast : Bool) (n interval : ℕ) (link : Link) → 1 ≤ link.txcost → 1 ≤ (hello_link now unicast n interval link).txcost
unfolding hello_link
hello_cost now unicast n interval link p = with_history_cost unicast _ _ (by (is_flushed_by unicast n link))
  where
    by : (b : Bool) → 1 ≤ (if b then new_link else link).txcost
    by true = omega arith
    by false = p

hello_neighbours : (now : ℕ) (peer : Peer) (unicast : Bool) (seqno interval : ℕ) (s : State) → is_neighbour_too_many peer s ≡ false → AreNeighbours s.neighbours → AreNeighbours (hello_of now peer unicast seqno interval s.neighbours)
unfolding hello_of
hello_neighbours now peer unicast seqno interval s room n = record {
  few = few_put peer_cmp peer_total peer heard 64 s.neighbours n.in_order n.few (none_and_full (find peer_cmp peer s.neighbours) (length s.neighbours) room);
  costs = each_put peer_cmp (λ (link : Link). 1 ≤ link.txcost) peer heard s.neighbours
      (hello_cost now unicast seqno interval (link_of peer s.neighbours) (known_cost (find peer_cmp peer s.neighbours) (find_costs peer s.neighbours n.costs))) n.costs;
  in_order = sorted_put peer_cmp peer_total peer heard s.neighbours n.in_order;
}
  where
    heard : Link
    heard = hello_link now unicast seqno interval (link_of peer s.neighbours)

    none_and_full : (m : Option Link) (count : ℕ) → (not (is_some m) && (count == 64)) ≡ false → (is_none m && (count == 64)) ≡ false
    none_and_full None count e = e
    none_and_full (Some link) count e = refl

ihu_neighbours : (now : ℕ) (peer : Peer) (rxcost interval : ℕ) (links : Links) → 1 ≤ rxcost → AreNeighbours links → AreNeighbours (ihu_of now peer rxcost interval links)
unfolding ihu_of ihu_link
ihu_neighbours now peer rxcost interval links positive n = by (find peer_cmp peer links) refl
  where
    by : (m : Option Link) → find peer_cmp peer links ≡ m → AreNeighbours (option_map_or (λ link. put peer_cmp peer (ihu_link now rxcost interval link) links) m links)
    by None at = n
    by (Some link) at = record {
      few = few_put peer_cmp peer_total peer (ihu_link now rxcost interval link) 64 links n.in_order n.few (rw at refl);
      costs = each_put peer_cmp (λ (link : Link). 1 ≤ link.txcost) peer (ihu_link now rxcost interval link) links positive n.costs;
      in_order = sorted_put peer_cmp peer_total peer (ihu_link now rxcost interval link) links n.in_order;
    }

fired_cost : (now : ℕ) (unicast : Bool) (link : Link) → 1 ≤ link.txcost → IfSome (fired_link now unicast link) (λ l. 1 ≤ l.txcost)
unfolding fired_link unless_silent
fired_cost now unicast link p = by (option_and_then (fired_history now) (history_of unicast link))
  where
    kept : (b : Bool) (l : Link) → 1 ≤ l.txcost → IfSome (if b then Some l else None) (λ l. 1 ≤ l.txcost)
    kept true l p = p
    kept false l p = tt

    by : (m : Option History) → IfSome (option_map_or (λ h. unless_silent (with_history unicast (Some h) link)) m (Some link)) (λ l. 1 ≤ l.txcost)
    by None = p
    by (Some h) = kept _ (with_history unicast (Some h) link) (with_history_cost unicast (Some h) link p)

expired_cost : (now : ℕ) (link : Link) → 1 ≤ link.txcost → 1 ≤ (expired_link now link).txcost
unfolding expired_link
expired_cost now link p = by (option_map_or (λ due. nat_le due now) link.txcost_due false)
  where
    by : (b : Bool) → 1 ≤ (if b then record link { txcost = 65535; txcost_due = None } else link).txcost
    by true = omega arith
    by false = p

ticked_cost : (now : ℕ) (link : Link) → 1 ≤ link.txcost → IfSome (ticked_link now link) (λ l. 1 ≤ l.txcost)
unfolding ticked_link
ticked_cost now link p = by (fired_link now false link) (fired_cost now false link p)
  where
    expire : (m : Option Link) → IfSome m (λ l. 1 ≤ l.txcost) → IfSome (option_map (expired_link now) m) (λ l. 1 ≤ l.txcost)
    expire None q = tt
    expire (Some l) q = expired_cost now l q

    by : (m : Option Link) → IfSome m (λ l. 1 ≤ l.txcost) → IfSome (option_map (expired_link now) (option_and_then (fired_link now true) m)) (λ l. 1 ≤ l.txcost)
    by None q = tt
    by (Some l) q = expire (fired_link now true l) (fired_cost now true l q)

pub tick_neighbours : (now : ℕ) (links : Links) → AreNeighbours links → AreNeighbours (tick_of now links)
unfolding tick_of
tick_neighbours now links n = record {
  few = few_revised peer_cmp (λ peer link. ticked_link now link) 64 links n.few;
  costs = each_revised peer_cmp (λ (link : Link). 1 ≤ link.txcost) (λ peer link. ticked_link now link) (λ peer link p. ticked_cost now link p) links n.costs;
  in_order = sorted_revised peer_cmp (λ peer link. ticked_link now link) links n.in_order;
}

-- ---- entries

pub entries_tables : (s : State) (es : RouteEntries) → is_sorted route_cmp es ≡ true → AreTables s → AreTables (with_entries es s)
entries_tables s es sorted t =
    routes_tables s (record s.routes { entries = es }) (record { entries_in_order = sorted; selections_in_order = t.routes.selections_in_order }) t

pub forget_tables : (peer : Peer) (s : State) → AreTables s → AreTables (forget_neighbour peer s)
forget_tables peer s t = entries_tables s (forgotten peer s.routes.entries) (sorted_revised route_cmp (kept_without peer) s.routes.entries t.routes.entries_in_order) t

-- ---- messages

flushed_tables : (heard : Heard) (peer : Peer) (s : State) → AreTables s → AreTables (forgets_flushed heard peer s)
flushed_tables Kept peer s t = t
flushed_tables Flush peer s t = forget_tables peer s t

hello_tables : (now : ℕ) (peer : Peer) (unicast : Bool) (seqno interval : ℕ) (s : State) → AreTables s → AreTables (handle_hello now peer unicast seqno interval s).0
unfolding handle_hello
hello_tables now peer unicast seqno interval s t = by (is_neighbour_too_many peer s) refl
  where
    full : Step
    full = (reselect_all now s, verdicts.TableFull)

    taken : Step
    taken = (reselect_all now (hears now peer unicast seqno interval s), verdicts.Taken)

    by : (b : Bool) → is_neighbour_too_many peer s ≡ b → AreTables (if b then full else taken).0
    by true e = all_tables now s t
    by false e =
        all_tables now (hears now peer unicast seqno interval s)
        (flushed_tables (hello_verdict peer unicast seqno s.neighbours) peer _
        (neighbours_tables s (hello_of now peer unicast seqno interval s.neighbours) (hello_neighbours now peer unicast seqno interval s e t.neighbours) t))

ihu_tables : (now : ℕ) (peer : Peer) (to : Option Addr) (rxcost interval : ℕ) (s : State) → 1 ≤ rxcost → AreTables s → AreTables (handle_ihu now peer to rxcost interval s).0
unfolding handle_ihu
ihu_tables now peer to rxcost interval s positive t =
    if_step (is_for_interface peer.iface to s) (reselect_all now (record s { neighbours = ihu_of now peer rxcost interval s.neighbours }), verdicts.Taken) (s, verdicts.OtherAddress)
    (all_tables now _ (neighbours_tables s (ihu_of now peer rxcost interval s.neighbours) (ihu_neighbours now peer rxcost interval s.neighbours positive t.neighbours) t)) t

without_requests : (source : Source) (requests : PendingRequests) → AreRequests requests → AreRequests (without source_cmp source requests)
without_requests source requests r = record {
  few = few_without source_cmp source 64 requests r.few;
  waits = All-filter _ HasShortWait requests r.waits;
  in_order = sorted_without source_cmp source requests r.in_order;
}

satisfy_tables : (source : Source) (seqno : ℕ) (s : State) → AreTables s → AreTables (satisfy_request source seqno s)
unfolding satisfy_request
satisfy_tables source seqno s t =
    let less : State = record s { requests = without source_cmp source s.requests } in
    let fewer : AreTables less = requests_tables s (without source_cmp source s.requests) (without_requests source s.requests t.requests) t in
    if_tables _ (advertise_if_selected source.prefix less) s
    (if_tables _ (queue (updates_to_all source.prefix less) less) less (queue_tables (updates_to_all source.prefix less) less (to_all_hops source.prefix less) fewer) fewer) t

feasible_tables : (now : ℕ) (prefix : PrefixValue) (router : List ℕ) (seqno : ℕ) (s : State) → AreTables s → AreTables (handle_feasible now prefix router seqno s).0
feasible_tables now prefix router seqno s t = satisfy_tables _ seqno (reselect now None prefix s) (reselect_tables now None prefix s t)

judge_tables : (now : ℕ) (peer : Peer) (prefix : PrefixValue) (router : List ℕ) (distance : Distance) (pair : Option Distance) (s : State) → AreTables s → AreTables (judge now peer prefix router distance pair s).0
judge_tables now peer prefix router distance None s t = feasible_tables now prefix router distance.seqno s t
judge_tables now peer prefix router distance (Some pair) s t =
    if_step (is_feasible (Some pair) distance) (handle_feasible now prefix router distance.seqno s) (handle_unfeasible now peer prefix router pair s)
    (feasible_tables now prefix router distance.seqno s t) (reselect_tables now _ prefix s t)

update_tables : (now : ℕ) (peer : Peer) (prefix : PrefixValue) (router : List ℕ) (next_hop : Addr) (distance : Distance) (interval : ℕ) (s : State) → AreTables s → AreTables (handle_update now peer prefix router next_hop distance interval s).0
unfolding handle_update
update_tables now peer prefix router next_hop distance interval s t =
    let stored : State = store now peer prefix router next_hop distance interval s in
    let judged : Step = judge now peer prefix router distance (pair_at prefix router s) stored in
    let full : Step = (s, verdicts.TableFull) in
    if_step (is_same_router router s.router) (s, verdicts.OwnRouterId) (if is_route_too_many prefix peer s then full else judged) t
    (if_step (is_route_too_many prefix peer s) full judged t
    (judge_tables now peer prefix router distance (pair_at prefix router s) stored
    (entries_tables s (updated now prefix peer router distance next_hop interval s.routes.entries)
    (sorted_put route_cmp route_total (key_of prefix peer) (entry_of_update now router distance next_hop interval) s.routes.entries t.routes.entries_in_order) t)))

pub retracted_sorted : (now : ℕ) (prefix : PrefixValue) (peer : Peer) (es : RouteEntries) → is_sorted route_cmp es ≡ true → is_sorted route_cmp (retracted now prefix peer es) ≡ true
retracted_sorted now prefix peer es sorted = by (find route_cmp (key_of prefix peer) es)
  where
    by : (m : Option Entry) → is_sorted route_cmp (option_map_or (λ e. put route_cmp (key_of prefix peer) (retracted_entry now e) es) m es) ≡ true
    by None = sorted
    by (Some e) = sorted_put route_cmp route_total (key_of prefix peer) (retracted_entry now e) es sorted

retraction_tables : (now : ℕ) (peer : Peer) (prefix : PrefixValue) (s : State) → AreTables s → AreTables (handle_retraction now peer prefix s).0
unfolding handle_retraction
retraction_tables now peer prefix s t =
    if_step _ (reselect now None prefix (with_entries (retracted now prefix peer s.routes.entries) s), verdicts.Taken) (s, verdicts.NoEntry)
    (reselect_tables now None prefix _ (entries_tables s (retracted now prefix peer s.routes.entries) (retracted_sorted now prefix peer s.routes.entries t.routes.entries_in_order) t)) t

retract_all_tables : (now : ℕ) (peer : Peer) (s : State) → AreTables s → AreTables (handle_retract_all now peer s).0
unfolding handle_retract_all
retract_all_tables now peer s t =
    if_step _ (reselect_all now (with_entries (retracted_all now peer s.routes.entries) s), verdicts.Taken) (s, verdicts.NoEntry)
    (all_tables now _ (entries_tables s (retracted_all now peer s.routes.entries) (sorted_revised route_cmp (retracted_from now peer) s.routes.entries t.routes.entries_in_order) t)) t

own_tables : (peer : Peer) (source : Source) (seqno : ℕ) (s : State) → AreTables s → AreTables (requested_of_own peer source seqno s)
own_tables peer source seqno s t =
    if_tables _ (queue (update_to peer source.prefix ∷ []) s) (queue (updates_to_all source.prefix s) (raised s))
    (queue_tables (update_to peer source.prefix ∷ []) s (one_hops (update_to peer source.prefix) tt) t)
    (queue_tables (updates_to_all source.prefix s) (raised s) (to_all_hops source.prefix s) (raised_tables s t))

forward_tables : (now : ℕ) (source : Source) (seqno hops : ℕ) (next : Option Peer) (s : State) → 2 ≤ hops → AreTables s → AreTables (forward now source seqno hops next s).0
forward_tables now source seqno hops None s many t = t
forward_tables now source seqno hops (Some next) s many t = asks_tables now source seqno Never (hops - 1) (next ∷ []) s (omega (arith, many)) t

route_tables : (now : ℕ) (peer : Peer) (source : Source) (seqno hops : ℕ) (route : Option Selection) (s : State) → AreTables s → AreTables (requested_of_route now peer source seqno hops route s).0
route_tables now peer source seqno hops None s t = t
route_tables now peer source seqno hops (Some route) s t =
    let passed : Step = forward now source seqno hops (receiver peer source.prefix s) s in
    let ends : Step = (s, verdicts.NotForwarded) in
    let redundant : Step = (s, verdicts.Redundant) in
    let with_hops : Step = if nat_lt hops 2 then ends else passed in
    if_step (satisfies route.entry.router route.entry.distance.seqno source.router seqno) (queue (update_to peer source.prefix ∷ []) s, verdicts.Taken) (if is_redundant source seqno s.requests then redundant else with_hops)
    (queue_tables (update_to peer source.prefix ∷ []) s (one_hops (update_to peer source.prefix) tt) t)
    (if_step (is_redundant source seqno s.requests) redundant with_hops t (by (nat_lt hops 2) refl))
  where
    by : (b : Bool) → nat_lt hops 2 ≡ b → AreTables (if b then (s, verdicts.NotForwarded) else forward now source seqno hops (receiver peer source.prefix s) s).0
    by true e = t
    by false e = forward_tables now source seqno hops (receiver peer source.prefix s) s (omega (arith, ltb-false hops 2 e)) t

seqno_request_tables : (now : ℕ) (peer : Peer) (source : Source) (seqno hops : ℕ) (s : State) → AreTables s → AreTables (handle_seqno_request now peer source seqno hops s).0
unfolding handle_seqno_request
seqno_request_tables now peer source seqno hops s t =
    if_step (announces source.prefix s) (requested_of_own peer source seqno s, verdicts.Taken) (requested_of_route now peer source seqno hops (selected_at source.prefix s) s)
    (own_tables peer source seqno s t) (route_tables now peer source seqno hops (selected_at source.prefix s) s t)

neighbour_tables : (now : ℕ) (peer : Peer) (message : Message) (s : State) → is_encodable message ≡ true → AreTables s → AreTables (handle_from_neighbour now peer message s).0
neighbour_tables now peer (messages.AckRequest opaque interval) s e t = t
neighbour_tables now peer (messages.Ack opaque) s e t = t
neighbour_tables now peer (messages.Hello unicast seqno interval) s e t = t
neighbour_tables now peer (messages.Ihu to rxcost interval) s e t =
    ihu_tables now peer to rxcost interval s (omega (arith, ltb-true 0 rxcost (and_parts (nat_lt 0 rxcost) (nat_lt 0 interval) e).0)) t
neighbour_tables now peer (messages.Update prefix router next_hop seqno metric interval) s e t =
    update_tables now peer prefix router next_hop (record { seqno = seqno; metric = metric }) interval s t
neighbour_tables now peer (messages.Retraction prefix interval) s e t = retraction_tables now peer prefix s t
neighbour_tables now peer (messages.RetractAll interval) s e t = retract_all_tables now peer s t
neighbour_tables now peer (messages.RouteRequest prefix) s e t = queue_tables (update_to peer prefix ∷ []) s (one_hops (update_to peer prefix) tt) t
neighbour_tables now peer messages.DumpRequest s e t =
    queue_tables (map (update_to peer) (reachable_prefixes s)) s (All-map HasHops (update_to peer) (reachable_prefixes s) (λ k d lt. tt)) t
neighbour_tables now peer (messages.SeqnoRequest prefix router seqno hops) s e t =
    seqno_request_tables now peer (record { prefix = prefix; router = router }) seqno hops s t

from_neighbour_tables : (now : ℕ) (peer : Peer) (message : Message) (s : State) → is_encodable message ≡ true → AreTables s →
    AreTables (if is_neighbour peer s then handle_from_neighbour now peer message s else (s, verdicts.UnknownNeighbour)).0
from_neighbour_tables now peer message s e t =
    if_step (is_neighbour peer s) (handle_from_neighbour now peer message s) (s, verdicts.UnknownNeighbour) (neighbour_tables now peer message s e t) t

pub message_tables : MessagesKeepTables
unfolding handle_message
message_tables now peer (messages.AckRequest opaque interval) s e t = queue_tables (items.Ack peer opaque ∷ []) s (one_hops (items.Ack peer opaque) tt) t
message_tables now peer (messages.Ack opaque) s e t = from_neighbour_tables now peer (messages.Ack opaque) s e t
message_tables now peer (messages.Hello unicast seqno interval) s e t = hello_tables now peer unicast seqno interval s t
message_tables now peer (messages.Ihu to rxcost interval) s e t = from_neighbour_tables now peer (messages.Ihu to rxcost interval) s e t
message_tables now peer (messages.Update prefix router next_hop seqno metric interval) s e t =
    from_neighbour_tables now peer (messages.Update prefix router next_hop seqno metric interval) s e t
message_tables now peer (messages.Retraction prefix interval) s e t = from_neighbour_tables now peer (messages.Retraction prefix interval) s e t
message_tables now peer (messages.RetractAll interval) s e t = from_neighbour_tables now peer (messages.RetractAll interval) s e t
message_tables now peer (messages.RouteRequest prefix) s e t = from_neighbour_tables now peer (messages.RouteRequest prefix) s e t
message_tables now peer messages.DumpRequest s e t = from_neighbour_tables now peer messages.DumpRequest s e t
message_tables now peer (messages.SeqnoRequest prefix router seqno hops) s e t =
    from_neighbour_tables now peer (messages.SeqnoRequest prefix router seqno hops) s e t
