-- A tick and the calls that change a speaker leave every table in order and within its room.
use Rattle.std.specs.Prelude.{◌≡◌, ℕ, ◌+◌, ◌*◌, ◌≤◌, ◌<◌, Bool, true, false, ◌&&◌, ◌==◌, not, nat_eq, nat_le, List, [], ◌∷◌, ◌++◌, All, IfSome, IsSome, map, length, is_none, slice_set, Option, Some, None, if◌then◌else◌}
use Rattle.std.specs.List.{filter}
use Rattle.std.specs.Option.{option_map_or}
use Rattle.std.specs.FinMap.{find, put}
use Rattle.std.proofs.Common.{refl, sym, subst, arith, length-set}
use Rattle.std.proofs.lemmas.List.{length-map}
use Rattle.std.proofs.lemmas.Bool.{true≢false, and_parts, and_right, leb-true, leb-false}
use Rattle.std.proofs.lemmas.Option.{none-some}
use Rattle.std.proofs.lemmas.List.Elements.{All-nil, All-append, All-map, All-weaker, All-set}
use Rattle.babel_value.specs.declared.addresses.Family.{Family}
use Rattle.babel_value.specs.declared.addresses.Family.TheVariants.{Ipv4, Ipv6}
use Rattle.babel_value.specs.declared.keys.Peer.{Peer}
use Rattle.babel_value.specs.declared.keys.Source.{Source}
use Rattle.babel_value.specs.Orders.{prefix_cmp, source_cmp}
use Rattle.babel_value.proofs.OrderLaws.{prefix_total}
use Rattle.babel_value.specs.Prefixes.{PrefixValue}
use Rattle.babel_link.specs.Neighbours.{gone_of, tick_of, peers_of}
use Rattle.babel_sources.specs.declared.sources.SourceEntry.{SourceEntry}
use Rattle.babel_table.specs.Entries.{without, revised_entries}
use Rattle.babel_table.proofs.RevisionLemmas.{sorted_revised}
use Rattle.babel_table.proofs.PlaceLemmas.{sorted_put, sorted_without}
use Rattle.babel_choice.specs.RouteKeys.{route_cmp}
use Rattle.babel_choice.specs.Routes.{expired, expired_entry}
use Rattle.babel_sources.specs.Sources.{collected, collected_entry}
use Rattle.babel_state.specs.declared.errors.SetCostFault.TheVariants.{CostOutOfRange}
use Rattle.babel_state.specs.declared.interfaces.InterfaceEntry.{InterfaceEntry}
use Rattle.babel_state.specs.declared.items.Item.{Item}
use Rattle.babel_state.specs.declared.items.Item.TheVariants as items
use Rattle.babel_state.specs.declared.requests.PendingRequest.{PendingRequest}
use Rattle.babel_state.specs.declared.requests.Resend.{Resend}
use Rattle.babel_state.specs.declared.requests.Resend.TheVariants.{Unfeasible, Neighbour, Never}
use Rattle.babel_state.specs.PendingRequests.{PendingRequests}
use Rattle.babel_state.specs.State.{State, announces, interface_at, reachable_prefixes}
use Rattle.babel_state.specs.Reselection.{request_items, update_to_all, updates_to_all, select}
use Rattle.babel_state.specs.Hellos.{forget_neighbour}
use Rattle.babel_state.specs.Ticks.{forget_each, links_ticked, routes_ticked, is_due_request, is_last, repeated, waited, requested_again, repeated_items, all_repeated_items, requests_ticked, is_due, fired, ihu_items, update_items, timer_items, all_timer_items, interfaces_ticked, sources_ticked, ticked}
use Rattle.babel_state.specs.Addresses.{address_of}
use Rattle.babel_state.specs.Calls.{cost_set, set_cost_fault, set_cost_fault_on, is_prefix_too_many, announced_also, withdrawn, select_and_advertise}
use Rattle.babel_state.specs.Configs.{is_up_to}
use Rattle.babel_state.specs.Invariants.{IsUsable, HasHops, AreTables, TicksKeepTables}
use Rattle.babel_state.proofs.Tables.{each_at, each_revised, few_put, few_revised, few_without}
use Rattle.babel_state.proofs.TableLaws.{interfaces_tables, neighbours_tables, announced_tables, sources_tables, requests_tables, queue_tables, entries_tables, forget_tables, all_tables, select_tables, tick_neighbours, asked_hops, one_hops, to_all_hops}

forgets_tables : (peers : List Peer) (s : State) → AreTables s → AreTables (forget_each peers s)
forgets_tables [] s t = t
forgets_tables (peer ∷ peers) s t = forgets_tables peers (forget_neighbour peer s) (forget_tables peer s t)

pub links_tables : (now : ℕ) (s : State) → AreTables s → AreTables (links_ticked now s)
unfolding links_ticked
links_tables now s t =
    forgets_tables (gone_of now s.neighbours) (record s { neighbours = tick_of now s.neighbours })
    (neighbours_tables s (tick_of now s.neighbours) (tick_neighbours now s.neighbours t.neighbours) t)

pub expiry_tables : (now : ℕ) (s : State) → AreTables s → AreTables (routes_ticked now s)
unfolding routes_ticked
expiry_tables now s t = entries_tables s (expired now s.routes.entries) (sorted_revised route_cmp (expired_entry now) s.routes.entries t.routes.entries_in_order) t

-- ---- requests

again_hops : (now : ℕ) (s : State) (e : Source × PendingRequest) → All HasHops (repeated_items now s e)
again_hops now s e = by (is_due_request now e.1 && not (is_last e.1.resend e.1.wait))
  where
    asked : List Item
    asked = request_items e.0 e.1.seqno 64 (requested_again e.1.resend e.0.prefix s)

    by : (b : Bool) → All HasHops (if b then asked else [])
    by true = asked_hops e.0 e.1.seqno 64 (requested_again e.1.resend e.0.prefix s) (omega arith)
    by false = All-nil HasHops

all_again_hops : (now : ℕ) (s : State) (es : PendingRequests) → All HasHops (all_repeated_items now s es)
all_again_hops now s [] = All-nil HasHops
all_again_hops now s (e ∷ es) = All-append HasHops (repeated_items now s e) (all_repeated_items now s es) (again_hops now s e) (all_again_hops now s es)

short_again : (resend : Resend) (wait : ℕ) → is_last resend wait ≡ false → 2 * wait < 3200
short_again Never wait e = absurd (true≢false e)
short_again Unfeasible wait e = omega (arith, leb-false 1600 wait e)
short_again (Neighbour peer) wait e = omega (arith, leb-false 1600 wait e)

waited_short : (now : ℕ) (source : Source) (r : PendingRequest) → r.wait < 3200 → IfSome (waited now source r) (λ q. q.wait < 3200)
waited_short now source r short = by (is_due_request now r) (is_last r.resend r.wait) refl
  where
    by : (due last : Bool) → is_last r.resend r.wait ≡ last → IfSome (if due then (if last then None else Some (repeated now r)) else Some r) (λ q. q.wait < 3200)
    by true true e = tt
    by true false e = short_again r.resend r.wait e
    by false last e = short

pub request_tick_tables : (now : ℕ) (s : State) → AreTables s → AreTables (requests_ticked now s)
unfolding requests_ticked
request_tick_tables now s t =
    queue_tables (all_repeated_items now s s.requests) (record s { requests = revised_entries (waited now) s.requests }) (all_again_hops now s s.requests)
    (requests_tables s (revised_entries (waited now) s.requests)
    (record {
      few = few_revised source_cmp (waited now) 64 s.requests t.requests.few;
      waits = each_revised source_cmp (λ (q : PendingRequest). q.wait < 3200) (waited now) (waited_short now) s.requests t.requests.waits;
      in_order = sorted_revised source_cmp (waited now) s.requests t.requests.in_order;
    }) t)

-- ---- timers

if_hops : (b : Bool) (xs : List Item) → All HasHops xs → All HasHops (if b then xs else [])
if_hops true xs p = p
if_hops false xs p = All-nil HasHops

timer_hops : (now : ℕ) (s : State) (iface : ℕ) (i : InterfaceEntry) → All HasHops (timer_items now s iface i)
timer_hops now s iface i =
    let hellos : List Item = if is_due now i.hello_due then items.Hello iface ∷ [] else [] in
    let ihus : List Item = if is_due now i.ihu_due then ihu_items iface s else [] in
    let updates : List Item = if is_due now i.update_due then update_items iface s else [] in
    All-append HasHops (hellos ++ ihus) updates
    (All-append HasHops hellos ihus
    (if_hops (is_due now i.hello_due) (items.Hello iface ∷ []) (one_hops (items.Hello iface) tt))
    (if_hops (is_due now i.ihu_due) (ihu_items iface s) (All-map HasHops (λ peer. items.Ihu peer) (filter (λ (peer : Peer). nat_eq peer.iface iface) (peers_of s.neighbours)) (λ k d lt. tt))))
    (if_hops (is_due now i.update_due) (update_items iface s) (All-map HasHops (λ prefix. update_to_all prefix iface) (reachable_prefixes s) (λ k d lt. tt)))

all_timer_hops : (now : ℕ) (s : State) (iface : ℕ) (is : List InterfaceEntry) → All HasHops (all_timer_items now s iface is)
all_timer_hops now s iface [] = All-nil HasHops
all_timer_hops now s iface (i ∷ is) =
    All-append HasHops (timer_items now s iface i) (all_timer_items now s (iface + 1) is) (timer_hops now s iface i) (all_timer_hops now s (iface + 1) is)

fired_address : (now : ℕ) (family : Family) (i : InterfaceEntry) → address_of family (fired now i) ≡ address_of family i
fired_address now Ipv4 i = refl
fired_address now Ipv6 i = refl

pub cost_address : (cost : ℕ) (family : Family) (i : InterfaceEntry) → address_of family (record i { cost = cost }) ≡ address_of family i
cost_address cost Ipv4 i = refl
cost_address cost Ipv6 i = refl

fired_usable : (now : ℕ) (i : InterfaceEntry) → IsUsable i → IsUsable (fired now i)
fired_usable now i u = record { cost = u.cost; hello = u.hello; transport = subst IsSome (sym (fired_address now i.transport i)) u.transport }

fired_length : (now : ℕ) (is : List InterfaceEntry) → length (map (fired now) is) ≡ length is
fired_length now is = length-map is (fired now)

pub timer_tables : (now : ℕ) (s : State) → AreTables s → AreTables (interfaces_ticked now s)
unfolding interfaces_ticked
timer_tables now s t =
    queue_tables (all_timer_items now s 0 s.interfaces) (record s { interfaces = map (fired now) s.interfaces }) (all_timer_hops now s 0 s.interfaces)
    (interfaces_tables s (map (fired now) s.interfaces)
    (record {
      few = subst (λ n. n ≤ 8) (sym (fired_length now s.interfaces)) t.interfaces.few;
      usable = All-map IsUsable (fired now) s.interfaces (All-weaker IsUsable (λ i. IsUsable (fired now i)) (fired_usable now) s.interfaces t.interfaces.usable);
    }) t)

-- ---- sources

collected_finite : (now : ℕ) (source : Source) (e : SourceEntry) → e.distance.metric < 65535 → IfSome (collected_entry now source e) (λ f. f.distance.metric < 65535)
collected_finite now source e finite = by (nat_le e.due now)
  where
    by : (b : Bool) → IfSome (if b then None else Some e) (λ f. f.distance.metric < 65535)
    by true = tt
    by false = finite

source_tables : (now : ℕ) (s : State) → AreTables s → AreTables (sources_ticked now s)
unfolding sources_ticked
source_tables now s t = by s.collects
  where
    fewer : AreTables (record s { sources = collected now s.sources })
    fewer =
        sources_tables s (collected now s.sources)
        (record {
          few = few_revised source_cmp (collected_entry now) 512 s.sources t.sources.few;
          finite = each_revised source_cmp (λ (e : SourceEntry). e.distance.metric < 65535) (collected_entry now) (collected_finite now) s.sources t.sources.finite;
          in_order = sorted_revised source_cmp (collected_entry now) s.sources t.sources.in_order;
        }) t

    by : (b : Bool) → AreTables (if b then record s { sources = collected now s.sources } else s)
    by true = fewer
    by false = t

pub tick_tables : TicksKeepTables
unfolding ticked
tick_tables now s t =
    source_tables now _ (timer_tables now _ (request_tick_tables now _ (all_tables now _ (expiry_tables now _ (all_tables now _ (links_tables now s t))))))

-- ---- other calls

pub cost_free : (cost : ℕ) (i : InterfaceEntry) → set_cost_fault_on cost (Some i) ≡ None → is_up_to 65534 cost ≡ true
cost_free cost i e = by (is_up_to 65534 cost) refl e
  where
    by : (b : Bool) → is_up_to 65534 cost ≡ b → (if b then None else Some CostOutOfRange) ≡ None → is_up_to 65534 cost ≡ true
    by true is e = is
    by false is e = absurd (none-some CostOutOfRange (sym e))

usable_cost : (cost : ℕ) (i : InterfaceEntry) → is_up_to 65534 cost ≡ true → IsUsable i → IsUsable (record i { cost = cost })
usable_cost cost i e u =
    let parts = and_parts (nat_le 1 cost) (nat_le cost 65534) e in
    record { cost = (leb-true 1 cost parts.0, leb-true cost 65534 parts.1); hello = u.hello; transport = subst IsSome (sym (cost_address cost i.transport i)) u.transport }

pub usable_at : (iface : ℕ) (s : State) (i : InterfaceEntry) → interface_at iface s ≡ Some i → AreTables s → IsUsable i
usable_at iface s i at t = each_at IsUsable s.interfaces iface i at t.interfaces.usable

pub cost_tables : (iface cost : ℕ) (s : State) → set_cost_fault iface cost s ≡ None → AreTables s → AreTables (cost_set iface cost s)
unfolding cost_set
cost_tables iface cost s free t = by (interface_at iface s) refl free
  where
    by : (m : Option InterfaceEntry) → interface_at iface s ≡ m → set_cost_fault_on cost m ≡ None → AreTables (option_map_or (λ i. record s { interfaces = slice_set s.interfaces iface (record i { cost = cost }) }) m s)
    by None at free = t
    by (Some i) at free =
        interfaces_tables s (slice_set s.interfaces iface (record i { cost = cost }))
        (record {
          few = omega (arith, length-set s.interfaces iface (record i { cost = cost }), t.interfaces.few);
          usable = All-set IsUsable s.interfaces iface (record i { cost = cost }) (usable_cost cost i (cost_free cost i free) (usable_at iface s i at t)) t.interfaces.usable;
        }) t

chosen_tables : (prefix : PrefixValue) (s : State) → AreTables s → AreTables (select_and_advertise prefix s)
chosen_tables prefix s t = queue_tables (updates_to_all prefix s) (select prefix s) (to_all_hops prefix s) (select_tables prefix s t)

pub announced_also_tables : (prefix : PrefixValue) (s : State) → is_prefix_too_many prefix s ≡ false → AreTables s → AreTables (announced_also prefix s)
unfolding announced_also
announced_also_tables prefix s room t = by (announces prefix s) refl room
  where
    by : (b : Bool) → announces prefix s ≡ b → (if b then false else length s.announced == 64) ≡ false →
        AreTables (if b then s else select_and_advertise prefix (record s { announced = put prefix_cmp prefix tt s.announced }))
    by true is room = t
    by false is room =
        chosen_tables prefix (record s { announced = put prefix_cmp prefix tt s.announced })
        (announced_tables s (put prefix_cmp prefix tt s.announced)
        (record {
          few = few_put prefix_cmp prefix_total prefix tt 64 s.announced t.announced.in_order t.announced.few (and_right (is_none (find prefix_cmp prefix s.announced)) (length s.announced == 64) room);
          in_order = sorted_put prefix_cmp prefix_total prefix tt s.announced t.announced.in_order;
        }) t)

pub withdrawn_tables : (prefix : PrefixValue) (s : State) → AreTables s → AreTables (withdrawn prefix s)
unfolding withdrawn
withdrawn_tables prefix s t =
    chosen_tables prefix (record s { announced = without prefix_cmp prefix s.announced })
    (announced_tables s (without prefix_cmp prefix s.announced)
    (record { few = few_without prefix_cmp prefix 64 s.announced t.announced.few; in_order = sorted_without prefix_cmp prefix s.announced t.announced.in_order }) t)
