-- After each step every selected route is an entry and a candidate, and the selections that were current still are.
use Rattle.std.specs.Prelude.{◌≡◌, ℕ, ◌-◌, Bool, true, false, cond, nat_lt, List, [], ◌∷◌, map, Option, Some, None, is_some, if◌then◌else◌}
use Rattle.std.specs.Option.{option_map_or}
use Rattle.std.specs.Ordering.{eq_by_cmp}
use Rattle.std.specs.FinMap.{find, put, is_sorted}
use Rattle.std.specs.FinMap.Entries.{find-put}
use Rattle.std.proofs.Common.{refl, sym, ap, subst, ◌∙◌}
use Rattle.babel_value.specs.declared.addresses.Addr.{Addr}
use Rattle.babel_value.specs.declared.distances.Distance.{Distance}
use Rattle.babel_value.specs.declared.keys.Peer.{Peer}
use Rattle.babel_value.specs.declared.keys.Source.{Source}
use Rattle.babel_value.specs.Orders.{prefix_cmp}
use Rattle.babel_value.proofs.OrderLaws.{prefix_total, prefix_exact}
use Rattle.babel_value.specs.Prefixes.{PrefixValue}
use Rattle.babel_link.specs.Neighbours.{hello_of, hello_verdict, ihu_of}
use Rattle.babel_link.specs.declared.marks.Heard.{Heard}
use Rattle.babel_link.specs.declared.marks.Heard.TheVariants.{Kept, Flush}
use Rattle.babel_message.specs.declared.messages.Message.{Message}
use Rattle.babel_message.specs.declared.messages.Message.TheVariants as messages
use Rattle.babel_choice.specs.declared.entries.Entry.{Entry}
use Rattle.babel_choice.specs.declared.entries.Selection.{Selection}
use Rattle.babel_sources.specs.Distances.{is_feasible}
use Rattle.babel_table.specs.Entries.{without}
use Rattle.babel_choice.specs.RouteKeys.{route_cmp, route_total}
use Rattle.babel_choice.specs.Routes.{RouteEntries, key_of, kept_without, retracted_from, updated, retracted, retracted_all, retracted_entry, entry_of_update, has_routes_from}
use Rattle.babel_table.proofs.LookupLemmas.{eq_turned, find_with_value}
use Rattle.babel_table.proofs.RevisionLemmas.{sorted_revised}
use Rattle.babel_table.proofs.PlaceLemmas.{sorted_put}
use Rattle.babel_state.specs.declared.items.Item.{Item}
use Rattle.babel_state.specs.declared.items.Item.TheVariants as items
use Rattle.babel_state.specs.declared.notes.Verdict.TheVariants as verdicts
use Rattle.babel_state.specs.declared.requests.Resend.TheVariants.{Never}
use Rattle.babel_state.specs.Sameness.{is_same_router}
use Rattle.babel_state.specs.PendingRequests.{is_redundant}
use Rattle.babel_state.specs.State.{State, PrefixSet, announces, is_neighbour, reachable_prefixes, entry_at, pair_at, selected_at, with_entries}
use Rattle.babel_state.specs.Reselection.{UnfeasibleUpdate, queue, update_to, updates_to_all, select, reselect, reselect_all}
use Rattle.babel_state.specs.Hellos.{Step, forgets_flushed, hears, is_neighbour_too_many, is_for_interface, handle_hello, handle_ihu}
use Rattle.babel_state.specs.Updates.{store, satisfy_request, handle_feasible, handle_unfeasible, judge, is_route_too_many, handle_update, handle_retraction, handle_retract_all}
use Rattle.babel_state.specs.SeqnoRequests.{raised, satisfies, requested_of_own, forward, requested_of_route, receiver, handle_seqno_request}
use Rattle.babel_state.specs.Messages.{handle_from_neighbour, handle_message}
use Rattle.babel_state.specs.Calls.{announced_also, withdrawn, select_and_advertise}
use Rattle.babel_state.specs.CurrentSelections.{IsCurrentAt, AreRoutesInOrder, KeepsCurrent}
use Rattle.babel_state.specs.StepLaws.{kept_of}
use Rattle.babel_state.specs.Invariants.{AreSelectable}
use Rattle.babel_state.proofs.Reselecting.{asks_kept, reselects_kept}
use Rattle.babel_state.proofs.CurrentLaws.{reselections_current, all_sorted}
use Rattle.babel_state.proofs.Hearing.{satisfy_kept}
use Rattle.babel_state.proofs.Selecting.{changed, IsSameElsewhere, all_selectable, selected_selectable, selected_current, put_elsewhere, routes_put}

-- Both facts of a step: the selections can be selected, and what was current is current.
pub record IsGoodStep (old new : State) : Type 0 where
  pub selectable : AreSelectable old → AreSelectable new
  pub current : KeepsCurrent old new

pub same_good : (s : State) → IsGoodStep s s
same_good s = record { selectable = λ good. good; current = λ prefix current. current }

good_step : (s : State) (b : Bool) (x y : Step) → IsGoodStep s x.0 → IsGoodStep s y.0 → IsGoodStep s (if b then x else y).0
good_step s true x y p q = p
good_step s false x y p q = q

pub on_kept : (s t r : State) → kept_of t ≡ kept_of r → IsGoodStep s r → IsGoodStep s t
unfolding kept_of
on_kept s t r same g = record {
  selectable = λ good. subst AreSelectable (sym same) (g.selectable good);
  current = λ prefix current. subst (IsCurrentAt prefix) (sym same) (g.current prefix current);
}

-- ---- all prefixes reselected

pub all_good : (now : ℕ) (s t : State) → AreRoutesInOrder t → IsGoodStep s (reselect_all now t)
all_good now s t sorted = record {
  selectable = λ good. all_selectable now t sorted (all_sorted now t sorted);
  current = λ prefix current. reselections_current now t sorted prefix;
}

-- ---- one prefix reselected

selected_good : (p : PrefixValue) (announced : PrefixSet) (entries : RouteEntries) (s : State) → IsSameElsewhere p announced entries s → IsGoodStep s (select p (changed announced entries s))
selected_good p announced entries s same = record {
  selectable = selected_selectable p announced entries s same;
  current = selected_current p announced entries s same;
}

put_same : (p : PrefixValue) (peer : Peer) (e : Entry) (s : State) → AreRoutesInOrder s → IsSameElsewhere p s.announced (put route_cmp (key_of p peer) e s.routes.entries) s
put_same p peer e s sorted = record {
  in_order = sorted_put route_cmp route_total (key_of p peer) e s.routes.entries sorted;
  local = λ q other. refl;
  entry = λ q from other. put_elsewhere q p from peer e s.routes.entries other;
  routes = λ q other. routes_put q p peer e s.routes.entries (sym (eq_turned prefix_cmp prefix_total q p) ∙ other);
}

retracted_same : (now : ℕ) (p : PrefixValue) (peer : Peer) (s : State) → AreRoutesInOrder s → IsSameElsewhere p s.announced (retracted now p peer s.routes.entries) s
retracted_same now p peer s sorted = by (find route_cmp (key_of p peer) s.routes.entries)
  where
    by : (m : Option Entry) → IsSameElsewhere p s.announced (option_map_or (λ e. put route_cmp (key_of p peer) (retracted_entry now e) s.routes.entries) m s.routes.entries) s
    by None = record { in_order = sorted; local = λ q other. refl; entry = λ q from other. refl; routes = λ q other. refl }
    by (Some e) = put_same p peer (retracted_entry now e) s sorted

pub reselect_good : (now : ℕ) (cause : Option UnfeasibleUpdate) (p : PrefixValue) (announced : PrefixSet) (entries : RouteEntries) (s : State) → IsSameElsewhere p announced entries s → IsGoodStep s (reselect now cause p (changed announced entries s))
reselect_good now cause p announced entries s same =
    on_kept s _ (select p (changed announced entries s)) (reselects_kept now cause p (changed announced entries s)) (selected_good p announced entries s same)

-- ---- messages

hears_sorted : (verdict : Heard) (peer : Peer) (s : State) → AreRoutesInOrder s → AreRoutesInOrder (forgets_flushed verdict peer s)
hears_sorted Kept peer s sorted = sorted
hears_sorted Flush peer s sorted = sorted_revised route_cmp (kept_without peer) s.routes.entries sorted

hello_good : (now : ℕ) (peer : Peer) (unicast : Bool) (seqno interval : ℕ) (s : State) → AreRoutesInOrder s → AreRoutesInOrder (hears now peer unicast seqno interval s) → IsGoodStep s (handle_hello now peer unicast seqno interval s).0
unfolding handle_hello
hello_good now peer unicast seqno interval s sorted heard =
    good_step s (is_neighbour_too_many peer s) (reselect_all now s, verdicts.TableFull) (reselect_all now (hears now peer unicast seqno interval s), verdicts.Taken)
    (all_good now s s sorted) (all_good now s (hears now peer unicast seqno interval s) heard)

ihu_good : (now : ℕ) (peer : Peer) (to : Option Addr) (rxcost interval : ℕ) (s : State) → AreRoutesInOrder s → IsGoodStep s (handle_ihu now peer to rxcost interval s).0
unfolding handle_ihu
ihu_good now peer to rxcost interval s sorted =
    let heard : State = record s { neighbours = ihu_of now peer rxcost interval s.neighbours } in
    good_step s (is_for_interface peer.iface to s) (reselect_all now heard, verdicts.Taken) (s, verdicts.OtherAddress) (all_good now s heard sorted) (same_good s)

feasible_good : (now : ℕ) (prefix : PrefixValue) (router : List ℕ) (seqno : ℕ) (entries : RouteEntries) (s : State) → IsSameElsewhere prefix s.announced entries s → IsGoodStep s (handle_feasible now prefix router seqno (with_entries entries s)).0
feasible_good now prefix router seqno entries s same =
    let source : Source = record { prefix = prefix; router = router } in
    let chosen : State = reselect now None prefix (with_entries entries s) in
    on_kept s (satisfy_request source seqno chosen) chosen (satisfy_kept source seqno chosen) (reselect_good now None prefix s.announced entries s same)

judge_good : (now : ℕ) (peer : Peer) (prefix : PrefixValue) (router : List ℕ) (distance : Distance) (pair : Option Distance) (entries : RouteEntries) (s : State) → IsSameElsewhere prefix s.announced entries s → IsGoodStep s (judge now peer prefix router distance pair (with_entries entries s)).0
judge_good now peer prefix router distance None entries s same = feasible_good now prefix router distance.seqno entries s same
judge_good now peer prefix router distance (Some pair) entries s same =
    good_step s (is_feasible (Some pair) distance) (handle_feasible now prefix router distance.seqno (with_entries entries s)) (handle_unfeasible now peer prefix router pair (with_entries entries s))
    (feasible_good now prefix router distance.seqno entries s same)
    (reselect_good now (Some (record { peer = peer; router = router })) prefix s.announced entries s same)

update_good : (now : ℕ) (peer : Peer) (prefix : PrefixValue) (router : List ℕ) (next_hop : Addr) (distance : Distance) (interval : ℕ) (s : State) → AreRoutesInOrder s → IsGoodStep s (handle_update now peer prefix router next_hop distance interval s).0
unfolding handle_update
update_good now peer prefix router next_hop distance interval s sorted =
    let judged : Step = judge now peer prefix router distance (pair_at prefix router s) (store now peer prefix router next_hop distance interval s) in
    let full : Step = (s, verdicts.TableFull) in
    good_step s (is_same_router router s.router) (s, verdicts.OwnRouterId) (if is_route_too_many prefix peer s then full else judged) (same_good s)
    (good_step s (is_route_too_many prefix peer s) full judged (same_good s)
    (judge_good now peer prefix router distance (pair_at prefix router s) (updated now prefix peer router distance next_hop interval s.routes.entries) s
    (put_same prefix peer (entry_of_update now router distance next_hop interval) s sorted)))

retraction_good : (now : ℕ) (peer : Peer) (prefix : PrefixValue) (s : State) → AreRoutesInOrder s → IsGoodStep s (handle_retraction now peer prefix s).0
unfolding handle_retraction
retraction_good now peer prefix s sorted =
    good_step s (is_some (entry_at prefix peer s)) (reselect now None prefix (with_entries (retracted now prefix peer s.routes.entries) s), verdicts.Taken) (s, verdicts.NoEntry)
    (reselect_good now None prefix s.announced (retracted now prefix peer s.routes.entries) s (retracted_same now prefix peer s sorted)) (same_good s)

retract_all_good : (now : ℕ) (peer : Peer) (s : State) → is_sorted route_cmp (retracted_all now peer s.routes.entries) ≡ true → IsGoodStep s (handle_retract_all now peer s).0
unfolding handle_retract_all
retract_all_good now peer s sorted =
    good_step s (has_routes_from peer s.routes.entries) (reselect_all now (with_entries (retracted_all now peer s.routes.entries) s), verdicts.Taken) (s, verdicts.NoEntry)
    (all_good now s (with_entries (retracted_all now peer s.routes.entries) s) sorted) (same_good s)

own_good : (peer : Peer) (source : Source) (seqno : ℕ) (s : State) → IsGoodStep s (requested_of_own peer source seqno s)
own_good peer source seqno s = by (satisfies s.router s.seqno source.router seqno)
  where
    by : (b : Bool) → IsGoodStep s (if b then queue (update_to peer source.prefix ∷ []) s else queue (updates_to_all source.prefix s) (raised s))
    by true = record { selectable = λ good. good; current = λ prefix current. current }
    by false = record { selectable = λ good. good; current = λ prefix current. current }

queue_good : (xs : List Item) (s : State) → IsGoodStep s (queue xs s)
queue_good xs s = record { selectable = λ good. good; current = λ prefix current. current }

forward_good : (now : ℕ) (source : Source) (seqno hops : ℕ) (next : Option Peer) (s : State) → IsGoodStep s (forward now source seqno hops next s).0
forward_good now source seqno hops None s = same_good s
forward_good now source seqno hops (Some next) s = on_kept s _ s (asks_kept now source seqno Never (hops - 1) (next ∷ []) s) (same_good s)

route_good : (now : ℕ) (peer : Peer) (source : Source) (seqno hops : ℕ) (route : Option Selection) (s : State) → IsGoodStep s (requested_of_route now peer source seqno hops route s).0
route_good now peer source seqno hops None s = same_good s
route_good now peer source seqno hops (Some route) s =
    let passed : Step = forward now source seqno hops (receiver peer source.prefix s) s in
    let ends : Step = (s, verdicts.NotForwarded) in
    let redundant : Step = (s, verdicts.Redundant) in
    let with_hops : Step = if nat_lt hops 2 then ends else passed in
    good_step s (satisfies route.entry.router route.entry.distance.seqno source.router seqno) (queue (update_to peer source.prefix ∷ []) s, verdicts.Taken) (if is_redundant source seqno s.requests then redundant else with_hops)
    (queue_good (update_to peer source.prefix ∷ []) s)
    (good_step s (is_redundant source seqno s.requests) redundant with_hops (same_good s)
    (good_step s (nat_lt hops 2) ends passed (same_good s) (forward_good now source seqno hops (receiver peer source.prefix s) s)))

seqno_request_good : (now : ℕ) (peer : Peer) (source : Source) (seqno hops : ℕ) (s : State) → IsGoodStep s (handle_seqno_request now peer source seqno hops s).0
unfolding handle_seqno_request
seqno_request_good now peer source seqno hops s =
    good_step s (announces source.prefix s) (requested_of_own peer source seqno s, verdicts.Taken) (requested_of_route now peer source seqno hops (selected_at source.prefix s) s)
    (own_good peer source seqno s) (route_good now peer source seqno hops (selected_at source.prefix s) s)

neighbour_good : (now : ℕ) (peer : Peer) (message : Message) (s : State) → AreRoutesInOrder s → IsGoodStep s (handle_from_neighbour now peer message s).0
neighbour_good now peer (messages.AckRequest opaque interval) s sorted = same_good s
neighbour_good now peer (messages.Ack opaque) s sorted = same_good s
neighbour_good now peer (messages.Hello unicast seqno interval) s sorted = same_good s
neighbour_good now peer (messages.Ihu to rxcost interval) s sorted = ihu_good now peer to rxcost interval s sorted
neighbour_good now peer (messages.Update prefix router next_hop seqno metric interval) s sorted =
    update_good now peer prefix router next_hop (record { seqno = seqno; metric = metric }) interval s sorted
neighbour_good now peer (messages.Retraction prefix interval) s sorted = retraction_good now peer prefix s sorted
neighbour_good now peer (messages.RetractAll interval) s sorted = retract_all_good now peer s (sorted_revised route_cmp (retracted_from now peer) s.routes.entries sorted)
neighbour_good now peer (messages.RouteRequest prefix) s sorted = queue_good (update_to peer prefix ∷ []) s
neighbour_good now peer messages.DumpRequest s sorted = queue_good (map (update_to peer) (reachable_prefixes s)) s
neighbour_good now peer (messages.SeqnoRequest prefix router seqno hops) s sorted =
    seqno_request_good now peer (record { prefix = prefix; router = router }) seqno hops s

from_neighbour_good : (now : ℕ) (peer : Peer) (message : Message) (s : State) → AreRoutesInOrder s →
    IsGoodStep s (if is_neighbour peer s then handle_from_neighbour now peer message s else (s, verdicts.UnknownNeighbour)).0
from_neighbour_good now peer message s sorted =
    good_step s (is_neighbour peer s) (handle_from_neighbour now peer message s) (s, verdicts.UnknownNeighbour) (neighbour_good now peer message s sorted) (same_good s)

pub message_good : (now : ℕ) (peer : Peer) (message : Message) (s : State) → AreRoutesInOrder s → IsGoodStep s (handle_message now peer message s).0
unfolding handle_message
message_good now peer (messages.AckRequest opaque interval) s sorted = queue_good (items.Ack peer opaque ∷ []) s
message_good now peer (messages.Ack opaque) s sorted = from_neighbour_good now peer (messages.Ack opaque) s sorted
message_good now peer (messages.Hello unicast seqno interval) s sorted =
    hello_good now peer unicast seqno interval s sorted (hears_sorted (hello_verdict peer unicast seqno s.neighbours) peer (record s { neighbours = hello_of now peer unicast seqno interval s.neighbours }) sorted)
message_good now peer (messages.Ihu to rxcost interval) s sorted = from_neighbour_good now peer (messages.Ihu to rxcost interval) s sorted
message_good now peer (messages.Update prefix router next_hop seqno metric interval) s sorted =
    from_neighbour_good now peer (messages.Update prefix router next_hop seqno metric interval) s sorted
message_good now peer (messages.Retraction prefix interval) s sorted = from_neighbour_good now peer (messages.Retraction prefix interval) s sorted
message_good now peer (messages.RetractAll interval) s sorted = from_neighbour_good now peer (messages.RetractAll interval) s sorted
message_good now peer (messages.RouteRequest prefix) s sorted = from_neighbour_good now peer (messages.RouteRequest prefix) s sorted
message_good now peer messages.DumpRequest s sorted = from_neighbour_good now peer messages.DumpRequest s sorted
message_good now peer (messages.SeqnoRequest prefix router seqno hops) s sorted =
    from_neighbour_good now peer (messages.SeqnoRequest prefix router seqno hops) s sorted

-- ---- own prefixes

advertised_good : (p : PrefixValue) (announced : PrefixSet) (s : State) → AreRoutesInOrder s →
    ((q : PrefixValue) → eq_by_cmp prefix_cmp q p ≡ false → is_some (find prefix_cmp q announced) ≡ announces q s) →
    IsGoodStep s (select_and_advertise p (record s { announced = announced }))
advertised_good p announced s sorted local =
    let g = selected_good p announced s.routes.entries s (record { in_order = sorted; local = local; entry = λ q from other. refl; routes = λ q other. refl }) in
    record { selectable = λ good. g.selectable good; current = λ prefix current. g.current prefix current }

pub announced_good : (prefix : PrefixValue) (s : State) → AreRoutesInOrder s → IsGoodStep s (announced_also prefix s)
unfolding announced_also
announced_good prefix s sorted = by (announces prefix s)
  where
    by : (b : Bool) → IsGoodStep s (if b then s else select_and_advertise prefix (record s { announced = put prefix_cmp prefix tt s.announced }))
    by true = same_good s
    by false =
        advertised_good prefix (put prefix_cmp prefix tt s.announced) s sorted
        (λ q other. ap is_some (find-put prefix_cmp prefix_total q prefix tt s.announced ∙ ap (λ c. cond c (Some tt) (find prefix_cmp q s.announced)) other))

pub withdrawn_good : (prefix : PrefixValue) (s : State) → AreRoutesInOrder s → IsGoodStep s (withdrawn prefix s)
unfolding withdrawn
withdrawn_good prefix s sorted =
    advertised_good prefix (without prefix_cmp prefix s.announced) s sorted
    (λ q other. ap is_some (find_with_value prefix_cmp prefix_total prefix_exact q prefix None s.announced ∙ ap (λ c. cond c None (find prefix_cmp q s.announced)) other))
