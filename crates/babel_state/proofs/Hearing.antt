-- After a message the routes are in order, and a finite one was there or was in the message.
use Rattle.std.specs.Prelude.{◌≡◌, ◌⊎◌, ℕ, Bool, true, false, cond, List, [], ◌∷◌, Option, Some, None, is_some, nat_lt, nat_le, ◌-◌, if◌then◌else◌}
use Rattle.std.specs.Option.{option_map_or, option_and_then}
use Rattle.std.specs.Ordering.{eq_by_cmp}
use Rattle.std.specs.FinMap.{find, put, is_sorted}
use Rattle.std.specs.FinMap.Entries.{find-put, is_sorted-put}
use Rattle.std.proofs.Common.{refl, sym, ◌∙◌, ap, subst, inl, inr, arith}
use Rattle.std.proofs.lemmas.Option.{same_Some, none-some}
use Rattle.babel_value.specs.declared.addresses.Addr.{Addr}
use Rattle.babel_value.specs.declared.distances.Distance.{Distance}
use Rattle.babel_value.specs.declared.keys.Peer.{Peer}
use Rattle.babel_value.specs.declared.keys.Source.{Source}
use Rattle.babel_value.specs.Prefixes.{PrefixValue}
use Rattle.babel_value.proofs.Orderings.{equal}
use Rattle.babel_link.specs.declared.marks.Heard.{Heard}
use Rattle.babel_link.specs.declared.marks.Heard.TheVariants.{Kept, Flush}
use Rattle.babel_link.specs.Neighbours.{hello_of, hello_verdict, ihu_of, gone_of, tick_of}
use Rattle.babel_message.specs.declared.messages.Message.{Message}
use Rattle.babel_message.specs.declared.messages.Message.TheVariants as messages
use Rattle.babel_choice.specs.declared.entries.Entry.{Entry}
use Rattle.babel_choice.specs.declared.entries.Selection.{Selection}
use Rattle.babel_choice.specs.declared.entries.RouteKey.{RouteKey}
use Rattle.babel_sources.specs.Distances.{is_feasible}
use Rattle.babel_table.specs.Entries.{revised_entries}
use Rattle.babel_choice.specs.RouteKeys.{route_cmp, route_total, route_exact}
use Rattle.babel_choice.specs.Routes.{RouteEntries, key_of, is_from, entry_of_update, updated, retracted_entry, retracted, retracted_from, retracted_all, has_routes_from, kept_without, forgotten, expired_entry, expired}
use Rattle.babel_table.proofs.PlaceLemmas.{so, holds, find_revised}
use Rattle.babel_table.proofs.RevisionLemmas.{sorted_revised}
use Rattle.babel_state.specs.declared.notes.Verdict.TheVariants as verdicts
use Rattle.babel_state.specs.declared.requests.Resend.TheVariants.{Never}
use Rattle.babel_state.specs.Sameness.{is_same_router}
use Rattle.babel_state.specs.PendingRequests.{is_redundant}
use Rattle.babel_state.specs.State.{State, announces, is_neighbour, entry_at, selected_at, pair_at, with_entries}
use Rattle.babel_state.specs.Reselection.{UnfeasibleUpdate, queue, update_to, updates_to_all, request_seqno, reselect, reselect_all}
use Rattle.babel_state.specs.Hellos.{Step, forget_neighbour, forgets_flushed, hears, is_neighbour_too_many, is_for_interface, handle_hello, handle_ihu}
use Rattle.babel_state.specs.Updates.{store, advertise_if_selected, satisfy_request, handle_feasible, handle_unfeasible, judge, is_route_too_many, handle_update, handle_retraction, handle_retract_all}
use Rattle.babel_state.specs.SeqnoRequests.{raised, satisfies, requested_of_own, forward, requested_of_route, receiver, handle_seqno_request}
use Rattle.babel_state.specs.Messages.{handle_from_neighbour, handle_message}
use Rattle.babel_state.specs.Seen.{UpdateValue, update_of, HeardValue, heard_if_finite, IsHeardFrom}
use Rattle.babel_sources.specs.Sources.{collected}
use Rattle.babel_state.specs.Ticks.{forget_each, links_ticked, routes_ticked, requests_ticked, interfaces_ticked, sources_ticked, routes_selected, ticked}
use Rattle.babel_state.specs.SeenLaws.{MessagesAreHeard, TicksHearNothing}
use Rattle.babel_state.specs.StepLaws.{kept_of, base_of}
use Rattle.babel_state.proofs.Reselecting.{if_kept, queue_kept, requests_kept, asks_kept, base_kept, reselects_base, all_base}

-- ---- entries

abbrev heard_in : PrefixValue → Peer → RouteEntries → Option HeardValue
heard_in prefix from es = option_and_then heard_if_finite (find route_cmp (key_of prefix from) es)

-- In order, and heard before, or from the peer by these updates.
record IsFine (peer : Peer) (us : List UpdateValue) (old es : RouteEntries) : Type 0 where
  in_order : is_sorted route_cmp es ≡ true
  heard : (prefix : PrefixValue) (from : Peer) (h : HeardValue) → heard_in prefix from es ≡ Some h → (heard_in prefix from old ≡ Some h) ⊎ IsHeardFrom peer us prefix from h

same_fine : (peer : Peer) (us : List UpdateValue) (es : RouteEntries) → is_sorted route_cmp es ≡ true → IsFine peer us es es
same_fine peer us es sorted = record { in_order = sorted; heard = λ prefix from h is. inl is }

sorted_put : (key : RouteKey) (e : Entry) (es : RouteEntries) → is_sorted route_cmp es ≡ true → is_sorted route_cmp (put route_cmp key e es) ≡ true
sorted_put key e es sorted =
    so (is_sorted route_cmp (put route_cmp key e es)) (is_sorted-put route_cmp route_total key e es (holds (is_sorted route_cmp es) sorted))

heard_put : (at key : RouteKey) (e : Entry) (es : RouteEntries) (h : HeardValue) →
    option_and_then heard_if_finite (find route_cmp at (put route_cmp key e es)) ≡ Some h →
    ((eq_by_cmp route_cmp at key ≡ true) × (heard_if_finite e ≡ Some h)) ⊎ (option_and_then heard_if_finite (find route_cmp at es) ≡ Some h)
heard_put at key e es h is =
    by (eq_by_cmp route_cmp at key) refl (ap (option_and_then heard_if_finite) (sym (find-put route_cmp route_total at key e es)) ∙ is)
  where
    by : (b : Bool) → eq_by_cmp route_cmp at key ≡ b → option_and_then heard_if_finite (cond b (Some e) (find route_cmp at es)) ≡ Some h →
        ((eq_by_cmp route_cmp at key ≡ true) × (heard_if_finite e ≡ Some h)) ⊎ (option_and_then heard_if_finite (find route_cmp at es) ≡ Some h)
    by true here is = inl (here, is)
    by false here is = inr is

finite_only : (e : Entry) (h : HeardValue) → heard_if_finite e ≡ Some h → record { router = e.router; distance = e.distance; next_hop = e.next_hop } ≡ h
finite_only e h is = by (nat_lt e.distance.metric 65535) is
  where
    by : (b : Bool) → (if b then Some (record { router = e.router; distance = e.distance; next_hop = e.next_hop }) else None) ≡ Some h → record { router = e.router; distance = e.distance; next_hop = e.next_hop } ≡ h
    by true is = same_Some _ h is
    by false is = absurd (none-some h is)

update_fine : (now : ℕ) (p : PrefixValue) (peer : Peer) (router : List ℕ) (distance : Distance) (next_hop : Addr) (interval : ℕ) (es : RouteEntries) →
    is_sorted route_cmp es ≡ true →
    IsFine peer ((record { prefix = p; router = router; distance = distance; next_hop = next_hop }) ∷ []) es (updated now p peer router distance next_hop interval es)
update_fine now p peer router distance next_hop interval es sorted = record {
  in_order = sorted_put (key_of p peer) (entry_of_update now router distance next_hop interval) es sorted;
  heard = λ prefix from h is. by prefix from h (heard_put (key_of prefix from) (key_of p peer) (entry_of_update now router distance next_hop interval) es h is);
}
  where
    u : UpdateValue
    u = record { prefix = p; router = router; distance = distance; next_hop = next_hop }

    by : (prefix : PrefixValue) (from : Peer) (h : HeardValue) →
        ((eq_by_cmp route_cmp (key_of prefix from) (key_of p peer) ≡ true) × (heard_if_finite (entry_of_update now router distance next_hop interval) ≡ Some h)) ⊎ (heard_in prefix from es ≡ Some h) →
        (heard_in prefix from es ≡ Some h) ⊎ IsHeardFrom peer ((record { prefix = p; router = router; distance = distance; next_hop = next_hop }) ∷ []) prefix from h
    by prefix from h (inl found) =
        let key : key_of prefix from ≡ key_of p peer = route_exact (key_of prefix from) (key_of p peer) (equal (route_cmp (key_of prefix from) (key_of p peer)) found.0) in
        let advertised : record { router = router; distance = distance; next_hop = next_hop } ≡ h = finite_only (entry_of_update now router distance next_hop interval) h found.1 in
        inr (
          ap (λ (k : RouteKey). k.peer) key,
          (0, omega arith, λ i. record { prefix = (sym key i).prefix; router = (advertised i).router; distance = (advertised i).distance; next_hop = (advertised i).next_hop }),
        )
    by prefix from h (inr before) = inl before

retraction_fine : (now : ℕ) (p : PrefixValue) (peer : Peer) (us : List UpdateValue) (es : RouteEntries) → is_sorted route_cmp es ≡ true → IsFine peer us es (retracted now p peer es)
retraction_fine now p peer us es sorted = by (find route_cmp (key_of p peer) es)
  where
    still : (e : Entry) (prefix : PrefixValue) (from : Peer) (h : HeardValue) →
        ((eq_by_cmp route_cmp (key_of prefix from) (key_of p peer) ≡ true) × (heard_if_finite (retracted_entry now e) ≡ Some h)) ⊎ (heard_in prefix from es ≡ Some h) →
        (heard_in prefix from es ≡ Some h) ⊎ IsHeardFrom peer us prefix from h
    still e prefix from h (inl found) = absurd (none-some h found.1)
    still e prefix from h (inr before) = inl before

    by : (m : Option Entry) → IsFine peer us es (option_map_or (λ e. put route_cmp (key_of p peer) (retracted_entry now e) es) m es)
    by None = same_fine peer us es sorted
    by (Some e) = record {
      in_order = sorted_put (key_of p peer) (retracted_entry now e) es sorted;
      heard = λ prefix from h is. still e prefix from h (heard_put (key_of prefix from) (key_of p peer) (retracted_entry now e) es h is);
    }

-- a revision that makes no route finite or other
revised_only : (f : RouteKey → Entry → Option Entry) →
    ((key : RouteKey) (e : Entry) (h : HeardValue) → option_and_then heard_if_finite (f key e) ≡ Some h → heard_if_finite e ≡ Some h) →
    (key : RouteKey) (h : HeardValue) (m : Option Entry) → option_and_then heard_if_finite (option_and_then (f key) m) ≡ Some h → option_and_then heard_if_finite m ≡ Some h
revised_only f only key h None is = absurd (none-some h is)
revised_only f only key h (Some e) is = only key e h is

revised_fine : (peer : Peer) (us : List UpdateValue) (f : RouteKey → Entry → Option Entry) (es : RouteEntries) → is_sorted route_cmp es ≡ true →
    ((key : RouteKey) (e : Entry) (h : HeardValue) → option_and_then heard_if_finite (f key e) ≡ Some h → heard_if_finite e ≡ Some h) →
    IsFine peer us es (revised_entries f es)
revised_fine peer us f es sorted only = record {
  in_order = sorted_revised route_cmp f es sorted;
  heard = λ prefix from h is.
      inl (revised_only f only (key_of prefix from) h (find route_cmp (key_of prefix from) es)
      (ap (option_and_then heard_if_finite) (sym (find_revised route_cmp route_total route_exact f (key_of prefix from) es sorted)) ∙ is));
}

forgotten_only : (b : Bool) (e : Entry) (h : HeardValue) → option_and_then heard_if_finite (if b then None else Some e) ≡ Some h → heard_if_finite e ≡ Some h
forgotten_only true e h is = absurd (none-some h is)
forgotten_only false e h is = is

forgotten_fine : (peer : Peer) (us : List UpdateValue) (es : RouteEntries) → is_sorted route_cmp es ≡ true → IsFine peer us es (forgotten peer es)
forgotten_fine peer us es sorted = revised_fine peer us (kept_without peer) es sorted (λ key e h is. forgotten_only (is_from peer key) e h is)

retract_all_fine : (now : ℕ) (peer : Peer) (us : List UpdateValue) (es : RouteEntries) → is_sorted route_cmp es ≡ true → IsFine peer us es (retracted_all now peer es)
retract_all_fine now peer us es sorted = revised_fine peer us (retracted_from now peer) es sorted (λ key e h is. by (is_from peer key) e h is)
  where
    by : (b : Bool) (e : Entry) (h : HeardValue) → heard_if_finite (if b then retracted_entry now e else e) ≡ Some h → heard_if_finite e ≡ Some h
    by true e h is = absurd (none-some h is)
    by false e h is = is

-- ---- states

abbrev Fine : Peer → List UpdateValue → State → State → Type 0
Fine peer us old t = IsFine peer us old.routes.entries t.routes.entries

fine_step : (peer : Peer) (us : List UpdateValue) (s : State) (b : Bool) (x y : Step) → Fine peer us s x.0 → Fine peer us s y.0 → Fine peer us s (if b then x else y).0
fine_step peer us s true x y p q = p
fine_step peer us s false x y p q = q

on_base : (peer : Peer) (us : List UpdateValue) (s t r : State) → base_of t ≡ base_of r → Fine peer us s r → Fine peer us s t
unfolding base_of
on_base peer us s t r same p = subst (λ k. Fine peer us s k) (sym same) p

on_kept : (peer : Peer) (us : List UpdateValue) (s t r : State) → kept_of t ≡ kept_of r → Fine peer us s r → Fine peer us s t
on_kept peer us s t r same p = on_base peer us s t r (base_kept r t same) p

pub advertise_if_kept : (prefix : PrefixValue) (s : State) → kept_of (advertise_if_selected prefix s) ≡ kept_of s
advertise_if_kept prefix s = if_kept _ _ _ _ (queue_kept _ s) refl

pub satisfy_kept : (source : Source) (seqno : ℕ) (s : State) → kept_of (satisfy_request source seqno s) ≡ kept_of s
unfolding satisfy_request
satisfy_kept source seqno s = if_kept _ _ _ _ (advertise_if_kept source.prefix _ ∙ requests_kept s _) refl

all_fine : (peer : Peer) (us : List UpdateValue) (now : ℕ) (s t : State) → Fine peer us s t → Fine peer us s (reselect_all now t)
all_fine peer us now s t p = on_base peer us s (reselect_all now t) t (all_base now t) p

-- ---- messages

flushed_fine : (us : List UpdateValue) (verdict : Heard) (peer : Peer) (s : State) → is_sorted route_cmp s.routes.entries ≡ true → Fine peer us s (forgets_flushed verdict peer s)
flushed_fine us Kept peer s sorted = same_fine peer us s.routes.entries sorted
flushed_fine us Flush peer s sorted = forgotten_fine peer us s.routes.entries sorted

hello_fine : (us : List UpdateValue) (now : ℕ) (peer : Peer) (unicast : Bool) (seqno interval : ℕ) (s : State) → is_sorted route_cmp s.routes.entries ≡ true → Fine peer us s (handle_hello now peer unicast seqno interval s).0
unfolding handle_hello
hello_fine us now peer unicast seqno interval s sorted =
    let heard : State = record s { neighbours = hello_of now peer unicast seqno interval s.neighbours } in
    let full : Step = (reselect_all now s, verdicts.TableFull) in
    let taken : Step = (reselect_all now (hears now peer unicast seqno interval s), verdicts.Taken) in
    fine_step peer us s (is_neighbour_too_many peer s) full taken
    (all_fine peer us now s s (same_fine peer us s.routes.entries sorted))
    (all_fine peer us now s (hears now peer unicast seqno interval s) (flushed_fine us (hello_verdict peer unicast seqno s.neighbours) peer heard sorted))

ihu_fine : (us : List UpdateValue) (now : ℕ) (peer : Peer) (to : Option Addr) (rxcost interval : ℕ) (s : State) → is_sorted route_cmp s.routes.entries ≡ true → Fine peer us s (handle_ihu now peer to rxcost interval s).0
unfolding handle_ihu
ihu_fine us now peer to rxcost interval s sorted =
    let heard : State = record s { neighbours = ihu_of now peer rxcost interval s.neighbours } in
    let taken : Step = (reselect_all now heard, verdicts.Taken) in
    fine_step peer us s (is_for_interface peer.iface to s) taken (s, verdicts.OtherAddress)
    (all_fine peer us now s heard (same_fine peer us s.routes.entries sorted)) (same_fine peer us s.routes.entries sorted)

feasible_fine : (peer : Peer) (us : List UpdateValue) (now : ℕ) (prefix : PrefixValue) (router : List ℕ) (seqno : ℕ) (s t : State) → Fine peer us s t → Fine peer us s (handle_feasible now prefix router seqno t).0
feasible_fine peer us now prefix router seqno s t p =
    let source : Source = record { prefix = prefix; router = router } in
    let r : State = reselect now None prefix t in
    on_kept peer us s (satisfy_request source seqno r) r (satisfy_kept source seqno r)
    (on_base peer us s r t (reselects_base now None prefix t) p)

unfeasible_fine : (peer : Peer) (us : List UpdateValue) (now : ℕ) (prefix : PrefixValue) (router : List ℕ) (pair : Distance) (s t : State) → Fine peer us s t → Fine peer us s (handle_unfeasible now peer prefix router pair t).0
unfeasible_fine peer us now prefix router pair s t p =
    let cause : Option UnfeasibleUpdate = Some (record { peer = peer; router = router }) in
    on_base peer us s (reselect now cause prefix t) t (reselects_base now cause prefix t) p

judges_fine : (us : List UpdateValue) (now : ℕ) (peer : Peer) (prefix : PrefixValue) (router : List ℕ) (distance : Distance) (pair : Option Distance) (s t : State) → Fine peer us s t → Fine peer us s (judge now peer prefix router distance pair t).0
judges_fine us now peer prefix router distance None s t p = feasible_fine peer us now prefix router distance.seqno s t p
judges_fine us now peer prefix router distance (Some pair) s t p =
    fine_step peer us s (is_feasible (Some pair) distance) (handle_feasible now prefix router distance.seqno t) (handle_unfeasible now peer prefix router pair t)
    (feasible_fine peer us now prefix router distance.seqno s t p) (unfeasible_fine peer us now prefix router pair s t p)

handle_update_fine : (now : ℕ) (peer : Peer) (prefix : PrefixValue) (router : List ℕ) (next_hop : Addr) (distance : Distance) (interval : ℕ) (s : State) → is_sorted route_cmp s.routes.entries ≡ true →
    Fine peer ((record { prefix = prefix; router = router; distance = distance; next_hop = next_hop }) ∷ []) s (handle_update now peer prefix router next_hop distance interval s).0
unfolding handle_update
handle_update_fine now peer prefix router next_hop distance interval s sorted =
    let us : List UpdateValue = (record { prefix = prefix; router = router; distance = distance; next_hop = next_hop }) ∷ [] in
    let same : Fine peer us s s = same_fine peer us s.routes.entries sorted in
    let stored : State = store now peer prefix router next_hop distance interval s in
    let judged : Step = judge now peer prefix router distance (pair_at prefix router s) stored in
    let fine : Fine peer us s judged.0 =
    judges_fine us now peer prefix router distance (pair_at prefix router s) s stored (update_fine now prefix peer router distance next_hop interval s.routes.entries sorted)
    in
    let full : Step = (s, verdicts.TableFull) in
    let unless_full : Step = if is_route_too_many prefix peer s then full else judged in
    fine_step peer us s (is_same_router router s.router) (s, verdicts.OwnRouterId) unless_full same
    (fine_step peer us s (is_route_too_many prefix peer s) full judged same fine)

handle_retraction_fine : (us : List UpdateValue) (now : ℕ) (peer : Peer) (prefix : PrefixValue) (s : State) → is_sorted route_cmp s.routes.entries ≡ true → Fine peer us s (handle_retraction now peer prefix s).0
unfolding handle_retraction
handle_retraction_fine us now peer prefix s sorted =
    let t : State = with_entries (retracted now prefix peer s.routes.entries) s in
    let taken : Step = (reselect now None prefix t, verdicts.Taken) in
    fine_step peer us s (is_some (entry_at prefix peer s)) taken (s, verdicts.NoEntry)
    (on_base peer us s (reselect now None prefix t) t (reselects_base now None prefix t) (retraction_fine now prefix peer us s.routes.entries sorted))
    (same_fine peer us s.routes.entries sorted)

handle_retract_all_fine : (us : List UpdateValue) (now : ℕ) (peer : Peer) (s : State) → is_sorted route_cmp s.routes.entries ≡ true → Fine peer us s (handle_retract_all now peer s).0
unfolding handle_retract_all
handle_retract_all_fine us now peer s sorted =
    let t : State = with_entries (retracted_all now peer s.routes.entries) s in
    let taken : Step = (reselect_all now t, verdicts.Taken) in
    fine_step peer us s (has_routes_from peer s.routes.entries) taken (s, verdicts.NoEntry)
    (all_fine peer us now s t (retract_all_fine now peer us s.routes.entries sorted)) (same_fine peer us s.routes.entries sorted)

-- requests change no entry
asks_fine : (peer : Peer) (us : List UpdateValue) (now : ℕ) (source : Source) (seqno hops : ℕ) (next : Option Peer) (s : State) → Fine peer us s s → Fine peer us s (forward now source seqno hops next s).0
asks_fine peer us now source seqno hops None s p = p
asks_fine peer us now source seqno hops (Some next) s p =
    on_kept peer us s (request_seqno now source seqno Never (hops - 1) (next ∷ []) s) s (asks_kept now source seqno Never (hops - 1) (next ∷ []) s) p

route_fine : (us : List UpdateValue) (now : ℕ) (peer : Peer) (source : Source) (seqno hops : ℕ) (route : Option Selection) (s : State) → Fine peer us s s → Fine peer us s (requested_of_route now peer source seqno hops route s).0
route_fine us now peer source seqno hops None s p = p
route_fine us now peer source seqno hops (Some route) s p =
    let passed : Step = forward now source seqno hops (receiver peer source.prefix s) s in
    let ends : Step = (s, verdicts.NotForwarded) in
    let redundant : Step = (s, verdicts.Redundant) in
    let with_hops : Step = if nat_lt hops 2 then ends else passed in
    let unless_redundant : Step = if is_redundant source seqno s.requests then redundant else with_hops in
    fine_step peer us s (satisfies route.entry.router route.entry.distance.seqno source.router seqno) (queue (update_to peer source.prefix ∷ []) s, verdicts.Taken) unless_redundant p
    (fine_step peer us s (is_redundant source seqno s.requests) redundant with_hops p
    (fine_step peer us s (nat_lt hops 2) ends passed p (asks_fine peer us now source seqno hops (receiver peer source.prefix s) s p)))

own_fine : (peer : Peer) (us : List UpdateValue) (source : Source) (seqno : ℕ) (s : State) (b : Bool) → Fine peer us s s →
    Fine peer us s (if b then queue (update_to peer source.prefix ∷ []) s else queue (updates_to_all source.prefix s) (raised s))
own_fine peer us source seqno s true p = p
own_fine peer us source seqno s false p = p

seqno_request_fine : (us : List UpdateValue) (now : ℕ) (peer : Peer) (source : Source) (seqno hops : ℕ) (s : State) → Fine peer us s s → Fine peer us s (handle_seqno_request now peer source seqno hops s).0
unfolding handle_seqno_request
seqno_request_fine us now peer source seqno hops s p =
    fine_step peer us s (announces source.prefix s) (requested_of_own peer source seqno s, verdicts.Taken) (requested_of_route now peer source seqno hops (selected_at source.prefix s) s)
    (own_fine peer us source seqno s (satisfies s.router s.seqno source.router seqno) p) (route_fine us now peer source seqno hops (selected_at source.prefix s) s p)

neighbour_fine : (now : ℕ) (peer : Peer) (message : Message) (s : State) → is_sorted route_cmp s.routes.entries ≡ true → Fine peer (update_of message) s (handle_from_neighbour now peer message s).0
neighbour_fine now peer (messages.AckRequest opaque interval) s sorted = same_fine peer [] s.routes.entries sorted
neighbour_fine now peer (messages.Ack opaque) s sorted = same_fine peer [] s.routes.entries sorted
neighbour_fine now peer (messages.Hello unicast seqno interval) s sorted = same_fine peer [] s.routes.entries sorted
neighbour_fine now peer (messages.Ihu to rxcost interval) s sorted = ihu_fine [] now peer to rxcost interval s sorted
neighbour_fine now peer (messages.Update prefix router next_hop seqno metric interval) s sorted =
    handle_update_fine now peer prefix router next_hop (record { seqno = seqno; metric = metric }) interval s sorted
neighbour_fine now peer (messages.Retraction prefix interval) s sorted = handle_retraction_fine [] now peer prefix s sorted
neighbour_fine now peer (messages.RetractAll interval) s sorted = handle_retract_all_fine [] now peer s sorted
neighbour_fine now peer (messages.RouteRequest prefix) s sorted = same_fine peer [] s.routes.entries sorted
neighbour_fine now peer messages.DumpRequest s sorted = same_fine peer [] s.routes.entries sorted
neighbour_fine now peer (messages.SeqnoRequest prefix router seqno hops) s sorted =
    seqno_request_fine [] now peer (record { prefix = prefix; router = router }) seqno hops s (same_fine peer [] s.routes.entries sorted)

from_neighbour : (now : ℕ) (peer : Peer) (message : Message) (s : State) → is_sorted route_cmp s.routes.entries ≡ true →
    Fine peer (update_of message) s (if is_neighbour peer s then handle_from_neighbour now peer message s else (s, verdicts.UnknownNeighbour)).0
from_neighbour now peer message s sorted =
    fine_step peer (update_of message) s (is_neighbour peer s) (handle_from_neighbour now peer message s) (s, verdicts.UnknownNeighbour)
    (neighbour_fine now peer message s sorted) (same_fine peer (update_of message) s.routes.entries sorted)

message_fine : (now : ℕ) (peer : Peer) (message : Message) (s : State) → is_sorted route_cmp s.routes.entries ≡ true → Fine peer (update_of message) s (handle_message now peer message s).0
unfolding handle_message
message_fine now peer (messages.AckRequest opaque interval) s sorted = same_fine peer [] s.routes.entries sorted
message_fine now peer (messages.Ack opaque) s sorted = from_neighbour now peer (messages.Ack opaque) s sorted
message_fine now peer (messages.Hello unicast seqno interval) s sorted = hello_fine [] now peer unicast seqno interval s sorted
message_fine now peer (messages.Ihu to rxcost interval) s sorted = from_neighbour now peer (messages.Ihu to rxcost interval) s sorted
message_fine now peer (messages.Update prefix router next_hop seqno metric interval) s sorted =
    from_neighbour now peer (messages.Update prefix router next_hop seqno metric interval) s sorted
message_fine now peer (messages.Retraction prefix interval) s sorted = from_neighbour now peer (messages.Retraction prefix interval) s sorted
message_fine now peer (messages.RetractAll interval) s sorted = from_neighbour now peer (messages.RetractAll interval) s sorted
message_fine now peer (messages.RouteRequest prefix) s sorted = from_neighbour now peer (messages.RouteRequest prefix) s sorted
message_fine now peer messages.DumpRequest s sorted = from_neighbour now peer messages.DumpRequest s sorted
message_fine now peer (messages.SeqnoRequest prefix router seqno hops) s sorted =
    from_neighbour now peer (messages.SeqnoRequest prefix router seqno hops) s sorted

pub messages_heard : MessagesAreHeard
messages_heard now peer message s sorted =
    let fine = message_fine now peer message s sorted in (fine.in_order, λ prefix from h is. fine.heard prefix from h is)

-- ---- a tick

-- In order, and heard before.
record IsLess (old es : RouteEntries) : Type 0 where
  in_order : is_sorted route_cmp es ≡ true
  heard : (prefix : PrefixValue) (from : Peer) (h : HeardValue) → heard_in prefix from es ≡ Some h → heard_in prefix from old ≡ Some h

abbrev Less : State → State → Type 0
Less old t = IsLess old.routes.entries t.routes.entries

less_revised : (f : RouteKey → Entry → Option Entry) (es : RouteEntries) → is_sorted route_cmp es ≡ true →
    ((key : RouteKey) (e : Entry) (h : HeardValue) → option_and_then heard_if_finite (f key e) ≡ Some h → heard_if_finite e ≡ Some h) →
    IsLess es (revised_entries f es)
less_revised f es sorted only = record {
  in_order = sorted_revised route_cmp f es sorted;
  heard = λ prefix from h is.
      revised_only f only (key_of prefix from) h (find route_cmp (key_of prefix from) es)
      (ap (option_and_then heard_if_finite) (sym (find_revised route_cmp route_total route_exact f (key_of prefix from) es sorted)) ∙ is);
}

less_then : (a b c : RouteEntries) → IsLess a b → IsLess b c → IsLess a c
less_then a b c p q = record { in_order = q.in_order; heard = λ prefix from h is. p.heard prefix from h (q.heard prefix from h is) }

less_on_base : (s t r : State) → base_of t ≡ base_of r → Less s r → Less s t
unfolding base_of
less_on_base s t r same p = subst (λ k. Less s k) (sym same) p

expired_only : (now : ℕ) (key : RouteKey) (e : Entry) (h : HeardValue) → option_and_then heard_if_finite (expired_entry now key e) ≡ Some h → heard_if_finite e ≡ Some h
expired_only now key e h is = by (nat_le e.deadline now) (nat_lt e.distance.metric 65535) is
  where
    by : (due finite : Bool) → option_and_then heard_if_finite (if due then (if finite then Some (retracted_entry now e) else None) else Some e) ≡ Some h → heard_if_finite e ≡ Some h
    by true true is = absurd (none-some h is)
    by true false is = absurd (none-some h is)
    by false finite is = is

less_forgotten : (peers : List Peer) (s t : State) → Less s t → Less s (forget_each peers t)
less_forgotten [] s t p = p
less_forgotten (peer ∷ peers) s t p =
    less_forgotten peers s (forget_neighbour peer t)
    (less_then s.routes.entries t.routes.entries (forgotten peer t.routes.entries) p
    (less_revised (kept_without peer) t.routes.entries p.in_order (λ key e h is. forgotten_only (is_from peer key) e h is)))

less_links : (now : ℕ) (s : State) → is_sorted route_cmp s.routes.entries ≡ true → Less s (links_ticked now s)
unfolding links_ticked
less_links now s sorted =
    less_forgotten (gone_of now s.neighbours) s (record s { neighbours = tick_of now s.neighbours })
    (record { in_order = sorted; heard = λ prefix from h is. is })

less_routes : (now : ℕ) (s t : State) → Less s t → Less s (routes_ticked now t)
unfolding routes_ticked
less_routes now s t p =
    less_then s.routes.entries t.routes.entries (expired now t.routes.entries) p (less_revised (expired_entry now) t.routes.entries p.in_order (expired_only now))

less_selected : (now : ℕ) (s : State) → is_sorted route_cmp s.routes.entries ≡ true → Less s (routes_selected now s)
less_selected now s sorted =
    let linked : State = links_ticked now s in
    let once : State = reselect_all now linked in
    let expiring : State = routes_ticked now once in
    less_on_base s (reselect_all now expiring) expiring (all_base now expiring)
    (less_routes now s once (less_on_base s once linked (all_base now linked) (less_links now s sorted)))

less_sources : (now : ℕ) (s t : State) → Less s t → Less s (sources_ticked now t)
unfolding sources_ticked
less_sources now s t p = by t.collects
  where
    by : (b : Bool) → Less s (if b then record t { sources = collected now t.sources } else t)
    by true = p
    by false = p

less_timed : (now : ℕ) (s t : State) → Less s t → Less s (interfaces_ticked now (requests_ticked now t))
unfolding interfaces_ticked requests_ticked
less_timed now s t p = p

pub ticks_heard : TicksHearNothing
unfolding ticked
ticks_heard now s sorted =
    let t : State = interfaces_ticked now (requests_ticked now (routes_selected now s)) in
    let less : Less s (sources_ticked now t) = less_sources now s t (less_timed now s (routes_selected now s) (less_selected now s sorted)) in
    (less.in_order, λ prefix from h is. less.heard prefix from h is)
