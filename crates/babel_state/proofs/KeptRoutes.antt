-- What leaves the selected routes as they are.
use Rattle.std.specs.Prelude.{◌≡◌, ℕ, Bool, true, false, cond, map, slice_get, Option, Some, None}
use Rattle.std.specs.Option.{option_map, option_map_or}
use Rattle.std.specs.Ordering.{eq_by_cmp}
use Rattle.std.specs.FinMap.{find, put}
use Rattle.std.proofs.Common.{refl, sym, ◌∙◌, ap, subst}
use Rattle.std.proofs.lemmas.Bool.{and_parts}
use Rattle.std.proofs.lemmas.Option.{slice_get-map}
use Rattle.babel_value.specs.declared.keys.Peer.{Peer}
use Rattle.babel_value.specs.declared.keys.Source.{Source}
use Rattle.babel_value.specs.Orders.{addr_cmp, octets_cmp, peer_cmp, prefix_cmp}
use Rattle.babel_value.proofs.OrderLaws.{addr_exact, octets_exact, peer_exact}
use Rattle.babel_value.specs.Prefixes.{PrefixValue}
use Rattle.babel_value.proofs.Orderings.{equal}
use Rattle.babel_link.specs.declared.links.Link.{Link}
use Rattle.babel_link.specs.declared.marks.Heard.{Heard}
use Rattle.babel_link.specs.declared.marks.Heard.TheVariants.{Kept, Flush}
use Rattle.babel_link.specs.Links.{hello_link, ihu_link}
use Rattle.babel_link.specs.Neighbours.{link_of, hello_of, hello_verdict, ihu_of, cost_of}
use Rattle.babel_choice.specs.declared.entries.Selection.{Selection}
use Rattle.babel_choice.specs.Routes.{RouteEntries, key_of}
use Rattle.babel_route.specs.Currency.{is_same_distance}
use Rattle.babel_choice.specs.Choices.{route_metric}
use Rattle.babel_route.specs.Selections.{choice_at}
use Rattle.babel_route.proofs.CurrencyLemmas.{same_distance}
use Rattle.babel_sources.specs.Sources.{collected}
use Rattle.babel_state.specs.declared.selected.Selected.{Selected}
use Rattle.babel_state.specs.State.{State, announces, interface_at, nominal_cost, cost_at, selected_at, with_entries}
use Rattle.babel_state.specs.Reselection.{UnfeasibleUpdate, select, follow_up}
use Rattle.babel_state.specs.Hellos.{forgets_flushed, hears}
use Rattle.babel_state.specs.Updates.{satisfy_request}
use Rattle.babel_state.specs.Ticks.{requests_ticked, fired, interfaces_ticked, sources_ticked}
use Rattle.babel_state.specs.Calls.{reported_selected, selected_route}
use Rattle.babel_state.specs.Sameness.{is_same_addr, is_same_peer, is_same_router}
use Rattle.babel_state.specs.StepLaws.{kept_of}
use Rattle.babel_state.specs.SettledLaws.{with_ihu}
use Rattle.babel_route.specs.SelectionChanges.{is_alike, are_alike}
use Rattle.babel_state.specs.KeptRoutes.{KeepsRoutes}
use Rattle.babel_state.proofs.CurrentLaws.{cost_fired}
use Rattle.babel_state.proofs.Reselecting.{if_kept, requests_kept, follows_kept}
use Rattle.babel_state.proofs.Selecting.{selected_after, same_prefix}
use Rattle.babel_state.proofs.SettledLemmas.{same_cost}
use Rattle.babel_state.proofs.Hearing.{advertise_if_kept}

-- ---- in general

pub same_routes : (s t : State) → t ≡ s → KeepsRoutes s t
same_routes s t same prefix = ap (selected_route prefix) same

pub routes_through : (s t u : State) → KeepsRoutes s t → KeepsRoutes t u → KeepsRoutes s u
routes_through s t u one other prefix = other prefix ∙ one prefix

abbrev reported : (Peer → ℕ) → PrefixValue → Selection → Selected
reported cost prefix route = record {
  peer = route.peer;
  next_hop = route.entry.next_hop;
  router = route.entry.router;
  distance = route.entry.distance;
  metric = route_metric cost (key_of prefix route.peer, route.entry);
}

-- The selections and the costs are the same.
pub parts_routes : (s t : State) → ((prefix : PrefixValue) → selected_at prefix t ≡ selected_at prefix s) → cost_at t ≡ cost_at s → KeepsRoutes s t
unfolding selected_route
parts_routes s t selections costs prefix = λ i. option_map (reported (costs i) prefix) (selections prefix i)

-- ---- after a selection

-- The same is reported of what is alike.
reported_alike : (cost : Peer → ℕ) (prefix : PrefixValue) (a b : Selection) → is_alike a b ≡ true → reported cost prefix a ≡ reported cost prefix b
reported_alike cost prefix a b alike =
    let first = and_parts (is_same_peer a.peer b.peer) _ alike in
    let second = and_parts (is_same_router a.entry.router b.entry.router) _ first.1 in
    let third = and_parts (is_same_addr a.entry.next_hop b.entry.next_hop) (is_same_distance a.entry.distance b.entry.distance) second.1 in
    let peer = peer_exact a.peer b.peer (equal (peer_cmp a.peer b.peer) first.0) in
    let router = octets_exact a.entry.router b.entry.router (equal (octets_cmp a.entry.router b.entry.router) second.0) in
    let next_hop = addr_exact a.entry.next_hop b.entry.next_hop (equal (addr_cmp a.entry.next_hop b.entry.next_hop) third.0) in
    let distance = same_distance a.entry.distance b.entry.distance third.1 in
    λ i. reported cost prefix (record {
      peer = peer i;
      entry = record a.entry { router = router i; next_hop = next_hop i; distance = distance i };
    })

reports_alike : (cost : Peer → ℕ) (prefix : PrefixValue) (old new : Option Selection) → are_alike old new ≡ true → option_map (reported cost prefix) new ≡ option_map (reported cost prefix) old
reports_alike cost prefix None None alike = refl
reports_alike cost prefix None (Some new) alike = cc
reports_alike cost prefix (Some old) None alike = cc
reports_alike cost prefix (Some old) (Some new) alike = ap Some (sym (reported_alike cost prefix old new alike))

-- One prefix is selected again, and the new selection is like the old one.
pub selected_routes : (p : PrefixValue) (entries : RouteEntries) (s t : State) (old new : Option Selection) → t ≡ select p (with_entries entries s) →
    old ≡ selected_at p s → new ≡ selected_at p t → are_alike old new ≡ true → KeepsRoutes s t
unfolding selected_route
selected_routes p entries s t old new is before after alike prefix =
    subst (λ (x : State). selected_route prefix x ≡ selected_route prefix s) (sym is) (by (eq_by_cmp prefix_cmp prefix p) refl)
  where
    u : State
    u = select p (with_entries entries s)

    by : (b : Bool) → eq_by_cmp prefix_cmp prefix p ≡ b → selected_route prefix u ≡ selected_route prefix s
    by true here =
        subst (λ q. selected_route q u ≡ selected_route q s) (sym (same_prefix prefix p here))
        (ap (option_map (reported_selected p s)) (sym (after ∙ ap (selected_at p) is)) ∙ reports_alike (cost_at s) p old new alike ∙ ap (option_map (reported_selected p s)) before)
    by false other =
        ap (option_map (reported_selected prefix s))
        (selected_after prefix p (with_entries entries s)
        ∙ ap (λ b. cond b (choice_at s.sources (cost_at s) p (announces p s) (with_entries entries s).routes) (selected_at prefix s)) other)

pub kept_routes : (s t : State) → kept_of t ≡ kept_of s → KeepsRoutes s t
unfolding kept_of selected_route
kept_routes s t same prefix = ap (selected_route prefix) same

-- What follows from a selection queues and requests alone.
pub follows_routes : (now : ℕ) (cause : Option UnfeasibleUpdate) (prefix : PrefixValue) (old new : Option Selection) (s t : State) → t ≡ follow_up now cause prefix old new s → KeepsRoutes s t
follows_routes now cause prefix old new s t is = kept_routes s t (ap kept_of is ∙ follows_kept now cause prefix old new s)

pub satisfies_routes : (source : Source) (seqno : ℕ) (s t : State) → t ≡ satisfy_request source seqno s → KeepsRoutes s t
unfolding satisfy_request
satisfies_routes source seqno s t is =
    kept_routes s t (ap kept_of is ∙ if_kept _ _ _ _ (advertise_if_kept source.prefix _ ∙ requests_kept s _) refl)

-- ---- after a Hello or an IHU

abbrev with_link : Peer → Link → State → State
with_link peer link s = record s { neighbours = put peer_cmp peer link s.neighbours }

link_routes : (peer : Peer) (link : Link) (s : State) → cost_at (with_link peer link s) peer ≡ cost_at s peer → KeepsRoutes s (with_link peer link s)
link_routes peer link s same =
    parts_routes s (with_link peer link s) (λ prefix. refl)
    (λ i q. same_cost peer link s.neighbours (λ iface. nominal_cost iface s) same q i)

pub hello_routes : (now : ℕ) (peer : Peer) (unicast : Bool) (seqno interval : ℕ) (s t : State) → t ≡ hears now peer unicast seqno interval s →
    hello_verdict peer unicast seqno s.neighbours ≡ Kept → cost_at t peer ≡ cost_at s peer → KeepsRoutes s t
unfolding hello_of
hello_routes now peer unicast seqno interval s t is kept same =
    subst (KeepsRoutes s) (sym is) (by (hello_verdict peer unicast seqno s.neighbours) kept (sym (λ i. cost_at (is i) peer) ∙ same))
  where
    heard : State
    heard = with_link peer (hello_link now unicast seqno interval (link_of peer s.neighbours)) s

    by : (v : Heard) → v ≡ Kept → cost_at (forgets_flushed v peer heard) peer ≡ cost_at s peer → KeepsRoutes s (forgets_flushed v peer heard)
    by Kept is same = link_routes peer (hello_link now unicast seqno interval (link_of peer s.neighbours)) s same
    by Flush is same = cc

pub ihu_routes : (now : ℕ) (peer : Peer) (rxcost interval : ℕ) (s t : State) → t ≡ with_ihu now peer rxcost interval s →
    cost_at t peer ≡ cost_at s peer → KeepsRoutes s t
unfolding ihu_of
ihu_routes now peer rxcost interval s t is same =
    subst (KeepsRoutes s) (sym is) (by (find peer_cmp peer s.neighbours) (sym (λ i. cost_at (is i) peer) ∙ same))
  where
    after : Option Link → State
    after o = record s { neighbours = option_map_or (λ link. put peer_cmp peer (ihu_link now rxcost interval link) s.neighbours) o s.neighbours }

    by : (o : Option Link) → cost_at (after o) peer ≡ cost_at s peer → KeepsRoutes s (after o)
    by None same = same_routes s s refl
    by (Some link) same = link_routes peer (ihu_link now rxcost interval link) s same

-- ---- after a tick

requests_routes : (now : ℕ) (s : State) → KeepsRoutes s (requests_ticked now s)
unfolding requests_ticked selected_route
requests_routes now s prefix = refl

interfaces_routes : (now : ℕ) (s : State) → KeepsRoutes s (interfaces_ticked now s)
unfolding interfaces_ticked
interfaces_routes now s =
    let nominal : (iface : ℕ) → option_map_or (λ i. i.cost) (slice_get (map (fired now) s.interfaces) iface) 65535 ≡ nominal_cost iface s =
    λ iface. ap (λ o. option_map_or (λ i. i.cost) o 65535) (slice_get-map (fired now) s.interfaces iface) ∙ cost_fired now (interface_at iface s)
    in
    parts_routes s (interfaces_ticked now s) (λ prefix. refl) (λ i peer. cost_of peer (nominal peer.iface i) s.neighbours)

sources_routes : (now : ℕ) (s : State) → KeepsRoutes s (sources_ticked now s)
unfolding sources_ticked selected_route
sources_routes now s prefix = by s.collects
  where
    by : (b : Bool) → selected_route prefix (cond b (record s { sources = collected now s.sources }) s) ≡ selected_route prefix s
    by true = refl
    by false = refl

-- The deadlines of requests, interfaces and sources concern no route.
pub timers_routes : (now : ℕ) (s t : State) → t ≡ sources_ticked now (interfaces_ticked now (requests_ticked now s)) → KeepsRoutes s t
timers_routes now s t is prefix =
    ap (selected_route prefix) is ∙ sources_routes now (interfaces_ticked now (requests_ticked now s)) prefix
    ∙ interfaces_routes now (requests_ticked now s) prefix ∙ requests_routes now s prefix
