-- If the cost of one link changed, the selections of the prefixes to which its neighbour has no route stay current.
use Rattle.std.specs.Prelude.{◌≡◌, ℕ, Bool, true, false, cond, not, ◌&&◌, List, [], ◌∷◌, map, filter, IfSome, ⊤, nat_lt, Option, Some, None, if◌then◌else◌}
use Rattle.std.specs.Option.{option_map, option_map_or}
use Rattle.std.specs.Ordering.{eq_by_cmp, is_lt}
use Rattle.std.specs.FinMap.{find, put}
use Rattle.std.proofs.Common.{refl, sym, ◌∙◌, ap, subst}
use Rattle.std.proofs.lemmas.Bool.{or_parts, false≢true}
use Rattle.babel_value.specs.declared.keys.Peer.{Peer}
use Rattle.babel_value.specs.declared.distances.Distance.{Distance}
use Rattle.babel_value.specs.declared.addresses.Addr.{Addr}
use Rattle.babel_value.specs.Metrics.{metric_sum}
use Rattle.babel_value.specs.Orders.{prefix_cmp, peer_cmp}
use Rattle.babel_value.specs.Prefixes.{PrefixValue}
use Rattle.babel_value.proofs.OrderLaws.{prefix_total}
use Rattle.babel_link.specs.declared.links.Link.{Link}
use Rattle.babel_link.specs.declared.marks.Heard.{Heard}
use Rattle.babel_link.specs.declared.marks.Heard.TheVariants.{Kept, Flush}
use Rattle.babel_link.specs.Links.{hello_link, ihu_link}
use Rattle.babel_link.specs.Neighbours.{Links, link_of, hello_of, hello_verdict, ihu_of, cost_of}
use Rattle.babel_table.specs.Firsts.{first_from, first_of}
use Rattle.babel_table.proofs.LookupLemmas.{eq_turned}
use Rattle.babel_choice.specs.declared.entries.Selection.{Selection}
use Rattle.babel_choice.specs.declared.entries.Entry.{Entry}
use Rattle.babel_choice.specs.RouteKeys.{route_cmp}
use Rattle.babel_choice.specs.Routes.{Route, RouteEntries, key_of, is_from, routes_but, retracted, retracted_entry, updated, entry_of_update, all_forgotten}
use Rattle.babel_sources.specs.Sources.{Sources}
use Rattle.babel_choice.specs.Choices.{is_of, routes_of, is_candidate, is_feasible_route, preference, rank_cmp, is_change, selection_of, peer_before, choice}
use Rattle.babel_route.specs.Selections.{IsCurrentBut}
use Rattle.babel_route.proofs.OneChangeLemmas.{current_but, routes_but_put}
use Rattle.babel_state.specs.Sameness.{has_prefix}
use Rattle.babel_state.specs.State.{State, announces, cost_at, nominal_cost, selected_at, with_entries}
use Rattle.babel_state.specs.Updates.{store}
use Rattle.babel_state.specs.Hellos.{hears, forget_neighbour, forgets_flushed}
use Rattle.babel_state.specs.Ticks.{forget_each}
use Rattle.babel_state.specs.CurrentSelections.{IsCurrentAt, AreCurrent}
use Rattle.babel_state.specs.SettledLaws.{with_ihu}
use Rattle.babel_state.proofs.SettledLemmas.{other_cost}
use Rattle.babel_speaker.specs.LinkChanges.{prefixes_from, AreCurrentBut, AreOthersCurrent}

-- ---- the choice by costs that are the same for the neighbours of the routes

module _ (sources : Sources) (old new : Peer → ℕ) where
  abbrev IsSame : Route → Type 0
  IsSame route = old route.0.peer ≡ new route.0.peer

  abbrev pub AreSame : RouteEntries → Type 0
  AreSame [] = ⊤
  AreSame (r ∷ rs) = IsSame r × AreSame rs

  filtered_same : (passes : Route → Bool) (routes : RouteEntries) → AreSame routes → AreSame (filter passes routes)
  filtered_same passes [] all = tt
  filtered_same passes (r ∷ rs) all = by (passes r) (filtered_same passes rs all.1)
    where
      by : (b : Bool) → AreSame (filter passes rs) → AreSame (cond b (r ∷ filter passes rs) (filter passes rs))
      by true rest = (all.0, rest)
      by false rest = rest

  same_candidates : (routes : RouteEntries) → AreSame routes → filter (is_candidate sources old) routes ≡ filter (is_candidate sources new) routes
  same_candidates [] all = refl
  same_candidates (r ∷ rs) all =
      let here : is_candidate sources old r ≡ is_candidate sources new r = λ i. is_feasible_route sources r && nat_lt (metric_sum r.1.distance.metric (all.0 i)) 65535 in
      let rest = same_candidates rs all.1 in
      λ i. cond (here i) (r ∷ rest i) (rest i)

  same_preference : (before : Option Peer) (a b : Route) → IsSame a → IsSame b → preference old before a b ≡ preference new before a b
  same_preference before a b one other = λ i. rank_cmp
      (record { metric = metric_sum a.1.distance.metric (one i); is_change = is_change before a.0.peer; peer = a.0.peer })
      (record { metric = metric_sum b.1.distance.metric (other i); is_change = is_change before b.0.peer; peer = b.0.peer })

  one_of : (b : Bool) (x y : Route) → IsSame x → IsSame y → IsSame (if b then x else y)
  one_of true x y here there = here
  one_of false x y here there = there

  pub same_first : (before : Option Peer) (found : Option Route) (routes : RouteEntries) → IfSome found IsSame → AreSame routes → first_from (preference old before) found routes ≡ first_from (preference new before) found routes
  same_first before found [] some all = refl
  same_first before None (r ∷ rs) some all = same_first before (Some r) rs all.0 all.1
  same_first before (Some f) (r ∷ rs) some all =
      same_first before (Some (if is_lt (preference old before r f) then r else f)) rs (one_of (is_lt (preference old before r f)) r f all.0 some) all.1
      ∙ ap (λ o. first_from (preference new before) (Some (if is_lt o then r else f)) rs) (same_preference before r f all.0 some)

  same_choice : (p : PrefixValue) (local : Bool) (before : Option Selection) (es : RouteEntries) → AreSame (routes_of p es) → choice sources old p local before es ≡ choice sources new p local before es
  same_choice p true before es all = refl
  same_choice p false before es all =
      let routes = routes_of p es in
      ap (λ rs. option_map selection_of (first_of (preference old (peer_before before)) rs)) (same_candidates routes all)
      ∙ ap (option_map selection_of) (same_first (peer_before before) None (filter (is_candidate sources new) routes) tt (filtered_same (is_candidate sources new) routes all))

  -- a prefix to which the neighbour has no route
  all_same : (peer : Peer) → ((q : Peer) → eq_by_cmp peer_cmp q peer ≡ false → old q ≡ new q) → (p : PrefixValue) (es : RouteEntries) → has_prefix p (prefixes_from peer es) ≡ false → AreSame (routes_of p es)
  all_same peer others p [] none = tt
  all_same peer others p (e ∷ es) none = by (is_from peer e.0) (is_of p e) refl refl none (all_same peer others p es)
    where
      rest : RouteEntries
      rest = filter (λ f. is_from peer f.0) es

      by : (from of : Bool) → is_from peer e.0 ≡ from → is_of p e ≡ of → has_prefix p (map (λ f. f.0.prefix) (cond from (e ∷ rest) rest)) ≡ false → (has_prefix p (prefixes_from peer es) ≡ false → AreSame (routes_of p es)) → AreSame (cond of (e ∷ routes_of p es) (routes_of p es))
      by true true from of none later =
          let parts = or_parts (eq_by_cmp prefix_cmp p e.0.prefix) (has_prefix p (map (λ f. f.0.prefix) rest)) none in
          absurd (false≢true (sym parts.0 ∙ eq_turned prefix_cmp prefix_total p e.0.prefix ∙ of))
      by true false from of none later = later (or_parts (eq_by_cmp prefix_cmp p e.0.prefix) (has_prefix p (map (λ f. f.0.prefix) rest)) none).1
      by false true from of none later = (others e.0.peer from, later none)
      by false false from of none later = later none

  -- the routes of the other neighbours
  but_same : (peer : Peer) → ((q : Peer) → eq_by_cmp peer_cmp q peer ≡ false → old q ≡ new q) → (p : PrefixValue) (es : RouteEntries) → AreSame (routes_of p (routes_but peer es))
  but_same peer others p [] = tt
  but_same peer others p (e ∷ es) = by (is_from peer e.0) (is_of p e) refl refl (but_same peer others p es)
    where
      by : (from of : Bool) → is_from peer e.0 ≡ from → is_of p e ≡ of → AreSame (routes_of p (routes_but peer es)) → AreSame (routes_of p (cond (not from) (e ∷ routes_but peer es) (routes_but peer es)))
      by true of from here rest = rest
      by false true from here rest = rw here (others e.0.peer from, rest)
      by false false from here rest = rw here rest

-- ---- current but for a neighbour's routes

-- A change of the neighbour's cost alone.
costs_but : (peer : Peer) (cost : Peer → ℕ) (s : State) → ((q : Peer) → eq_by_cmp peer_cmp q peer ≡ false → cost_at s q ≡ cost q) → AreCurrent s → (p : PrefixValue) → IsCurrentBut s.sources cost peer p (announces p s) s.routes
costs_but peer cost s others current p = λ changes.
    current_but s.sources (cost_at s) peer p (announces p s) (selected_at p s) s.routes.entries (current p) changes
    ∙ same_choice s.sources (cost_at s) cost p (announces p s) (selected_at p s) (routes_but peer s.routes.entries)
    (but_same s.sources (cost_at s) cost peer others p s.routes.entries)

-- A change of the neighbour's routes alone.
entries_but : (peer : Peer) (es : RouteEntries) (s : State) → routes_but peer es ≡ routes_but peer s.routes.entries → AreCurrent s → AreCurrentBut peer (with_entries es s)
entries_but peer es s same current p = λ changes.
    current_but s.sources (cost_at s) peer p (announces p s) (selected_at p s) s.routes.entries (current p) changes
    ∙ ap (choice s.sources (cost_at s) p (announces p s) (selected_at p s)) (sym same)

-- An Update of the neighbour that is stored.
pub stored_but : (now : ℕ) (peer : Peer) (prefix : PrefixValue) (router : List ℕ) (next_hop : Addr) (distance : Distance) (interval : ℕ) (s t : State) → t ≡ store now peer prefix router next_hop distance interval s → AreCurrent s → AreCurrentBut peer t
stored_but now peer prefix router next_hop distance interval s t is current =
    subst (AreCurrentBut peer) (sym is)
    (entries_but peer (updated now prefix peer router distance next_hop interval s.routes.entries) s
    (routes_but_put peer prefix (entry_of_update now router distance next_hop interval) s.routes.entries) current)

-- A retraction of the neighbour.
pub retracted_but : (now : ℕ) (peer : Peer) (prefix : PrefixValue) (s t : State) → t ≡ with_entries (retracted now prefix peer s.routes.entries) s → AreCurrent s → AreCurrentBut peer t
retracted_but now peer prefix s t is current =
    subst (AreCurrentBut peer) (sym is)
    (entries_but peer (retracted now prefix peer s.routes.entries) s (same (find route_cmp (key_of prefix peer) s.routes.entries)) current)
  where
    es : RouteEntries
    es = s.routes.entries

    same : (found : Option Entry) → routes_but peer (option_map_or (λ e. put route_cmp (key_of prefix peer) (retracted_entry now e) es) found es) ≡ routes_but peer es
    same None = refl
    same (Some e) = routes_but_put peer prefix (retracted_entry now e) es

-- ---- after a Hello or an IHU

abbrev with_links : Links → State → State
with_links links s = record s { neighbours = links }

put_others : (peer : Peer) (link : Link) (s : State) → AreCurrent s → AreOthersCurrent peer (with_links (put peer_cmp peer link s.neighbours) s)
put_others peer link s current = (λ p none. without p none, costs_but peer (cost_at t) s others current)
  where
    t : State
    t = with_links (put peer_cmp peer link s.neighbours) s

    others : (q : Peer) → eq_by_cmp peer_cmp q peer ≡ false → cost_at s q ≡ cost_at t q
    others q other = sym (other_cost peer link s.neighbours (λ iface. nominal_cost iface s) q other)

    without : (p : PrefixValue) → has_prefix p (prefixes_from peer s.routes.entries) ≡ false → IsCurrentAt p t
    without p none =
        current p
        ∙ same_choice s.sources (cost_at s) (cost_at t) p (announces p s) (selected_at p s) s.routes.entries
        (all_same s.sources (cost_at s) (cost_at t) peer others p s.routes.entries none)

unchanged_others : (peer : Peer) (s : State) → AreCurrent s → AreOthersCurrent peer s
unchanged_others peer s current = (λ p none. current p, costs_but peer (cost_at s) s (λ q other. refl) current)

pub hello_others : (now : ℕ) (peer : Peer) (unicast : Bool) (seqno interval : ℕ) (s t : State) → t ≡ hears now peer unicast seqno interval s → hello_verdict peer unicast seqno s.neighbours ≡ Kept → AreCurrent s → AreOthersCurrent peer t
unfolding hello_of
hello_others now peer unicast seqno interval s t is kept current = subst (AreOthersCurrent peer) (sym is) (by (hello_verdict peer unicast seqno s.neighbours) kept)
  where
    link : Link
    link = hello_link now unicast seqno interval (link_of peer s.neighbours)

    by : (v : Heard) → v ≡ Kept → AreOthersCurrent peer (forgets_flushed v peer (with_links (put peer_cmp peer link s.neighbours) s))
    by Kept is = put_others peer link s current
    by Flush is = cc

pub ihu_others : (now : ℕ) (peer : Peer) (rxcost interval : ℕ) (s t : State) → t ≡ with_ihu now peer rxcost interval s → AreCurrent s → AreOthersCurrent peer t
unfolding ihu_of
ihu_others now peer rxcost interval s t is current = subst (AreOthersCurrent peer) (sym is) (by (find peer_cmp peer s.neighbours))
  where
    by : (o : Option Link) → AreOthersCurrent peer (with_links (option_map_or (λ link. put peer_cmp peer (ihu_link now rxcost interval link) s.neighbours) o s.neighbours) s)
    by None = unchanged_others peer s current
    by (Some link) = put_others peer (ihu_link now rxcost interval link) s current

-- The cost of the link as the speaker has it, if the link costs what it did at each nominal cost.
pub hello_cost : (now : ℕ) (peer : Peer) (unicast : Bool) (seqno interval : ℕ) (s t : State) → t ≡ hears now peer unicast seqno interval s → ((nominal : ℕ) → cost_of peer nominal t.neighbours ≡ cost_of peer nominal s.neighbours) → cost_at t peer ≡ cost_at s peer
hello_cost now peer unicast seqno interval s t is same =
    ap (λ nominal. cost_of peer nominal t.neighbours) (ap (nominal_cost peer.iface) is ∙ by (hello_verdict peer unicast seqno s.neighbours)) ∙ same (nominal_cost peer.iface s)
  where
    by : (v : Heard) → nominal_cost peer.iface (forgets_flushed v peer (with_links (hello_of now peer unicast seqno interval s.neighbours) s)) ≡ nominal_cost peer.iface s
    by Kept = refl
    by Flush = refl

pub ihu_cost : (now : ℕ) (peer : Peer) (rxcost interval : ℕ) (s t : State) → t ≡ with_ihu now peer rxcost interval s → ((nominal : ℕ) → cost_of peer nominal t.neighbours ≡ cost_of peer nominal s.neighbours) → cost_at t peer ≡ cost_at s peer
ihu_cost now peer rxcost interval s t is same = ap (λ nominal. cost_of peer nominal t.neighbours) (ap (nominal_cost peer.iface) is) ∙ same (nominal_cost peer.iface s)

-- ---- after a tick

-- Forgetting the routes of each neighbour changes the route table alone.
pub all_forgets : (peers : List Peer) (s : State) → record s { routes = record s.routes { entries = all_forgotten peers s.routes.entries } } ≡ forget_each peers s
all_forgets [] s = refl
all_forgets (peer ∷ peers) s = all_forgets peers (forget_neighbour peer s)
