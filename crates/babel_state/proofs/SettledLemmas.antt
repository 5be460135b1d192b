-- If all selections are current, reselections find nothing to do; and what changes no cost keeps all current.
use Rattle.std.specs.Prelude.{◌≡◌, ℕ, Bool, true, false, cond, List, [], ◌∷◌, Option, Some, None}
use Rattle.std.specs.Option.{option_map_or}
use Rattle.std.specs.Ordering.{is_eq, eq_by_cmp}
use Rattle.std.specs.Cmp.{tied_itself}
use Rattle.std.specs.FinMap.{find, put}
use Rattle.std.specs.FinMap.Entries.{find-put}
use Rattle.std.proofs.Common.{refl, sym, ◌∙◌, ap, subst}
use Rattle.babel_value.specs.declared.keys.Peer.{Peer}
use Rattle.babel_value.specs.Orders.{peer_cmp, octets_cmp}
use Rattle.babel_value.specs.Prefixes.{PrefixValue}
use Rattle.babel_value.proofs.OrderLaws.{peer_total, peer_exact, octets_total}
use Rattle.babel_value.proofs.Orderings.{equal}
use Rattle.babel_link.specs.declared.links.Link.{Link}
use Rattle.babel_link.specs.declared.marks.Heard.{Heard}
use Rattle.babel_link.specs.declared.marks.Heard.TheVariants.{Kept, Flush}
use Rattle.babel_link.specs.Links.{hello_link, ihu_link, link_cost}
use Rattle.babel_link.specs.Neighbours.{Links, link_of, hello_of, hello_verdict, ihu_of, cost_of}
use Rattle.babel_choice.specs.declared.entries.Selection.{Selection}
use Rattle.babel_route.specs.Selections.{RoutesValue, IsCurrent}
use Rattle.babel_route.proofs.CurrentLemmas.{all_settled}
use Rattle.babel_state.specs.State.{State, announces, cost_at, nominal_cost, selected_at, routed_prefixes}
use Rattle.babel_state.specs.Hellos.{forgets_flushed}
use Rattle.babel_state.specs.Reselection.{select, follow_up, reselect, reselect_each, reselect_all}
use Rattle.babel_state.specs.Ticks.{requests_ticked}
use Rattle.babel_state.specs.CurrentSelections.{AreCurrent}
use Rattle.babel_state.specs.SettledLaws.{AreSelectionsInOrder, SettledReselectsNothing, HellosKeepCurrent, IhusKeepCurrent, TimersKeepCurrent}
use Rattle.babel_state.proofs.CurrentLaws.{timers_current, requests_current}

-- ---- nothing to reselect

pub same_router : (r : List ℕ) → eq_by_cmp octets_cmp r r ≡ true
same_router r = ap is_eq (tied_itself octets_total r)

-- Nothing follows where the selection is the old one.
pub nothing_follows : (now : ℕ) (p : PrefixValue) (s : State) (o : Option Selection) → follow_up now None p o o s ≡ s
nothing_follows now p s None = refl
nothing_follows now p s (Some x) = rw (same_router x.entry.router) refl

reselect_settled : (now : ℕ) (p : PrefixValue) (s : State) → AreSelectionsInOrder s → AreCurrent s → reselect now None p s ≡ s
unfolding reselect
reselect_settled now p s sorted current =
    let same : select p s ≡ s = ap (λ (r : RoutesValue). record s { routes = r }) (all_settled s.sources (cost_at s) (λ q. announces q s) (p ∷ []) s.routes sorted current) in
    ap (λ t. follow_up now None p (selected_at p s) (selected_at p t) t) same ∙ nothing_follows now p s (selected_at p s)

each_settled : (now : ℕ) (ps : List PrefixValue) (s : State) → AreSelectionsInOrder s → AreCurrent s → reselect_each now ps s ≡ s
each_settled now [] s sorted current = refl
each_settled now (p ∷ ps) s sorted current = ap (reselect_each now ps) (reselect_settled now p s sorted current) ∙ each_settled now ps s sorted current

pub nothing_reselected : SettledReselectsNothing
unfolding reselect_all
nothing_reselected now s sorted current = each_settled now (routed_prefixes s) s sorted current

-- ---- a change of one neighbour

abbrev with_links : Links → State → State
with_links links s = record s { neighbours = links }

module _ (peer : Peer) (link : Link) (links : Links) (nominal : ℕ → ℕ) where
  -- that of each other neighbour
  pub other_cost : (q : Peer) → eq_by_cmp peer_cmp q peer ≡ false → cost_of q (nominal q.iface) (put peer_cmp peer link links) ≡ cost_of q (nominal q.iface) links
  unfolding cost_of
  other_cost q other =
      ap (λ o. option_map_or (link_cost (nominal q.iface)) o 65535)
      (find-put peer_cmp peer_total q peer link links ∙ ap (λ b. cond b (Some link) (find peer_cmp q links)) other)

  pub same_cost : cost_of peer (nominal peer.iface) (put peer_cmp peer link links) ≡ cost_of peer (nominal peer.iface) links → (q : Peer) → cost_of q (nominal q.iface) (put peer_cmp peer link links) ≡ cost_of q (nominal q.iface) links
  same_cost same q = by (eq_by_cmp peer_cmp q peer) refl
    where
      by : (b : Bool) → eq_by_cmp peer_cmp q peer ≡ b → cost_of q (nominal q.iface) (put peer_cmp peer link links) ≡ cost_of q (nominal q.iface) links
      by true here =
          subst (λ x. cost_of x (nominal x.iface) (put peer_cmp peer link links) ≡ cost_of x (nominal x.iface) links)
          (sym (peer_exact q peer (equal (peer_cmp q peer) here))) same
      by false here = other_cost q here

put_current : (peer : Peer) (link : Link) (s : State) → cost_at (with_links (put peer_cmp peer link s.neighbours) s) peer ≡ cost_at s peer → AreCurrent s → AreCurrent (with_links (put peer_cmp peer link s.neighbours) s)
put_current peer link s same current p =
    let costs : cost_at s ≡ cost_at (with_links (put peer_cmp peer link s.neighbours) s) =
    λ i q. sym (same_cost peer link s.neighbours (λ iface. nominal_cost iface s) same q) i
    in
    subst (λ cost. IsCurrent s.sources cost p (announces p s) s.routes) costs (current p)

pub hello_current : HellosKeepCurrent
unfolding hello_of
hello_current now peer unicast seqno interval s kept same current = by (hello_verdict peer unicast seqno s.neighbours) kept same
  where
    heard : State
    heard = with_links (put peer_cmp peer (hello_link now unicast seqno interval (link_of peer s.neighbours)) s.neighbours) s

    by : (v : Heard) → v ≡ Kept → cost_at (forgets_flushed v peer heard) peer ≡ cost_at s peer → AreCurrent (forgets_flushed v peer heard)
    by Kept is same = put_current peer (hello_link now unicast seqno interval (link_of peer s.neighbours)) s same current
    by Flush is same = cc

pub ihu_current : IhusKeepCurrent
unfolding ihu_of
ihu_current now peer rxcost interval s same current = by (find peer_cmp peer s.neighbours) same
  where
    after : Option Link → State
    after o = with_links (option_map_or (λ link. put peer_cmp peer (ihu_link now rxcost interval link) s.neighbours) o s.neighbours) s

    by : (o : Option Link) → cost_at (after o) peer ≡ cost_at s peer → AreCurrent (after o)
    by None same = current
    by (Some link) same = put_current peer (ihu_link now rxcost interval link) s same current

pub timers_settled : TimersKeepCurrent
timers_settled now s current p = timers_current p now (requests_ticked now s) (requests_current p now s (current p))
