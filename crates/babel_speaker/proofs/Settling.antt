-- What keeps all selections current, and what there is to do then.
use Rattle.std.specs.Prelude.{◌≡◌, ℕ, Bool, true, List, []}
use Rattle.std.specs.FinMap.{is_sorted}
use Rattle.std.proofs.Common.{sym, ap, ◌∙◌, subst}
use Rattle.babel_value.specs.declared.keys.Peer.{Peer}
use Rattle.babel_value.specs.Orders.{prefix_cmp}
use Rattle.babel_choice.specs.RouteKeys.{route_cmp}
use Rattle.babel_route.specs.Selections.{IsCurrent}
use Rattle.babel_state.specs.State.{State}
use Rattle.babel_state.specs.Reselection.{reselect_all}
use Rattle.babel_state.specs.Ticks.{forget_each, interfaces_ticked, requests_ticked}
use Rattle.babel_state.specs.CurrentSelections.{AreCurrent}
use Rattle.babel_state.proofs.CurrentLaws.{reselections_current}
use Rattle.babel_state.proofs.SettledLemmas.{nothing_reselected, timers_settled, hello_current, ihu_current}
use Rattle.babel_link.specs.declared.marks.Heard.TheVariants.{Kept}
use Rattle.babel_link.specs.Neighbours.{Links, hello_verdict, cost_of}
use Rattle.babel_state.specs.Hellos.{hears}
use Rattle.babel_state.specs.SettledLaws.{with_ihu}
use Rattle.babel_state.specs.State.{announces, nominal_cost, cost_at}

-- ---- reselections

pub settled_all : (now : ℕ) (s : State) → is_sorted prefix_cmp s.routes.selections ≡ true → AreCurrent s → s ≡ reselect_all now s
settled_all now s sorted current = sym (nothing_reselected now s sorted current)

pub current_all : (now : ℕ) (s t : State) → is_sorted route_cmp s.routes.entries ≡ true → t ≡ reselect_all now s → AreCurrent t
current_all now s t sorted is = subst AreCurrent (sym is) (λ p. reselections_current now s sorted p)

-- What changed nothing leaves all current.
pub still_current : (s t : State) → t ≡ s → AreCurrent s → AreCurrent t
still_current s t same current = subst AreCurrent (sym same) current

pub timed_current : (now : ℕ) (s t u v : State) → AreCurrent s → t ≡ requests_ticked now s → u ≡ interfaces_ticked now t → v ≡ u → AreCurrent v
timed_current now s t u v current requests timers same =
    subst AreCurrent (sym (same ∙ timers ∙ (λ i. interfaces_ticked now (requests i)))) (timers_settled now s current)

-- ---- Hellos and IHUs

pub heard_current : (now : ℕ) (peer : Peer) (unicast : Bool) (seqno interval : ℕ) (s t : State) → t ≡ hears now peer unicast seqno interval s → hello_verdict peer unicast seqno s.neighbours ≡ Kept → cost_at t peer ≡ cost_at s peer → AreCurrent s → AreCurrent t
heard_current now peer unicast seqno interval s t is kept same current =
    subst AreCurrent (sym is) (hello_current now peer unicast seqno interval s kept (sym (λ i. cost_at (is i) peer) ∙ same) current)

pub ihu_current_to : (now : ℕ) (peer : Peer) (rxcost interval : ℕ) (s t : State) → t ≡ with_ihu now peer rxcost interval s → cost_at t peer ≡ cost_at s peer → AreCurrent s → AreCurrent t
ihu_current_to now peer rxcost interval s t is same current =
    subst AreCurrent (sym is) (ihu_current now peer rxcost interval s (sym (λ i. cost_at (is i) peer) ∙ same) current)

-- ---- deadlines of links

-- If a tick flushes no neighbour and changes no cost, all stay current.
pub ticked_current : (s t : State) (links : Links) (gone : List Peer) → t ≡ forget_each gone (record s { neighbours = links }) →
    ((peer : Peer) (nominal : ℕ) → cost_of peer nominal links ≡ cost_of peer nominal s.neighbours) → gone ≡ [] →
    AreCurrent s → AreCurrent t
ticked_current s t links gone is same none current =
    let after : State = record s { neighbours = links } in
    subst AreCurrent (sym (is ∙ ap (λ peers. forget_each peers after) none))
    (λ p. subst (λ cost. IsCurrent s.sources cost p (announces p s) s.routes)
    (λ i peer. sym (same peer (nominal_cost peer.iface s)) i) (current p))
