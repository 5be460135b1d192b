-- Requests leave the selected routes as they are.
use Rattle.std.specs.Prelude.{◌≡◌, ℕ, Bool, true, false, List, [], ◌∷◌, nat_lt, Option, Some, None, if◌then◌else◌}
use Rattle.std.proofs.Common.{refl, sym, ap, subst}
use Rattle.babel_value.specs.declared.keys.Peer.{Peer}
use Rattle.babel_value.specs.declared.keys.Source.{Source}
use Rattle.babel_value.specs.Prefixes.{PrefixValue}
use Rattle.babel_choice.specs.declared.entries.Selection.{Selection}
use Rattle.babel_state.specs.declared.items.Item.{Item}
use Rattle.babel_state.specs.declared.notes.Verdict.{Verdict}
use Rattle.babel_state.specs.declared.notes.Verdict.TheVariants as verdicts
use Rattle.babel_state.specs.Hellos.{Step}
use Rattle.babel_state.specs.KeptRoutes.{KeepsRoutes}
use Rattle.babel_state.specs.PendingRequests.{is_redundant}
use Rattle.babel_state.specs.Reselection.{queue, update_to, updates_to_all}
use Rattle.babel_state.specs.SeqnoRequests.{raised, satisfies, requested_of_own, forward, receiver, requested_of_route, handle_route_request, handle_dump_request, handle_seqno_request}
use Rattle.babel_state.specs.State.{State, announces, selected_at}
use Rattle.babel_state.proofs.KeptRoutes.{same_routes, parts_routes, kept_routes}
use Rattle.babel_state.proofs.Reselecting.{queue_kept, asks_kept}

-- ---- cases

if_state : (b : Bool) (x y s : State) → KeepsRoutes s x → KeepsRoutes s y → KeepsRoutes s (if b then x else y)
if_state true x y s p q = p
if_state false x y s p q = q

if_step : (b : Bool) (x y : Step) (s : State) → KeepsRoutes s x.0 → KeepsRoutes s y.0 → KeepsRoutes s (if b then x else y).0
if_step true x y s p q = p
if_step false x y s p q = q

-- ---- what changes pending items, requests and the own seqno alone

queue_routes : (xs : List Item) (s : State) → KeepsRoutes s (queue xs s)
queue_routes xs s = kept_routes s (queue xs s) (queue_kept xs s)

raised_routes : (xs : List Item) (s : State) → KeepsRoutes s (queue xs (raised s))
raised_routes xs s = parts_routes s (queue xs (raised s)) (λ prefix. refl) refl

-- ---- seqno requests

own_prefix : (peer : Peer) (source : Source) (seqno : ℕ) (s : State) → KeepsRoutes s (requested_of_own peer source seqno s)
own_prefix peer source seqno s =
    if_state (satisfies s.router s.seqno source.router seqno) (queue (update_to peer source.prefix ∷ []) s) (queue (updates_to_all source.prefix s) (raised s)) s
    (queue_routes _ s) (raised_routes _ s)

forward_routes : (now : ℕ) (source : Source) (seqno hops : ℕ) (next : Option Peer) (s : State) → KeepsRoutes s (forward now source seqno hops next s).0
forward_routes now source seqno hops None s = same_routes s s refl
forward_routes now source seqno hops (Some next) s = kept_routes s _ (asks_kept _ _ _ _ _ _ s)

route_routes : (now : ℕ) (peer : Peer) (source : Source) (seqno hops : ℕ) (route : Option Selection) (s : State) →
    KeepsRoutes s (requested_of_route now peer source seqno hops route s).0
route_routes now peer source seqno hops None s = same_routes s s refl
route_routes now peer source seqno hops (Some route) s =
    let passed : Step = forward now source seqno hops (receiver peer source.prefix s) s in
    let ends : Step = (s, verdicts.NotForwarded) in
    let redundant : Step = (s, verdicts.Redundant) in
    let with_hops : Step = if nat_lt hops 2 then ends else passed in
    let unless_redundant : Step = if is_redundant source seqno s.requests then redundant else with_hops in
    let same : KeepsRoutes s s = same_routes s s refl in
    if_step (satisfies route.entry.router route.entry.distance.seqno source.router seqno) (queue (update_to peer source.prefix ∷ []) s, verdicts.Taken) unless_redundant s
    (queue_routes _ s)
    (if_step (is_redundant source seqno s.requests) redundant with_hops s same
    (if_step (nat_lt hops 2) ends passed s same (forward_routes now source seqno hops (receiver peer source.prefix s) s)))

request_routes : (now : ℕ) (peer : Peer) (source : Source) (seqno hops : ℕ) (s : State) → KeepsRoutes s (handle_seqno_request now peer source seqno hops s).0
unfolding handle_seqno_request
request_routes now peer source seqno hops s =
    if_step (announces source.prefix s) (requested_of_own peer source seqno s, verdicts.Taken) (requested_of_route now peer source seqno hops (selected_at source.prefix s) s) s
    (own_prefix peer source seqno s) (route_routes now peer source seqno hops (selected_at source.prefix s) s)

-- ---- every request

pub queue_kept_routes : (xs : List Item) (s t : State) → t ≡ queue xs s → KeepsRoutes s t
queue_kept_routes xs s t is = subst (KeepsRoutes s) (sym is) (queue_routes xs s)

step_routes : (step : Step) (s t : State) (verdict : Verdict) → (t, verdict) ≡ step → KeepsRoutes s step.0 → KeepsRoutes s t
step_routes step s t verdict is kept = subst (KeepsRoutes s) (sym (ap (λ (p : Step). p.0) is)) kept

pub route_request_kept : (peer : Peer) (prefix : PrefixValue) (s t : State) (verdict : Verdict) → (t, verdict) ≡ handle_route_request peer prefix s → KeepsRoutes s t
route_request_kept peer prefix s t verdict is = step_routes (handle_route_request peer prefix s) s t verdict is (queue_routes _ s)

pub dump_request_kept : (peer : Peer) (s t : State) (verdict : Verdict) → (t, verdict) ≡ handle_dump_request peer s → KeepsRoutes s t
dump_request_kept peer s t verdict is = step_routes (handle_dump_request peer s) s t verdict is (queue_routes _ s)

pub seqno_request_kept : (now : ℕ) (peer : Peer) (source : Source) (seqno hops : ℕ) (s t : State) (verdict : Verdict) →
    (t, verdict) ≡ handle_seqno_request now peer source seqno hops s → KeepsRoutes s t
seqno_request_kept now peer source seqno hops s t verdict is =
    step_routes (handle_seqno_request now peer source seqno hops s) s t verdict is (request_routes now peer source seqno hops s)
