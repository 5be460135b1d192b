-- The lists that a tick walks are those of the definitions.
use Rattle.std.proofs.Common.{◌≡◌, ℕ, ◌+◌, List, [], ◌∷◌, ◌++◌, refl, ap, ◌∙◌, cond, not}
use Rattle.std.specs.Prelude.{◌&&◌}
use Rattle.babel_state.specs.declared.interfaces.InterfaceEntry.{InterfaceEntry}
use Rattle.babel_state.specs.declared.requests.Resend.{Resend}
use Rattle.babel_state.specs.declared.requests.Resend.TheVariants.{Unfeasible, Neighbour, Never}
use Rattle.babel_value.specs.Prefixes.{PrefixValue}
use Rattle.babel_state.specs.PendingRequests.{PendingRequests}
use Rattle.babel_state.specs.Reselection.{request_items, unfeasible_peers}
use Rattle.babel_state.specs.State.{State, reachable_prefixes}
use Rattle.babel_state.specs.Ticks.{is_due_request, is_last, requested_again, repeated_items, all_repeated_items, timer_items, all_timer_items}
use Rattle.babel_speaker.specs.TickItems.{receivers_of, all_repeats_of, all_timers_of}

same_receivers : (resend : Resend) (prefix : PrefixValue) (s : State) → receivers_of resend prefix s.sources s.routes.entries ≡ requested_again resend prefix s
unfolding unfeasible_peers
same_receivers Unfeasible prefix s = refl
same_receivers (Neighbour peer) prefix s = refl
same_receivers Never prefix s = refl

pub same_repeats : (now : ℕ) (s : State) (es : PendingRequests) → all_repeats_of now s.sources s.routes.entries es ≡ all_repeated_items now s es
same_repeats now s [] = refl
same_repeats now s (e ∷ es) =
    ap (λ ps. cond (is_due_request now e.1 && not (is_last e.1.resend e.1.wait)) (request_items e.0 e.1.seqno 64 ps) [] ++ all_repeats_of now s.sources s.routes.entries es) (same_receivers e.1.resend e.0.prefix s)
    ∙ ap (λ ys. repeated_items now s e ++ ys) (same_repeats now s es)

pub same_timers : (now : ℕ) (s : State) (iface : ℕ) (is : List InterfaceEntry) → all_timers_of now s.neighbours (reachable_prefixes s) iface is ≡ all_timer_items now s iface is
same_timers now s iface [] = refl
same_timers now s iface (i ∷ is) = ap (λ ys. timer_items now s iface i ++ ys) (same_timers now s (iface + 1) is)
