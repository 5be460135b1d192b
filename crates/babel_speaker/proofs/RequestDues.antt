-- The least moment of the requests.
use Rattle.std.proofs.Common.{◌≡◌, ℕ, ◌<◌, ◌≤◌, false, [], ◌∷◌, nat_le, refl, sym, subst, arith}
use Rattle.std.specs.Prelude.{Result, Ok, Err, OnOk, OnErr}
use Rattle.std.specs.List.{list_any}
use Rattle.std.specs.FinMap.{put}
use Rattle.std.proofs.lemmas.List.Elements.{All-head, All-tail}
use Rattle.std.proofs.lemmas.Bool.Decides.{nat_tests}
use Rattle.babel_value.specs.declared.keys.Source.{Source}
use Rattle.babel_value.specs.Orders.{source_cmp}
use Rattle.babel_table.specs.Dues.{AreDueFrom}
use Rattle.babel_table.proofs.DueLemmas.{due_earlier, due_put}
use Rattle.babel_state.specs.declared.requests.PendingRequest.{PendingRequest}
use Rattle.babel_state.specs.PendingRequests.{PendingRequests}
use Rattle.babel_state.specs.Ticks.{is_due_request}

pub recorded_due : {A B : Type 0} (r : Result A B) (moment due : ℕ) (source : Source) (request : PendingRequest) (old new : PendingRequests) → moment ≤ due → moment ≤ request.due →
    OnOk r (new ≡ put source_cmp source request old) → OnErr r (new ≡ old) → AreDueFrom (λ request. request.due) due old → AreDueFrom (λ request. request.due) moment new
recorded_due (Ok a) moment due source request old new before one ok err all =
    subst (AreDueFrom (λ request. request.due) moment) (sym ok)
    (due_put (λ request. request.due) source_cmp moment source request old one (due_earlier (λ request. request.due) due moment old before all))
recorded_due (Err e) moment due source request old new before one ok err all =
    subst (AreDueFrom (λ request. request.due) moment) (sym err) (due_earlier (λ request. request.due) due moment old before all)

pub none_over : (now due : ℕ) (es : PendingRequests) → now < due → AreDueFrom (λ request. request.due) due es → list_any (λ e. is_due_request now e.1) es ≡ false
none_over now due [] early all = refl
none_over now due (e ∷ es) early all =
    let first : due ≤ e.1.due = All-head (λ x. due ≤ x.1.due) e es all in
    let later : nat_le e.1.due now ≡ false = grind (arith, nat_tests) in
    rw later (none_over now due es early (All-tail (λ x. due ≤ x.1.due) e es all))
