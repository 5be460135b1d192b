-- Nothing changes as long as nothing is due.
use Rattle.std.proofs.Common.{◌≡◌, ℕ, ◌<◌, ◌≤◌, true, false, [], ◌∷◌, nat_lt, nat_le, refl, sym, ap, subst, arith}
use Rattle.std.proofs.lemmas.Bool.{and_parts, lt-leb, ltb-true}
use Rattle.std.specs.FinMap.{put}
use Rattle.std.proofs.lemmas.List.Elements.{All-head, All-tail}
use Rattle.std.proofs.lemmas.Bool.Decides.{nat_tests}
use Rattle.babel_table.specs.Dues.{AreDueFrom}
use Rattle.babel_table.proofs.DueLemmas.{due_earlier, due_put}
use Rattle.babel_choice.specs.declared.entries.RouteKey.{RouteKey}
use Rattle.babel_choice.specs.declared.entries.Entry.{Entry}
use Rattle.babel_choice.specs.RouteKeys.{route_cmp}
use Rattle.babel_choice.specs.Routes.{RouteEntries, expired}
use Rattle.babel_route.specs.RouteLaws.{are_before_deadline}

pub nothing_expired : (now : ℕ) (es : RouteEntries) → are_before_deadline now es ≡ true → expired now es ≡ es
nothing_expired now [] later = refl
nothing_expired now (e ∷ es) later =
    let parts = and_parts (nat_lt now e.1.deadline) (are_before_deadline now es) later in
    let early : nat_le e.1.deadline now ≡ false = lt-leb e.1.deadline now (ltb-true now e.1.deadline parts.0) in
    rw early (ap (λ xs. e ∷ xs) (nothing_expired now es parts.1))

-- ---- the least moment

pub put_due : (moment due : ℕ) (k : RouteKey) (v : Entry) (old new : RouteEntries) → moment ≤ due → moment ≤ v.deadline → new ≡ put route_cmp k v old → AreDueFrom (λ e. e.deadline) due old → AreDueFrom (λ e. e.deadline) moment new
put_due moment due k v old new before one is all =
    subst (AreDueFrom (λ e. e.deadline) moment) (sym is)
    (due_put (λ e. e.deadline) route_cmp moment k v old one (due_earlier (λ e. e.deadline) due moment old before all))

pub quiet_expiry : (now due : ℕ) (es : RouteEntries) → now < due → AreDueFrom (λ e. e.deadline) due es → expired now es ≡ es
quiet_expiry now due [] early all = refl
quiet_expiry now due (e ∷ es) early all =
    let first : due ≤ e.1.deadline = All-head (λ x. due ≤ x.1.deadline) e es all in
    let later : nat_le e.1.deadline now ≡ false = grind (arith, nat_tests) in
    rw later (ap (λ xs. e ∷ xs) (quiet_expiry now due es early (All-tail (λ x. due ≤ x.1.deadline) e es all)))
