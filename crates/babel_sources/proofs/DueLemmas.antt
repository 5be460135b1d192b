-- Nothing changes as long as nothing is due.
use Rattle.std.proofs.Common.{◌≡◌, ℕ, ◌<◌, ◌≤◌, true, false, [], ◌∷◌, nat_lt, nat_le, refl, sym, ap, subst, arith}
use Rattle.std.proofs.lemmas.Bool.{and_parts, lt-leb, ltb-true}
use Rattle.std.specs.Prelude.{Result, Ok, Err, OnOk, OnErr}
use Rattle.std.specs.FinMap.{put}
use Rattle.std.proofs.lemmas.List.Elements.{All-head, All-tail}
use Rattle.std.proofs.lemmas.Bool.Decides.{nat_tests}
use Rattle.babel_value.specs.declared.keys.Source.{Source}
use Rattle.babel_value.specs.Orders.{source_cmp}
use Rattle.babel_table.specs.Dues.{AreDueFrom}
use Rattle.babel_table.proofs.DueLemmas.{due_earlier, due_put}
use Rattle.babel_sources.specs.declared.sources.SourceEntry.{SourceEntry}
use Rattle.babel_sources.specs.Sources.{Sources, collected}
use Rattle.babel_sources.specs.SourceLaws.{are_later}

pub nothing_collected : (now : ℕ) (es : Sources) → are_later now es ≡ true → collected now es ≡ es
nothing_collected now [] later = refl
nothing_collected now (e ∷ es) later =
    let parts = and_parts (nat_lt now e.1.due) (are_later now es) later in
    let early : nat_le e.1.due now ≡ false = lt-leb e.1.due now (ltb-true now e.1.due parts.0) in
    rw early (ap (λ xs. e ∷ xs) (nothing_collected now es parts.1))

-- ---- the least moment

pub lower_due : (moment due : ℕ) (k : Source) (v : SourceEntry) (old new : Sources) → moment ≤ due → moment ≤ v.due → new ≡ put source_cmp k v old → AreDueFrom (λ e. e.due) due old → AreDueFrom (λ e. e.due) moment new
lower_due moment due k v old new before one is all =
    subst (AreDueFrom (λ e. e.due) moment) (sym is)
    (due_put (λ e. e.due) source_cmp moment k v old one (due_earlier (λ e. e.due) due moment old before all))

pub quiet_collection : (now due : ℕ) (es : Sources) → now < due → AreDueFrom (λ e. e.due) due es → collected now es ≡ es
quiet_collection now due [] early all = refl
quiet_collection now due (e ∷ es) early all =
    let first : due ≤ e.1.due = All-head (λ x. due ≤ x.1.due) e es all in
    let later : nat_le e.1.due now ≡ false = grind (arith, nat_tests) in
    rw later (ap (λ xs. e ∷ xs) (quiet_collection now due es early (All-tail (λ x. due ≤ x.1.due) e es all)))

pub change_due : {A B : Type 0} (r : Result A B) (moment due : ℕ) (k : Source) (v : SourceEntry) (old new : Sources) → moment ≤ due → moment ≤ v.due → OnOk r (new ≡ put source_cmp k v old) → OnErr r (new ≡ old) → AreDueFrom (λ e. e.due) due old → AreDueFrom (λ e. e.due) moment new
change_due (Ok a) moment due k v old new before one ok err all = lower_due moment due k v old new before one ok all
change_due (Err e) moment due k v old new before one ok err all =
    subst (AreDueFrom (λ e. e.due) moment) (sym err) (due_earlier (λ e. e.due) due moment old before all)
