-- What follows from a change of a selection is what follows from the old and the new one.
use Rattle.std.specs.Prelude.{◌≡◌, ℕ, Bool, true, false, Option, None, if◌then◌else◌}
use Rattle.std.proofs.Common.{refl, sym, ap, ◌∙◌}
use Rattle.babel_value.specs.Prefixes.{PrefixValue}
use Rattle.babel_choice.specs.declared.entries.Selection.{Selection}
use Rattle.babel_route.specs.declared.routes.changes.Report.TheVariants.{Alike, Other}
use Rattle.babel_route.specs.declared.routes.changes.SelectionChange.{SelectionChange}
use Rattle.babel_route.specs.SelectionChanges.{are_alike, selection_change}
use Rattle.babel_state.specs.State.{State}
use Rattle.babel_state.specs.Reselection.{request_from_sender, follow_up}

-- alike, if the report says so
pub alike_of : (old new : Option Selection) (change : SelectionChange) → change ≡ selection_change old new → change.report ≡ Alike → are_alike old new ≡ true
alike_of old new change is alike = by (are_alike old new) (sym (ap (λ (c : SelectionChange). c.report) is) ∙ alike)
  where
    by : (b : Bool) → (if b then Alike else Other) ≡ Alike → b ≡ true
    by true same = refl
    by false same = cc

-- without an unfeasible update nothing more follows, whether a seqno was requested or not
pub follows_alone : (now : ℕ) (prefix : PrefixValue) (old new : Option Selection) (s t : State) (requested : Bool) → (requested ≡ true → t ≡ follow_up now None prefix old new s) → (requested ≡ false → request_from_sender now None prefix old t ≡ follow_up now None prefix old new s) → t ≡ follow_up now None prefix old new s
follows_alone now prefix old new s t true one other = one refl
follows_alone now prefix old new s t false one other = other refl
