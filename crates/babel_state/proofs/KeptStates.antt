-- What stays if requests and pending items alone change.
use Rattle.std.proofs.Common.{◌≡◌, sym, ap, ◌∙◌, subst, inl}
use Rattle.babel_value.specs.declared.keys.Peer.{Peer}
use Rattle.babel_value.specs.Prefixes.{PrefixValue}
use Rattle.babel_state.specs.State.{State}
use Rattle.babel_state.specs.CurrentSelections.{IsCurrentAt, KeepsCurrent}
use Rattle.babel_state.specs.Invariants.{AreSelectable, IsWellFormed}
use Rattle.babel_state.specs.Seen.{seen, heard_at}
use Rattle.babel_state.specs.SeenLaws.{MovesAlone}
use Rattle.babel_state.specs.StepLaws.{settings_in, kept_of, KeepsSettings}
use Rattle.babel_state.proofs.Keeping.{kept_own}
use Rattle.babel_state.proofs.Moving.{announced_in, kept_move, moves_alone}
use Rattle.babel_state.proofs.SeeingLaws.{well_selecting}

pub selectable_kept : (s t : State) → kept_of t ≡ kept_of s → AreSelectable s → AreSelectable t
unfolding kept_of
selectable_kept s t same good = subst AreSelectable (sym same) good

pub current_kept : (s t : State) → kept_of t ≡ kept_of s → KeepsCurrent s t
unfolding kept_of
current_kept s t same prefix current = subst (IsCurrentAt prefix) (sym same) current

pub settings_kept : (s t : State) → kept_of t ≡ kept_of s → KeepsSettings s t
unfolding kept_of
settings_kept s t same = ap settings_in same

heard_kept : (s t : State) → kept_of t ≡ kept_of s → (prefix : PrefixValue) (from : Peer) → heard_at prefix from t ≡ heard_at prefix from s
unfolding kept_of
heard_kept s t same prefix from = ap (heard_at prefix from) same

pub moves_kept : (s t : State) → kept_of t ≡ kept_of s → IsWellFormed s → IsWellFormed t → MovesAlone 0 (seen s).announces s t
unfolding seen
moves_kept s t same well new_well peer =
    moves_alone peer 0 (announced_in s) s t (kept_move s t well (kept_own s t same))
    (λ prefix from h is. inl (sym (heard_kept s t same prefix from) ∙ is)) (well_selecting t new_well)
