-- No pending item is no datagram.
use Rattle.std.proofs.Common.{◌≡◌, ℕ, true, List, [], ◌∷◌, length, None, refl, sym, ap, subst}
use Rattle.std.specs.List.{list_all}
use Rattle.babel_state.specs.declared.items.Item.{Item}
use Rattle.babel_state.specs.State.{State}
use Rattle.babel_state.specs.NextDatagram.{Fits, Draft, drafted, next_datagram}
use Rattle.babel_state.specs.OutgoingMessages.{outgoing}
use Rattle.babel_state.specs.QueueLaws.{has_no_message, is_silent}
use Rattle.babel_speaker.specs.Sending.{fits_by, draft_at}
use Rattle.babel_speaker.specs.SentMessages.{no_draft}

pub no_datagram : (now : ℕ) (fits : Fits) (s : State) → length s.pending.items ≡ 0 → next_datagram now fits s ≡ no_draft s
unfolding next_datagram
no_datagram now fits s none = by s.pending.items none
  where
    by : (xs : List Item) → length xs ≡ 0 → drafted now fits xs (no_draft s) ≡ no_draft s
    by [] none = refl
    by (x ∷ xs) none = cc

-- Without a pending item none means a message.
pub silent_if_empty : (s : State) → length s.pending.items ≡ 0 → is_silent s ≡ true
silent_if_empty s none = by s.pending.items none
  where
    by : (xs : List Item) → length xs ≡ 0 → list_all (λ x. has_no_message (outgoing s x)) xs ≡ true
    by [] none = refl
    by (x ∷ xs) none = cc

-- ---- the same of what is seen of the core

pub kept_state : (now : ℕ) (old core : State) → core ≡ old → length core.pending.items ≡ 0 → old ≡ (draft_at now old).state
kept_state now old core view none = subst (λ o. o ≡ (draft_at now o).state) view (ap (λ (d : Draft). d.state) (sym (no_datagram now (fits_by core) core none)))

pub no_target : (now : ℕ) (old core : State) → core ≡ old → length core.pending.items ≡ 0 → None ≡ (draft_at now old).target
no_target now old core view none = subst (λ o. None ≡ (draft_at now o).target) view (ap (λ (d : Draft). d.target) (sym (no_datagram now (fits_by core) core none)))

pub silent : (old core : State) → core ≡ old → length core.pending.items ≡ 0 → is_silent old ≡ true
silent old core view none = subst (λ o. is_silent o ≡ true) view (silent_if_empty core none)
