-- What a network reports of a node that sends, or that waits (profile).
use Rattle.std.specs.Prelude.{◌≡◌, ◌≢◌, ◌<◌, ℕ, [], length, Option, Some, None}
use Rattle.babel_state.specs.State.{State}
use Rattle.babel_state.specs.CurrentSelections.{AreCurrent}
use Rattle.babel_state.specs.Ticks.{ticked}
use Rattle.babel_speaker.specs.Deadlines.{next_deadline}
use Rattle.babel_net.specs.declared.nodes.Emitted.{Emitted}
use Rattle.babel_net.specs.Networks.{NetworkState}
use Rattle.babel_speaker.specs.Sending.{draft_at}

-- The datagram that is recorded next has the number of those recorded so far, and goes where the speaker sends it. With nothing to
-- send, there is none.
abbrev pub IsEmitted : ℕ → State → NetworkState → Option Emitted → Type 0
IsEmitted now speaker old None = (draft_at now speaker).target ≡ None
IsEmitted now speaker old (Some emitted) = (emitted.number ≡ length old.sent) × ((draft_at now speaker).target ≡ Some emitted.target)

-- A tick before the moment changes nothing. The moment is 0 if something is pending or a selection isn't current, and else the
-- speaker's next deadline.
pub record IsDueAt (due : ℕ) (speaker : State) : Type 0 where
  pub idle : (now : ℕ) → now < due → ticked now speaker ≡ speaker
  pub pending : speaker.pending.items ≢ [] → due ≡ 0
  pub current : 0 < due → AreCurrent speaker
  pub deadline : speaker.pending.items ≡ [] → AreCurrent speaker → due ≡ next_deadline speaker
