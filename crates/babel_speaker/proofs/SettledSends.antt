-- An item that is removed or left out keeps all selections current.
use Rattle.std.specs.Prelude.{◌≡◌}
use Rattle.std.proofs.Common.{sym, subst}
use Rattle.babel_state.specs.State.{State}
use Rattle.babel_state.specs.NextDatagram.{left_out_more}
use Rattle.babel_state.specs.CurrentSelections.{AreCurrent}
use Rattle.babel_speaker.specs.SentMessages.{without_front}

pub removed_current : (s t : State) → t ≡ without_front s → AreCurrent s → AreCurrent t
removed_current s t is current = subst AreCurrent (sym is) current

pub left_out_current : (s t : State) → t ≡ left_out_more s → AreCurrent s → AreCurrent t
left_out_current s t is current = subst AreCurrent (sym is) current
