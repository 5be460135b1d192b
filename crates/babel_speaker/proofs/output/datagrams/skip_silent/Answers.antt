-- An item that means no message is removed: the same datagram follows.
use Rattle.std.proofs.Common.{◌≡◌, sym, ◌∙◌, ap, subst}
use Rattle.babel_speaker.specs.SentMessages.{without_front}
use Rattle.babel_state.specs.CurrentSelections.{AreCurrent}
use Rattle.babel_state.specs.State.{State}
use Rattle.babel_speaker.specs.Sending.{IsSkipped}
use Rattle.babel_speaker.specs.Versions.{KeepsSnapshot}
use Rattle.babel_speaker.proofs.Drafts.{skipped_left_out, skipped_nothing}
use Rattle.babel_speaker.proofs.SettledSends.{removed_current, left_out_current}
use Rattle.babel_speaker.proofs.Snapshots.{removed_saved, left_out_saved}
use Rattle.babel_speaker.proofs.output.datagrams.skip_silent.Goals as goal
use Rattle.babel_speaker.proofs.output.datagrams.skip_silent.Goals.{in-LeftOut, in-Nothing}

abbrev Passed : State → State → Type 0
Passed old t = (AreCurrent old → AreCurrent t) × KeepsSnapshot old t × IsSkipped old t

pub loop-item-preserved : goal.loop-item-preserved
loop-item-preserved c =
    let old = c.args.core.now in
    let s = c.loop-item.core in
    let m = c.match-out.core in
    let t = c.remove_first_item.new.core in
    let before = c.loop-item.invariant in
    let removed : t ≡ without_front m = c.remove_first_item.ensures in
    let passed : Passed old t =
    elim c.match-out.branch [
      | in-LeftOut w ↦ (
        λ current. removed_current m t removed (left_out_current s m (w.core-is ∙ w.leave_out.ensures) (before.current current)),
        removed_saved old m t removed (left_out_saved old s m (w.core-is ∙ w.leave_out.ensures) before.saved),
        skipped_left_out old s t c.in-Some.item before.skipped (sym c.in-Some.ensures) (sym w.in-LeftOut.is ∙ c.outgoing.ensures.message) (removed ∙ ap without_front (w.core-is ∙ w.leave_out.ensures)),
      )
      | in-Nothing w ↦ (
        λ current. removed_current m t removed (subst AreCurrent (sym w.core-is) (before.current current)),
        removed_saved old m t removed (subst (KeepsSnapshot old) (sym w.core-is) before.saved),
        skipped_nothing old s t c.in-Some.item before.skipped (sym c.in-Some.ensures) (sym w.in-Nothing.is ∙ c.outgoing.ensures.message) (removed ∙ ap without_front w.core-is),
      )
    ] in
    record { skipped = passed.2; current = passed.0; saved = passed.1 }
