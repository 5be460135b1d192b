-- All changes were printed, and sending changes no selected route.
use Rattle.std.proofs.Common.{subst}
use Rattle.babel_state.specs.State.{State}
use Rattle.babel_state.specs.KeptRoutes.{KeepsRoutes}
use Rattle.babel_replay.proofs.Unchanged.{now_printed, on_ok}
use Rattle.babel_replay.proofs.replaying.Replayer.write_report.Goals as goal

pub returns-clause-printed : goal.returns-clause-printed
returns-clause-printed g c =
    let sent = c.send_datagrams.new.speaker.state in
    on_ok c.send_datagrams.result _
    (now_printed c.write_outcome.new.self.speaker.state sent c.write_outcome.new.self.seen.entries c.write_selections.new.self.seen.entries
    c.in_ok-write_selections.ensures.seen
    (subst (λ (s : State). KeepsRoutes s sent) c.write_selections.ensures.speaker c.send_datagrams.ensures.kept))
