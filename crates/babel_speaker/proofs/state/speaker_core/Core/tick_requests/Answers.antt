-- If no request is due, a tick changes none.
use Rattle.std.proofs.Common.{◌≡◌, sym, subst}
use Rattle.babel_state.specs.State.{State}
use Rattle.babel_state.specs.Ticks.{requests_ticked}
use Rattle.babel_speaker.proofs.QuietTicks.{no_request_due}
use Rattle.babel_speaker.proofs.state.speaker_core.Core.tick_requests.Goals as goal

pub returns-else-due : goal.returns-else-due
returns-else-due c =
    subst (λ (s : State). s ≡ requests_ticked c.args.now s) c.self.view_is (sym (no_request_due c.args.now _ (c.may_be_due-due.ensures c.if-due.false)))
