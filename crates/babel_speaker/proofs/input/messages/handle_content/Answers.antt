-- A message keeps all selections current, and those that make the speaker settled leave them so.
use Rattle.std.proofs.Common.{sym, ap, subst}
use Rattle.babel_state.specs.Hellos.{Step}
use Rattle.babel_state.specs.CurrentSelections.{IsCurrentAt}
use Rattle.babel_state.proofs.WellFormed.{message_current}
use Rattle.babel_speaker.proofs.SettledMessages.{settled_or_not}
use Rattle.babel_speaker.proofs.input.messages.handle_content.Goals as goal

pub returns-in-Message-clause-current : goal.returns-in-Message-clause-current
returns-in-Message-clause-current c =
    settled_or_not c.args.hints.now.settled c.handle_message.new.hints.settled c.handle_message.new.core
    (λ settled prefix.
    subst (IsCurrentAt prefix) (sym (ap (λ (p : Step). p.0) c.handle_message.ensures.state))
    (message_current _ _ _ c.args.core.now c.routes_are_in_order.ensures prefix (c.requires.settled settled prefix)))
    c.handle_message.ensures.current
