-- An Acknowledgment Request leaves the selected routes as they are.
use Rattle.babel_speaker.proofs.RequestsKept.{queue_kept_routes}
use Rattle.babel_speaker.proofs.input.messages.handle_other.Goals as goal

pub returns-in-AckRequest-clause-kept : goal.returns-in-AckRequest-clause-kept
returns-in-AckRequest-clause-kept c unchanged = queue_kept_routes _ c.args.core.now c.queue.new.self c.queue.ensures
