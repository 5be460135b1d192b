use Rattle.babel_state.proofs.Keeping.{message_own}
use Rattle.babel_state.proofs.laws.messages_keep_what_is_own.Goals as goal

pub returns : goal.returns
returns c = message_own
