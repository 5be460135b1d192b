use Rattle.babel_wire.proofs.Covering.{kept_covers}
use Rattle.babel_wire.proofs.laws.what_is_kept_covers_what_was_sent.Goals as goal

pub returns : goal.returns
returns c = kept_covers
