use Rattle.babel_replay.proofs.Seeing.{set_past}
use Rattle.babel_replay.proofs.seen.set_choice.Goals as goal

pub returns-in_default : goal.returns-in_default
returns-in_default c = set_past c.args.table.now.entries c.args.index c.args.choice c.in_default.ensures.found.1
