use Rattle.babel_snapshot.proofs.OctetsKept.{read_written}
use Rattle.babel_snapshot.proofs.laws.read_is_written.Goals as goal

pub returns : goal.returns
returns c = read_written
