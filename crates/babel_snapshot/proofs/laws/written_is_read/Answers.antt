use Rattle.babel_snapshot.proofs.SnapshotsWritten.{written_read}
use Rattle.babel_snapshot.proofs.laws.written_is_read.Goals as goal

pub returns : goal.returns
returns c = written_read
