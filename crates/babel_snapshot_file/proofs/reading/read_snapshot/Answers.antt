use Rattle.std.proofs.Common.{arith}
use Rattle.babel_snapshot_file.proofs.Fronts.{whole_file}
use Rattle.babel_snapshot_file.proofs.reading.read_snapshot.Goals as goal

pub returns-in-Ok-clause-whole : goal.returns-in-Ok-clause-whole
returns-in-Ok-clause-whole g c =
    whole_file g.R.Read.remaining c.take-front.result.inner c.args.input c.take-front.result.limit 15385 c.new-octets.result.items c.read_to_end.new.buf.items
    c.take-front.ensures.inner c.take-front.ensures.limit c.new-octets.ensures.items
    (omega (arith, c.if-len-le-MAX_SNAPSHOT_LEN.true, c.len.ensures)) c.in-Ok.ensures.bytes
