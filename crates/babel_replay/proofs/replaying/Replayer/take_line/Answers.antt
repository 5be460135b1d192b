use Rattle.std.proofs.Common.{length}
use Rattle.babel_replay.proofs.Logs.{line_cause}
use Rattle.babel_replay.proofs.replaying.Replayer.take_line.Goals as goal

pub returns-in-Err-clause-cause : goal.returns-in-Err-clause-cause
returns-in-Err-clause-cause g c =
    line_cause (g.R.Read.remaining c.args.log.now) (g.R.Read.remaining c.read_line.new.log) c.in_ok-more.more c.is_skipped.result
    c.read_line.new.line.items c.deref.result.now c.deref-2.result.now (length c.args.octets.now) c.in-Err.fault
    c.if-not-more.false c.in_ok-more.ensures.line c.in_ok-more.ensures.within c.deref.ensures.value c.is_skipped.ensures c.if-is_skipped.false c.requires.room c.deref-2.ensures.value
    c.in-Err.ensures.refused
