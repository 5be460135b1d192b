use Rattle.std.proofs.Common.{length}
use Rattle.babel_replay.proofs.Logs.{line_cause, line_skipped, line_leads}
use Rattle.babel_replay.proofs.explaining.take_line.Goals as goal

pub returns-then-is_skipped-clause-taken : goal.returns-then-is_skipped-clause-taken
returns-then-is_skipped-clause-taken g c =
    line_skipped (g.R.Read.remaining c.args.log.now) (g.R.Read.remaining c.read_line.new.log) c.in_ok-more.more c.is_skipped.result
    c.read_line.new.line.items c.deref.result.now c.args.speaker.now.state c.if-not-more.false c.in_ok-more.ensures.line c.in_ok-more.ensures.within c.deref.ensures.value
    c.is_skipped.ensures c.if-is_skipped.true

pub returns-in-Ok-take_event-clause-taken : goal.returns-in-Ok-take_event-clause-taken
returns-in-Ok-take_event-clause-taken g c =
    line_leads (g.R.Read.remaining c.args.log.now) (g.R.Read.remaining c.read_line.new.log) c.in_ok-more.more c.is_skipped.result
    c.read_line.new.line.items c.deref.result.now c.deref-2.result.now (length c.args.octets.now) c.in-Ok.event.time c.in-Ok.event.action
    c.args.speaker.now.state c.take_event.new.speaker.state
    c.if-not-more.false c.in_ok-more.ensures.line c.in_ok-more.ensures.within c.deref.ensures.value c.is_skipped.ensures c.if-is_skipped.false c.requires c.deref-2.ensures.value
    c.in-Ok.ensures.ok c.in-Ok-take_event.ensures.ok

pub returns-in-Err-clause-cause : goal.returns-in-Err-clause-cause
returns-in-Err-clause-cause g c =
    line_cause (g.R.Read.remaining c.args.log.now) (g.R.Read.remaining c.read_line.new.log) c.in_ok-more.more c.is_skipped.result
    c.read_line.new.line.items c.deref.result.now c.deref-2.result.now (length c.args.octets.now) c.in-Err.fault
    c.if-not-more.false c.in_ok-more.ensures.line c.in_ok-more.ensures.within c.deref.ensures.value c.is_skipped.ensures c.if-is_skipped.false c.requires c.deref-2.ensures.value
    c.in-Err.ensures.refused
