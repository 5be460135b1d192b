use Rattle.std.specs.Io.KnownBytes.{Appends}
use Rattle.babel_replay.specs.LogReports.{Writes, whole_report}
use Rattle.babel_replay.specs.Report.{table_lines}
use Rattle.babel_replay.specs.Taking.{IsReported}
use Rattle.babel_replay.proofs.Ending.{ended_well, ended_at, counted, reported_whole}
use Rattle.babel_replay.proofs.replaying.Replayer.report_log.Goals as goal

pub returns-in-Ok-clause-report : goal.returns-in-Ok-clause-report
returns-in-Ok-clause-report g c =
    ended_well (g.R.Read.remaining c.args.log.now)
    (IsReported c.take_log-taken.new.number c.args.self.now.speaker.state c.args.self.now.seen.entries
    c.take_log-taken.new.self.speaker.state c.take_log-taken.new.self.seen.entries
    (g.W.Write.contents c.args.out.now) (g.W.Write.contents c.take_log-taken.new.out))
    (Writes whole_report c.args.self.now.speaker.state (g.W.Write.contents c.args.out.now) (g.W.Write.contents c.end_report.new.out))
    (Appends (g.W.Write.contents c.take_log-taken.new.out) (g.W.Write.contents c.end_report.new.out)
    (table_lines c.take_log-taken.new.self.speaker.state c.take_log-taken.new.self.seen.entries))
    c.take_log-taken.result
    (reported_whole c.take_log-taken.new.number c.args.self.now.speaker.state c.args.self.now.seen.entries
    c.take_log-taken.new.self.speaker.state c.take_log-taken.new.self.seen.entries
    (g.W.Write.contents c.args.out.now) (g.W.Write.contents c.take_log-taken.new.out) (g.W.Write.contents c.end_report.new.out) c.requires)
    c.take_log-taken.ensures.taken c.in-Ok.ensures.ok

pub returns-in-Err-clause-fault : goal.returns-in-Err-clause-fault
returns-in-Err-clause-fault g c =
    ended_at (g.R.Read.remaining c.args.log.now) c.take_log-taken.new.number c.in-Err.fault
    (IsReported c.take_log-taken.new.number c.args.self.now.speaker.state c.args.self.now.seen.entries
    c.take_log-taken.new.self.speaker.state c.take_log-taken.new.self.seen.entries
    (g.W.Write.contents c.args.out.now) (g.W.Write.contents c.take_log-taken.new.out))
    (Writes whole_report c.args.self.now.speaker.state (g.W.Write.contents c.args.out.now) (g.W.Write.contents c.end_report.new.out))
    (Appends (g.W.Write.contents c.take_log-taken.new.out) (g.W.Write.contents c.end_report.new.out)
    (table_lines c.take_log-taken.new.self.speaker.state c.take_log-taken.new.self.seen.entries))
    c.take_log-taken.result
    (counted c.take_log-taken.new.number c.args.self.now.speaker.state c.args.self.now.seen.entries
    c.take_log-taken.new.self.speaker.state c.take_log-taken.new.self.seen.entries
    (g.W.Write.contents c.args.out.now) (g.W.Write.contents c.take_log-taken.new.out))
    (reported_whole c.take_log-taken.new.number c.args.self.now.speaker.state c.args.self.now.seen.entries
    c.take_log-taken.new.self.speaker.state c.take_log-taken.new.self.seen.entries
    (g.W.Write.contents c.args.out.now) (g.W.Write.contents c.take_log-taken.new.out) (g.W.Write.contents c.end_report.new.out) c.requires)
    c.take_log-taken.ensures.taken c.take_log-taken.ensures.fault c.in-Err.ensures.fault
