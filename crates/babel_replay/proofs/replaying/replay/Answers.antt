use Rattle.std.proofs.Common.{refl}
use Rattle.babel_state.specs.Calls.{first_state}
use Rattle.babel_state.specs.Configs.{config_fault}
use Rattle.babel_replay.specs.LogReports.{whole_report}
use Rattle.babel_replay.proofs.Ending.{from_first, stopped_from_first}
use Rattle.babel_replay.proofs.replaying.replay.Goals as goal

pub returns-in-Ok-clause-report : goal.returns-in-Ok-clause-report
returns-in-Ok-clause-report g c =
    from_first whole_report (first_state c.args.config) c.in-Ok.replayer.speaker.state (g.R.Read.remaining c.args.log.now) (g.W.Write.contents c.args.out.now)
    (g.W.Write.contents c.report_log.new.out) c.report_log.result c.in-Ok.ensures.speaker c.report_log.ensures.report

pub returns-in-Ok-clause-fault : goal.returns-in-Ok-clause-fault
returns-in-Ok-clause-fault g c =
    stopped_from_first whole_report (first_state c.args.config) c.in-Ok.replayer.speaker.state (config_fault c.args.config) (g.R.Read.remaining c.args.log.now)
    (g.R.Read.remaining c.report_log.new.log) (g.W.Write.contents c.args.out.now) (g.W.Write.contents c.report_log.new.out) c.report_log.result
    c.in-Ok.ensures.speaker (c.in-Ok.ensures.valid refl) c.report_log.ensures.fault
