use Rattle.std.specs.Io.KnownBytes.{Appends}
use Rattle.babel_replay.specs.LogReports.{Writes, routes_after}
use Rattle.babel_replay.specs.Routes.{route_lines}
use Rattle.babel_replay.specs.Taking.{LeadsTo}
use Rattle.babel_replay.proofs.Ending.{ended_well, ended_at, counted_led, routes_written}
use Rattle.babel_replay.proofs.explaining.explain_log.Goals as goal

pub returns-in-Ok-clause-routes : goal.returns-in-Ok-clause-routes
returns-in-Ok-clause-routes g c =
    ended_well (g.R.Read.remaining c.args.log.now) (LeadsTo c.take_log-taken.new.number c.args.speaker.now.state c.take_log-taken.new.speaker.state)
    (Writes (routes_after c.args.prefix.now) c.args.speaker.now.state (g.W.Write.contents c.args.out.now) (g.W.Write.contents c.end_explanation.new.out))
    (Appends (g.W.Write.contents c.args.out.now) (g.W.Write.contents c.end_explanation.new.out) (route_lines c.args.prefix.now c.take_log-taken.new.speaker.state))
    c.take_log-taken.result
    (routes_written c.take_log-taken.new.number c.args.prefix.now c.args.speaker.now.state c.take_log-taken.new.speaker.state
    (g.W.Write.contents c.args.out.now) (g.W.Write.contents c.end_explanation.new.out))
    c.take_log-taken.ensures.taken c.in-Ok.ensures.ok

pub returns-in-Err-clause-fault : goal.returns-in-Err-clause-fault
returns-in-Err-clause-fault g c =
    ended_at (g.R.Read.remaining c.args.log.now) c.take_log-taken.new.number c.in-Err.fault
    (LeadsTo c.take_log-taken.new.number c.args.speaker.now.state c.take_log-taken.new.speaker.state)
    (Writes (routes_after c.args.prefix.now) c.args.speaker.now.state (g.W.Write.contents c.args.out.now) (g.W.Write.contents c.end_explanation.new.out))
    (Appends (g.W.Write.contents c.args.out.now) (g.W.Write.contents c.end_explanation.new.out) (route_lines c.args.prefix.now c.take_log-taken.new.speaker.state))
    c.take_log-taken.result (counted_led c.take_log-taken.new.number c.args.speaker.now.state c.take_log-taken.new.speaker.state)
    (routes_written c.take_log-taken.new.number c.args.prefix.now c.args.speaker.now.state c.take_log-taken.new.speaker.state
    (g.W.Write.contents c.args.out.now) (g.W.Write.contents c.end_explanation.new.out))
    c.take_log-taken.ensures.taken c.take_log-taken.ensures.fault c.in-Err.ensures.fault
