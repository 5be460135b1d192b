use Rattle.std.proofs.Common.{refl}
use Rattle.babel_state.specs.Calls.{first_state}
use Rattle.babel_state.specs.Configs.{config_fault}
use Rattle.babel_replay.specs.LogReports.{routes_after}
use Rattle.babel_replay.proofs.Ending.{from_first, stopped_from_first}
use Rattle.babel_replay.proofs.explaining.explain.Goals as goal

pub returns-in-Ok-clause-routes : goal.returns-in-Ok-clause-routes
returns-in-Ok-clause-routes g c =
    from_first (routes_after c.args.prefix) (first_state c.args.config) c.in-Ok.speaker.state (g.R.Read.remaining c.args.log.now) (g.W.Write.contents c.args.out.now)
    (g.W.Write.contents c.explain_log.new.out) c.explain_log.result c.in-Ok.ensures.ok c.explain_log.ensures.routes

pub returns-in-Ok-clause-fault : goal.returns-in-Ok-clause-fault
returns-in-Ok-clause-fault g c =
    stopped_from_first (routes_after c.args.prefix) (first_state c.args.config) c.in-Ok.speaker.state (config_fault c.args.config) (g.R.Read.remaining c.args.log.now)
    (g.R.Read.remaining c.explain_log.new.log) (g.W.Write.contents c.args.out.now) (g.W.Write.contents c.explain_log.new.out) c.explain_log.result
    c.in-Ok.ensures.ok (c.in-Ok.ensures.valid refl) c.explain_log.ensures.fault
