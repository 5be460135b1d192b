use Rattle.std.proofs.Common.{arith}
use Rattle.babel_state.specs.Calls.{reported_entries}
use Rattle.babel_replay.specs.Routes.{route_line}
use Rattle.babel_replay.proofs.Printing.{line_goes}
use Rattle.babel_replay.proofs.Routing.{no_route_after}
use Rattle.babel_replay.proofs.Writing.{appends_kept, ended}
use Rattle.babel_replay.proofs.explaining.write_routes.Goals as goal

pub loop-index-preserved : goal.loop-index-preserved
loop-index-preserved g c =
    line_goes (route_line c.args.prefix.now c.args.speaker.now.state) (reported_entries c.args.prefix.now c.args.speaker.now.state) c.loop-index.index
    (g.W.Write.contents c.args.out.now) (g.W.Write.contents c.loop-index.out) (g.W.Write.contents c.write_route.new.out) _
    c.loop-index.invariant c.in_ok-write_route.ensures.written

pub returns-in-Ok-clause-written : goal.returns-in-Ok-clause-written
returns-in-Ok-clause-written g c =
    appends_kept (g.W.Write.contents c.args.out.now) (g.W.Write.contents c.loop-index.out) (g.W.Write.contents c.flush.new.self) _
    (ended (g.W.Write.contents c.args.out.now) (g.W.Write.contents c.loop-index.out) _ _ c.loop-index.invariant
    (no_route_after c.args.prefix.now c.args.speaker.now.state c.loop-index.index (omega (arith, c.loop-index-test.false, c.route_count-index-end.ensures))))
    c.in-Ok.ensures.bytes
