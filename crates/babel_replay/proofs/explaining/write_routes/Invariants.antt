use Rattle.std.proofs.Common.{drop, flat_map}
use Rattle.babel_state.specs.Calls.{reported_entries}
use Rattle.babel_replay.specs.Routes.{route_line, route_lines}
use Rattle.babel_replay.proofs.Writing.{IsWritten}
use Rattle.babel_replay.proofs.explaining.write_routes.Given as goal

abbrev pub invariant-loop-index : goal.invariant-loop-index
invariant-loop-index g l =
    IsWritten (g.W.Write.contents l.initial.out) (g.W.Write.contents l.out)
    (flat_map (route_line l.prefix l.speaker.state) (drop l.index (reported_entries l.prefix l.speaker.state))) (route_lines l.prefix l.speaker.state)
