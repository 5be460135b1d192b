use Rattle.std.proofs.Common.{arith}
use Rattle.babel_wire.proofs.Turning.{run_goes}
use Rattle.babel_wire.proofs.driving.drive.Goals as goal

pub loop-preserved : goal.loop-preserved
loop-preserved g c = (
  run_goes c.loop.counter c.args.speaker.now.state (g.W.Wire.history c.args.wire.now) c.loop.speaker.state (g.W.Wire.history c.loop.wire) c.loop.report
      c.run_turn-turn.new.speaker.state (g.W.Wire.history c.run_turn-turn.new.wire) c.run_turn-turn.result
      c.loop.invariant.0 c.run_turn-turn.ensures.turn,
  omega (arith, c.loop.invariant.1, c.run_turn-turn.ensures.faults),
  omega arith,
  omega arith,
  omega arith,
  omega arith,
)
