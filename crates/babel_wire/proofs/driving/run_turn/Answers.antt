use Rattle.babel_wire.specs.Calls.{receipt_of}
use Rattle.babel_wire.proofs.Turning.{turn_of_parts}
use Rattle.babel_wire.proofs.driving.run_turn.Goals as goal

pub returns-clause-turn : goal.returns-clause-turn
returns-clause-turn g c =
    turn_of_parts c.now-now.result (receipt_of c.recv-came.result c.recv-came.new.buf) c.args.speaker.now.state
    (g.W.Wire.history c.args.wire.now) (g.W.Wire.history c.recv-came.new.self) c.receive-receipt.new.speaker.state (g.W.Wire.history c.now-now.new.self)
    c.receive-receipt.result c.tick.new.self.state c.send_pending-sends.new.speaker.state (g.W.Wire.history c.send_pending-sends.new.wire) c.send_pending-sends.result
    c.recv-came.ensures.history c.now-now.ensures.history c.receive-receipt.ensures.received c.tick.ensures.state c.send_pending-sends.ensures.sends
