use Rattle.std.proofs.Common.{◌≡◌, ℕ, List, length, drop, ◌∙◌, subst, arith}
use Rattle.std.proofs.lemmas.List.{take_at}
use Rattle.babel_wire.specs.Calls.{receipt_of}
use Rattle.babel_wire.specs.Turns.{IsReceived}
use Rattle.babel_wire.proofs.Intaking.{taken_in_once}
use Rattle.babel_wire.proofs.durable.intake.take_in.Goals as goal

pub returns-clause-intake : goal.returns-clause-intake
returns-clause-intake g c =
    let whole : length c.recv-came.new.buf ≡ c.args.driver.now.buf.len = omega (arith, c.recv-came.auto.buf, c.deref_mut.ensures.len) in
    let came : IsReceived c.now-now.result (receipt_of c.recv-came.result c.recv-came.new.buf) c.args.speaker.now.state c.receive_observed-received.new.speaker.state c.receive_observed-received.result =
    subst (λ (b : List ℕ). IsReceived c.now-now.result (receipt_of c.recv-came.result b) c.args.speaker.now.state c.receive_observed-received.new.speaker.state c.receive_observed-received.result) (c.deref.ensures.value ∙ take_at c.recv-came.new.buf (drop (length c.recv-came.new.buf) c.args.driver.now.buf.items) c.args.driver.now.buf.len whole) c.receive_observed-received.ensures.received in
    taken_in_once c.now-now.result (receipt_of c.recv-came.result c.recv-came.new.buf) c.args.speaker.now.state c.receive_observed-received.new.speaker.state c.tick.new.self.state
    (g.W.Wire.history c.args.wire.now) (g.W.Wire.history c.recv-came.new.self) (g.W.Wire.history c.now-now.new.self) c.receive_observed-received.result
    c.recv-came.ensures.history c.now-now.ensures.history came c.tick.ensures.state
