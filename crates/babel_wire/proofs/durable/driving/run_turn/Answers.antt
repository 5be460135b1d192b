use Rattle.std.proofs.Common.{◌≡◌, ℕ, List, length, drop, ◌∙◌, subst, arith}
use Rattle.std.proofs.lemmas.List.{take_at}
use Rattle.babel_speaker.specs.Versions.{CountsChanges}
use Rattle.babel_wire.specs.Calls.{receipt_of}
use Rattle.babel_wire.specs.Turns.{IsReceived}
use Rattle.babel_wire.proofs.DurableTurning.{lost_turn, kept_turn}
use Rattle.babel_wire.proofs.durable.driving.run_turn.Goals as goal

pub returns-then-not-is_kept-clause-turn : goal.returns-then-not-is_kept-clause-turn
returns-then-not-is_kept-clause-turn g c =
    let received : CountsChanges c.args.speaker.now c.tick.new.self =
    c.counts_add_up.ensures c.args.speaker.now c.receive_observed-received.new.speaker c.tick.new.self c.receive_observed-received.ensures.counted c.tick.ensures.counted in
    let whole : length c.recv-came.new.buf ≡ c.args.driver.now.buf.len = omega (arith, c.recv-came.auto.buf, c.deref_mut.ensures.len) in
    let came : IsReceived c.now-now.result (receipt_of c.recv-came.result c.recv-came.new.buf) c.args.speaker.now.state c.receive_observed-received.new.speaker.state c.receive_observed-received.result =
    subst (λ (b : List ℕ). IsReceived c.now-now.result (receipt_of c.recv-came.result b) c.args.speaker.now.state c.receive_observed-received.new.speaker.state c.receive_observed-received.result) (c.deref.ensures.value ∙ take_at c.recv-came.new.buf (drop (length c.recv-came.new.buf) c.args.driver.now.buf.items) c.args.driver.now.buf.len whole) c.receive_observed-received.ensures.received in
    lost_turn c.now-now.result (receipt_of c.recv-came.result c.recv-came.new.buf) c.args.speaker.now c.receive_observed-received.new.speaker c.tick.new.self
    c.take_pending.new.speaker c.args.driver.now.keeper c.keep-is_kept.new.self (g.W.Wire.history c.args.wire.now) (g.W.Wire.history c.recv-came.new.self)
    (g.W.Wire.history c.now-now.new.self) (g.W.Wire.history c.keep-is_kept.new.wire) c.receive_observed-received.result c.take_pending.new.outbox c.count.result
    c.keep-is_kept.result c.recv-came.ensures.history c.now-now.ensures.history came c.tick.ensures.state
    c.take_pending.ensures.taken c.keep-is_kept.ensures.kept
    (c.counts_add_up.ensures c.args.speaker.now c.tick.new.self c.take_pending.new.speaker received c.take_pending.ensures.counted)
    c.if-not-is_kept.true c.count.ensures

pub returns-clause-turn : goal.returns-clause-turn
returns-clause-turn g c =
    let received : CountsChanges c.args.speaker.now c.tick.new.self =
    c.counts_add_up.ensures c.args.speaker.now c.receive_observed-received.new.speaker c.tick.new.self c.receive_observed-received.ensures.counted c.tick.ensures.counted in
    let whole : length c.recv-came.new.buf ≡ c.args.driver.now.buf.len = omega (arith, c.recv-came.auto.buf, c.deref_mut.ensures.len) in
    let came : IsReceived c.now-now.result (receipt_of c.recv-came.result c.recv-came.new.buf) c.args.speaker.now.state c.receive_observed-received.new.speaker.state c.receive_observed-received.result =
    subst (λ (b : List ℕ). IsReceived c.now-now.result (receipt_of c.recv-came.result b) c.args.speaker.now.state c.receive_observed-received.new.speaker.state c.receive_observed-received.result) (c.deref.ensures.value ∙ take_at c.recv-came.new.buf (drop (length c.recv-came.new.buf) c.args.driver.now.buf.items) c.args.driver.now.buf.len whole) c.receive_observed-received.ensures.received in
    kept_turn c.now-now.result (receipt_of c.recv-came.result c.recv-came.new.buf) c.args.speaker.now c.receive_observed-received.new.speaker c.tick.new.self
    c.take_pending.new.speaker c.args.driver.now.keeper c.keep-is_kept.new.self (g.W.Wire.history c.args.wire.now) (g.W.Wire.history c.recv-came.new.self)
    (g.W.Wire.history c.now-now.new.self) (g.W.Wire.history c.keep-is_kept.new.wire) (g.W.Wire.history c.send_all-sends.new.wire) c.receive_observed-received.result
    c.send_all-sends.result c.take_pending.new.outbox c.keep-is_kept.result c.recv-came.ensures.history c.now-now.ensures.history
    came c.tick.ensures.state c.take_pending.ensures.taken c.keep-is_kept.ensures.kept
    (c.counts_add_up.ensures c.args.speaker.now c.tick.new.self c.take_pending.new.speaker received c.take_pending.ensures.counted)
    c.if-not-is_kept.false c.send_all-sends.ensures.given
