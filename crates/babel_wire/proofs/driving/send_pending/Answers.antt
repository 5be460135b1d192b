use Rattle.std.proofs.Common.{◌≡◌, ap, sym, ◌∙◌, arith}
use Rattle.babel_wire.specs.Calls.{sending_of}
use Rattle.babel_wire.proofs.Sendings.{counted, faults_counted, all_counted, sending_goes}
use Rattle.babel_wire.proofs.driving.send_pending.Goals as goal
use Rattle.babel_wire.proofs.driving.send_pending.Goals.{in-Ok, in-Err}

pub loop-preserved : goal.loop-preserved
loop-preserved g c =
    let counts : c.match-send.report ≡ counted c.loop.report (sending_of c.in-Some.target c.deref.result.now c.send.result) =
    elim c.match-send.branch [
      | in-Ok w ↦ w.report-is ∙ ap (λ r. counted c.loop.report (sending_of c.in-Some.target c.deref.result.now r)) (sym w.in-Ok.is)
      | in-Err w ↦ w.report-is ∙ ap (λ r. counted c.loop.report (sending_of c.in-Some.target c.deref.result.now r)) (sym w.in-Err.is)
    ] in (
      sending_goes c.loop.counter c.args.now c.args.speaker.now.state (g.W.Wire.history c.args.wire.now)
          c.loop.speaker.state (g.W.Wire.history c.loop.wire) c.loop.report c.in-Some.target c.next_datagram.new.out.items c.deref.result.now
          c.next_datagram.new.self.state c.send.result (g.W.Wire.history c.send.new.self) c.match-send.report
          c.loop.invariant.0 c.in-Some.ensures.target c.in-Some.ensures.octets c.in-Some.ensures.built c.deref.ensures.0 c.next_datagram.ensures.state c.send.ensures.history counts,
      omega (arith, c.send.ensures.faults, c.loop.invariant.1, ap (λ q. q.faults) counts, faults_counted c.loop.report c.in-Some.target c.deref.result.now c.send.result),
      omega (arith, c.loop.invariant.2, ap (λ q. q.sent) counts, ap (λ q. q.faults) counts, all_counted c.loop.report c.in-Some.target c.deref.result.now c.send.result),
    )
