use Rattle.std.proofs.Common.{◌≡◌, [], ◌∷◌, ◌++◌, take, ap, sym, ◌∙◌, arith}
use Rattle.std.proofs.lemmas.List.{take_more}
use Rattle.babel_wire.specs.Calls.{sending_of}
use Rattle.babel_wire.proofs.Sendings.{counted, faults_counted, all_counted}
use Rattle.babel_wire.proofs.Takings.{given_next}
use Rattle.babel_wire.proofs.durable.driving.send_all.Goals as goal
use Rattle.babel_wire.proofs.durable.driving.send_all.Goals.{in-Ok, in-Err}

pub loop-datagram-preserved : goal.loop-datagram-preserved
loop-datagram-preserved g c =
    let items = c.datagrams-datagram-items.result.now in
    let index = c.loop-datagram.datagram-index in
    let one = c.datagram-item.result in
    let octets = c.deref.result.now in
    let counts : c.match-send.report ≡ counted c.loop-datagram.report (sending_of one.target octets c.send.result) =
    elim c.match-send.branch [
      | in-Ok w ↦ w.report-is ∙ ap (λ r. counted c.loop-datagram.report (sending_of one.target octets r)) (sym w.in-Ok.is)
      | in-Err w ↦ w.report-is ∙ ap (λ r. counted c.loop-datagram.report (sending_of one.target octets r)) (sym w.in-Err.is)
    ] in (
      given_next items index one (g.W.Wire.history c.args.wire.now) (g.W.Wire.history c.loop-datagram.wire) c.loop-datagram.report octets c.send.result
          (g.W.Wire.history c.send.new.self) c.match-send.report c.loop-datagram.invariant.0
          (take_more items index one c.loop-datagram-test.true ∙ ap (λ d. take index items ++ d ∷ []) (sym c.datagram-item.is))
          c.deref.ensures.0 c.send.ensures.history counts,
      omega (arith, c.send.ensures.faults, c.loop-datagram.invariant.1, ap (λ q. q.faults) counts, faults_counted c.loop-datagram.report one.target octets c.send.result),
      omega (arith, c.loop-datagram.invariant.2, ap (λ q. q.sent) counts, ap (λ q. q.faults) counts, all_counted c.loop-datagram.report one.target octets c.send.result),
    )
