use Rattle.std.proofs.Common.{◌+◌, sym, subst, ap, arith}
use Rattle.babel_wire.specs.declared.durable.report.DurableReport.{DurableReport}
use Rattle.babel_wire.specs.DurableRuns.{IsDurableRun}
use Rattle.babel_wire.proofs.DurableTurning.{run_goes}
use Rattle.babel_wire.proofs.durable.driving.drive_durable.Goals as goal

pub loop-preserved : goal.loop-preserved
loop-preserved g c =
    let old = c.args.speaker.now in
    let known = c.args.driver.now.keeper in
    let h = g.W.Wire.history c.args.wire.now in
    let new = c.run_turn-turn.new.speaker in
    let later = c.run_turn-turn.new.driver.keeper in
    let h2 = g.W.Wire.history c.run_turn-turn.new.wire in
    let counts = c.both-report.ensures in (
      λ last fits. subst (λ (r : DurableReport). IsDurableRun (c.loop.counter + 1) last known old h later new h2 r) (sym counts)
          (run_goes c.loop.counter last known old h c.loop.driver.keeper c.loop.speaker (g.W.Wire.history c.loop.wire) c.loop.report later new h2
          c.run_turn-turn.result fits c.loop.invariant.1 c.run_turn-turn.ensures.counted (c.loop.invariant.0 last fits) c.run_turn-turn.ensures.turn),
      c.counts_add_up.ensures old c.loop.speaker new c.loop.invariant.1 c.run_turn-turn.ensures.counted,
      omega (arith, c.loop.invariant.2, c.run_turn-turn.ensures.faults, ap (λ r. r.report.faults) counts),
      omega (arith, c.loop.invariant.3, c.run_turn-turn.ensures.received_at_most, ap (λ r. r.report.received) counts),
      omega (arith, c.loop.invariant.4, c.run_turn-turn.ensures.sent_at_most, ap (λ r. r.report.sent) counts, ap (λ r. r.lost) counts),
      omega (arith, c.loop.invariant.5, c.run_turn-turn.ensures.refused_at_most, ap (λ r. r.report.refused) counts),
      omega (arith, c.loop.invariant.6, c.run_turn-turn.ensures.faults_at_most, ap (λ r. r.report.faults) counts),
      omega (arith, c.loop.invariant.7, c.run_turn-turn.ensures.failed_keeps_at_most, ap (λ r. r.failed_keeps) counts),
    )
