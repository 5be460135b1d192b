use Rattle.babel_speaker.specs.Versions.{CountsChanges}
use Rattle.babel_wire.specs.DurableRuns.{AreTakenSoFar}
use Rattle.babel_wire.proofs.durable.driving.take_pending.Given as goal

abbrev pub invariant-loop : goal.invariant-loop
invariant-loop l =
    AreTakenSoFar l.counter l.now l.initial.speaker.state l.outbox l.speaker.state
    × CountsChanges l.initial.speaker l.speaker
