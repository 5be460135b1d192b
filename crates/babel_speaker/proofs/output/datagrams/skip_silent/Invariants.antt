use Rattle.std.proofs.Common.{length}
use Rattle.babel_state.specs.CurrentSelections.{AreCurrent}
use Rattle.babel_speaker.specs.Sending.{IsSkipped}
use Rattle.babel_speaker.specs.Versions.{KeepsSnapshot}
use Rattle.babel_speaker.proofs.output.datagrams.skip_silent.Given as goal

abbrev pub invariant-loop-item : goal.invariant-loop-item
invariant-loop-item l = record {
  skipped : IsSkipped l.fn.core l.core;
  current : AreCurrent l.fn.core → AreCurrent l.core;
  saved : KeepsSnapshot l.fn.core l.core;
}

abbrev pub decreases-loop-item : goal.decreases-loop-item
decreases-loop-item l = length l.core.pending.items
