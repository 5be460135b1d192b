use Rattle.std.proofs.Common.{◌≡◌, List, length}
use Rattle.std.specs.Prelude.{IsTrue, IsFalse}
use Rattle.babel_message.specs.declared.messages.Message.{Message}
use Rattle.babel_build.specs.Built.{Built}
use Rattle.babel_state.specs.CurrentSelections.{AreCurrent}
use Rattle.babel_state.specs.NextDatagram.{drafted}
use Rattle.babel_state.specs.Restarts.{snapshot_of}
use Rattle.babel_speaker.specs.Sending.{built_of, fits_at, draft_to, IsFilling}
use Rattle.babel_speaker.proofs.output.datagrams.fill.Given as goal

abbrev pub invariant-loop-item : goal.invariant-loop-item
invariant-loop-item l = record {
  current : IsTrue l.hints.settled → AreCurrent l.core;
  marked : IsFalse l.hints.lowered → IsFalse l.fn.hints.lowered;
  saved : IsFalse l.hints.lowered → snapshot_of l.core ≡ snapshot_of l.fn.core;
  filling : (b : Built) (ms : List Message) → l.fn.builder ≡ built_of b ms →
      IsFilling l.departure.now b ms l.departure.target (drafted l.departure.now (fits_at b) l.fn.core.pending.items (draft_to l.departure.target l.fn.core ms)) l.fn.builder l.core l.builder;
}

abbrev pub decreases-loop-item : goal.decreases-loop-item
decreases-loop-item l = length l.core.pending.items
