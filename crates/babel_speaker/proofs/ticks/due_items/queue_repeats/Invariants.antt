use Rattle.std.proofs.Common.{◌≡◌, drop}
use Rattle.babel_state.specs.Queueing.{queued}
use Rattle.babel_speaker.specs.TickItems.{all_repeats_of}
use Rattle.babel_speaker.proofs.ticks.due_items.queue_repeats.Given as goal

abbrev pub invariant-loop-index : goal.invariant-loop-index
invariant-loop-index l = record {
  done : queued (all_repeats_of l.now l.sources l.routes.entries (drop l.index l.requests)) l.pending ≡ queued (all_repeats_of l.now l.sources l.routes.entries l.requests) l.fn.pending;
  now : l.walk.now ≡ l.now;
}
