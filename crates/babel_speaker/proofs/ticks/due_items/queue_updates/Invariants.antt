use Rattle.std.proofs.Common.{◌≡◌}
use Rattle.babel_state.specs.Queueing.{queued}
use Rattle.babel_state.specs.State.{prefixes_in}
use Rattle.babel_speaker.specs.TickItems.{updates_of}
use Rattle.babel_speaker.proofs.ticks.due_items.queue_updates.Given as goal

abbrev pub invariant-loop-prefix : goal.invariant-loop-prefix
invariant-loop-prefix l = queued (updates_of l.iface l.prefix-iterator) l.pending ≡ queued (updates_of l.iface (prefixes_in l.prefixes)) l.fn.pending
