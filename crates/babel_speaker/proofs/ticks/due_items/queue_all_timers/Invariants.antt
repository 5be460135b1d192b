use Rattle.std.proofs.Common.{◌≡◌, drop}
use Rattle.babel_state.specs.Queueing.{queued}
use Rattle.babel_state.specs.State.{prefixes_in}
use Rattle.babel_speaker.specs.TickItems.{all_timers_of}
use Rattle.babel_speaker.proofs.ticks.due_items.queue_all_timers.Given as goal

abbrev pub invariant-loop-iface : goal.invariant-loop-iface
invariant-loop-iface l =
    queued (all_timers_of l.now l.neighbours (prefixes_in l.prefixes) l.iface (drop l.iface l.interfaces)) l.pending
    ≡ queued (all_timers_of l.now l.neighbours (prefixes_in l.prefixes) 0 l.interfaces) l.fn.pending
