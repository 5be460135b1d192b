-- What is queued from here on leaves what all updates leave.
use Rattle.std.proofs.Common.{◌≡◌, ◌-◌, map}
use Rattle.std.specs.List.{range_with_len}
use Rattle.babel_state.specs.Queueing.{queued}
use Rattle.babel_state.specs.Reselection.{update_to_all}
use Rattle.babel_speaker.proofs.output.queueing.queue_updates_to_all.Given as goal

abbrev pub invariant-loop-iface : goal.invariant-loop-iface
invariant-loop-iface l =
    queued (map (update_to_all l.prefix) (range_with_len l.iface (l.interfaces - l.iface))) l.pending
    ≡ queued (map (update_to_all l.prefix) (range_with_len 0 l.interfaces)) l.fn.pending
