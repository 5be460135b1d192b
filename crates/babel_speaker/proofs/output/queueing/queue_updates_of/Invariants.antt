-- What is queued from here on leaves what all updates leave.
use Rattle.std.proofs.Common.{◌≡◌, map, length}
use Rattle.babel_state.specs.Queueing.{queued}
use Rattle.babel_state.specs.Reselection.{update_to}
use Rattle.babel_speaker.specs.Reaching.{reachable_of}
use Rattle.babel_speaker.proofs.output.queueing.queue_updates_of.Given as goal

abbrev pub invariant-loop-prefix : goal.invariant-loop-prefix
invariant-loop-prefix l =
    queued (map (update_to l.peer) l.walk) l.pending ≡ queued (map (update_to l.peer) (reachable_of l.announced l.routes.selections)) l.fn.pending

abbrev pub decreases-loop-prefix : goal.decreases-loop-prefix
decreases-loop-prefix l = length l.walk
