use Rattle.std.proofs.Common.{◌+◌, ◌≤◌, length}
use Rattle.babel_state.specs.KeptRoutes.{KeepsRoutes}
use Rattle.babel_replay.proofs.Sending.{SentSoFar}
use Rattle.babel_replay.proofs.replaying.send_datagrams.Given as goal

abbrev pub invariant-loop : goal.invariant-loop
invariant-loop g l =
    SentSoFar l.counter l.time l.initial.speaker.state l.speaker.state (g.W.Write.contents l.initial.out) (g.W.Write.contents l.out)
    × (l.counter + length l.speaker.state.pending.items ≤ length l.initial.speaker.state.pending.items)
    × KeepsRoutes l.initial.speaker.state l.speaker.state
