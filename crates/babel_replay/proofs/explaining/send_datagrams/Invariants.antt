use Rattle.std.proofs.Common.{◌+◌, ◌≤◌, length, None}
use Rattle.babel_replay.proofs.Sending.{SentSoFar}
use Rattle.babel_replay.proofs.explaining.send_datagrams.Given as goal

abbrev pub invariant-loop : goal.invariant-loop
invariant-loop l =
    SentSoFar l.counter l.time l.initial.speaker.state l.speaker.state None None
    × (l.counter + length l.speaker.state.pending.items ≤ length l.initial.speaker.state.pending.items)
