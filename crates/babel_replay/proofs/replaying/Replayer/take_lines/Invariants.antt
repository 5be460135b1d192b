use Rattle.babel_replay.specs.Seen.{ArePrinted}
use Rattle.babel_replay.specs.Taking.{IsReported}
use Rattle.babel_replay.proofs.Logs.{ReadSoFar}
use Rattle.babel_replay.proofs.replaying.Replayer.take_lines.Given as goal

abbrev pub invariant-loop-turn : goal.invariant-loop-turn
invariant-loop-turn g l =
    (ReadSoFar (g.R.Read.remaining l.initial.log) (g.R.Read.remaining l.log)
    (IsReported l.turn l.initial.self.speaker.state l.initial.self.seen.entries l.self.speaker.state l.self.seen.entries
    (g.W.Write.contents l.initial.out) (g.W.Write.contents l.out)))
    × ArePrinted l.self.speaker.state l.self.seen.entries
