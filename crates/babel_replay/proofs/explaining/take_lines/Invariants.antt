use Rattle.babel_replay.specs.Taking.{LeadsTo}
use Rattle.babel_replay.proofs.Logs.{ReadSoFar}
use Rattle.babel_replay.proofs.explaining.take_lines.Given as goal

abbrev pub invariant-loop-turn : goal.invariant-loop-turn
invariant-loop-turn g l = ReadSoFar (g.R.Read.remaining l.initial.log) (g.R.Read.remaining l.log) (LeadsTo l.turn l.initial.speaker.state l.speaker.state)
