use Rattle.std.proofs.Common.{drop}
use Rattle.babel_replay.specs.Report.{table_lines}
use Rattle.babel_replay.proofs.Writing.{IsWritten}
use Rattle.babel_replay.proofs.replaying.Replayer.write_table.Given as goal

abbrev pub invariant-loop-index : goal.invariant-loop-index
invariant-loop-index g l =
    IsWritten (g.W.Write.contents l.initial.out) (g.W.Write.contents l.out)
    (table_lines l.self.speaker.state (drop l.index l.self.seen.entries))
    (table_lines l.self.speaker.state l.self.seen.entries)
