use Rattle.babel_replay.specs.Report.{table_line}
use Rattle.babel_replay.proofs.Printing.{line_goes}
use Rattle.babel_replay.proofs.replaying.Replayer.write_table.Goals as goal

pub loop-index-preserved : goal.loop-index-preserved
loop-index-preserved g c =
    line_goes (table_line c.args.self.now.speaker.state) c.args.self.now.seen.entries c.loop-index.index
    (g.W.Write.contents c.args.out.now) (g.W.Write.contents c.loop-index.out) (g.W.Write.contents c.write_table_line.new.out) _
    c.loop-index.invariant c.in_ok-write_table_line.ensures.written
