-- Nothing changed, so there is no line.
use Rattle.std.proofs.Common.{sym, subst}
use Rattle.std.specs.Io.KnownBytes.{Appends}
use Rattle.babel_replay.proofs.Unchanged.{no_lines}
use Rattle.babel_replay.proofs.Writing.{appends_none}
use Rattle.babel_replay.proofs.replaying.Replayer.write_selections.Goals as goal

pub returns-then-not-changed-clause-written : goal.returns-then-not-changed-clause-written
returns-then-not-changed-clause-written g c =
    let contents = g.W.Write.contents c.args.out.now in
    subst (Appends contents contents)
    (sym (no_lines c.args.time c.args.self.now.speaker.state c.args.self.now.seen.entries (c.requires c.if-not-changed.true)))
    (appends_none contents)
