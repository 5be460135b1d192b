use Rattle.std.proofs.Common.{refl, arith}
use Rattle.babel_text.specs.declared.errors.LineFault.TheVariants.{Read}
use Rattle.babel_replay.specs.Taking.{IsReported}
use Rattle.babel_replay.proofs.Logs.{nothing_read, none_reported, reported_stopped, reported_all, reported_next, end_of, next_of, read_failed}
use Rattle.babel_replay.proofs.replaying.Replayer.take_lines.Goals as goal

pub loop-turn-init : goal.loop-turn-init
loop-turn-init g c = (
  nothing_read (g.R.Read.remaining c.args.log.now)
      (IsReported 1 c.args.self.now.speaker.state c.args.self.now.seen.entries c.args.self.now.speaker.state c.args.self.now.seen.entries
      (g.W.Write.contents c.args.out.now) (g.W.Write.contents c.args.out.now))
      (none_reported c.args.self.now.speaker.state c.args.self.now.seen.entries (g.W.Write.contents c.args.out.now)),
  c.requires.printed,
)

pub take_line-requires-clause-printed : goal.take_line-requires-clause-printed
take_line-requires-clause-printed g c = c.loop-turn.invariant.1

pub returns-in-Err-clause-fault : goal.returns-in-Err-clause-fault
returns-in-Err-clause-fault g c =
    reported_stopped (g.R.Read.remaining c.args.log.now) (g.R.Read.remaining c.loop-turn.log) c.loop-turn.turn c.loop-turn.turn c.in-Err.fault
    c.args.self.now.speaker.state c.args.self.now.seen.entries c.loop-turn.self.speaker.state c.loop-turn.self.seen.entries
    c.take_line.new.self.speaker.state c.take_line.new.self.seen.entries
    (g.W.Write.contents c.args.out.now) (g.W.Write.contents c.loop-turn.out) (g.W.Write.contents c.take_line.new.out)
    refl c.loop-turn.invariant.0 c.in-Err.ensures.cause c.in-Err.ensures.unchanged

pub returns-then-not-more-clause-taken : goal.returns-then-not-more-clause-taken
returns-then-not-more-clause-taken g c =
    reported_all (g.R.Read.remaining c.args.log.now) (g.R.Read.remaining c.loop-turn.log) (g.R.Read.remaining c.take_line.new.log) c.loop-turn.turn
    c.args.self.now.speaker.state c.args.self.now.seen.entries c.loop-turn.self.speaker.state c.loop-turn.self.seen.entries
    c.take_line.new.self.speaker.state c.take_line.new.self.seen.entries
    (g.W.Write.contents c.args.out.now) (g.W.Write.contents c.loop-turn.out) (g.W.Write.contents c.take_line.new.out) c.loop-turn.invariant.0
    (end_of (g.R.Read.remaining c.loop-turn.log) (g.R.Read.remaining c.take_line.new.log) c.in-Ok.more _ _ c.if-not-more.true c.in-Ok.ensures.taken)

pub loop-turn-preserved : goal.loop-turn-preserved
loop-turn-preserved g c = (
  reported_next (g.R.Read.remaining c.args.log.now) (g.R.Read.remaining c.loop-turn.log) (g.R.Read.remaining c.take_line.new.log) c.loop-turn.turn
      c.args.self.now.speaker.state c.args.self.now.seen.entries c.loop-turn.self.speaker.state c.loop-turn.self.seen.entries
      c.take_line.new.self.speaker.state c.take_line.new.self.seen.entries
      (g.W.Write.contents c.args.out.now) (g.W.Write.contents c.loop-turn.out) (g.W.Write.contents c.take_line.new.out) c.loop-turn.invariant.0
      (next_of (g.R.Read.remaining c.loop-turn.log) (g.R.Read.remaining c.take_line.new.log) c.in-Ok.more _ _ c.if-not-more.false c.in-Ok.ensures.taken),
  c.in-Ok.ensures.printed,
)

pub returns-clause-fault : goal.returns-clause-fault
returns-clause-fault g c =
    reported_stopped (g.R.Read.remaining c.args.log.now) (g.R.Read.remaining c.loop-turn.log) _ c.loop-turn.turn Read
    c.args.self.now.speaker.state c.args.self.now.seen.entries c.loop-turn.self.speaker.state c.loop-turn.self.seen.entries
    c.loop-turn.self.speaker.state c.loop-turn.self.seen.entries
    (g.W.Write.contents c.args.out.now) (g.W.Write.contents c.loop-turn.out) (g.W.Write.contents c.loop-turn.out)
    (omega (arith, c.loop-turn-test.false, c.loop-turn.auto.turn-end)) c.loop-turn.invariant.0
    (read_failed (g.R.Read.remaining c.loop-turn.log)) (λ _. (refl, refl, refl))
