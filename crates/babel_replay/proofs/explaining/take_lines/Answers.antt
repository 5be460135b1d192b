use Rattle.std.proofs.Common.{refl, arith}
use Rattle.babel_text.specs.declared.errors.LineFault.TheVariants.{Read}
use Rattle.babel_replay.specs.Taking.{LeadsTo}
use Rattle.babel_replay.proofs.Logs.{nothing_read, none_leads, led_stopped, led_all, led_next, end_of, next_of, read_failed}
use Rattle.babel_replay.proofs.explaining.take_lines.Goals as goal

pub loop-turn-init : goal.loop-turn-init
loop-turn-init g c = nothing_read (g.R.Read.remaining c.args.log.now) (LeadsTo 1 c.args.speaker.now.state c.args.speaker.now.state) (none_leads c.args.speaker.now.state)

pub returns-in-Err-clause-fault : goal.returns-in-Err-clause-fault
returns-in-Err-clause-fault g c =
    led_stopped (g.R.Read.remaining c.args.log.now) (g.R.Read.remaining c.loop-turn.log) c.loop-turn.turn c.loop-turn.turn c.in-Err.fault
    c.args.speaker.now.state c.loop-turn.speaker.state c.take_line.new.speaker.state refl c.loop-turn.invariant c.in-Err.ensures.cause c.in-Err.ensures.unchanged

pub returns-then-not-more-clause-taken : goal.returns-then-not-more-clause-taken
returns-then-not-more-clause-taken g c =
    led_all (g.R.Read.remaining c.args.log.now) (g.R.Read.remaining c.loop-turn.log) (g.R.Read.remaining c.take_line.new.log) c.loop-turn.turn
    c.args.speaker.now.state c.loop-turn.speaker.state c.take_line.new.speaker.state c.loop-turn.invariant
    (end_of (g.R.Read.remaining c.loop-turn.log) (g.R.Read.remaining c.take_line.new.log) c.in-Ok.more _ _ c.if-not-more.true c.in-Ok.ensures.taken)

pub loop-turn-preserved : goal.loop-turn-preserved
loop-turn-preserved g c =
    led_next (g.R.Read.remaining c.args.log.now) (g.R.Read.remaining c.loop-turn.log) (g.R.Read.remaining c.take_line.new.log) c.loop-turn.turn
    c.args.speaker.now.state c.loop-turn.speaker.state c.take_line.new.speaker.state c.loop-turn.invariant
    (next_of (g.R.Read.remaining c.loop-turn.log) (g.R.Read.remaining c.take_line.new.log) c.in-Ok.more _ _ c.if-not-more.false c.in-Ok.ensures.taken)

pub returns-clause-fault : goal.returns-clause-fault
returns-clause-fault g c =
    led_stopped (g.R.Read.remaining c.args.log.now) (g.R.Read.remaining c.loop-turn.log) _ c.loop-turn.turn Read
    c.args.speaker.now.state c.loop-turn.speaker.state c.loop-turn.speaker.state (omega (arith, c.loop-turn-test.false, c.loop-turn.auto.turn-end))
    c.loop-turn.invariant (read_failed (g.R.Read.remaining c.loop-turn.log)) refl
