use Rattle.std.proofs.Common.{refl, inl, []}
use Rattle.babel_text.specs.declared.errors.LineFault.TheVariants.{Memory}
use Rattle.babel_replay.proofs.Logs.{before_first, report_cause}
use Rattle.babel_replay.proofs.Writing.{appends_none}
use Rattle.babel_replay.proofs.replaying.Replayer.take_log.Goals as goal

pub returns-in-Err-clause-fault : goal.returns-in-Err-clause-fault
returns-in-Err-clause-fault g c =
    before_first (g.R.Read.remaining c.args.log.now) _ Memory _ c.requires.number (report_cause (g.R.Read.remaining c.args.log.now) Memory (inl refl))
    (record { before_it = c.requires.number; report = []; reported = (refl, refl, refl); written = appends_none (g.W.Write.contents c.args.out.now) })
