-- The run has one more, and its first one may be dropped.
use Rattle.std.proofs.Common.{[], ◌∷◌, refl, arith, length-append}
use Rattle.babel_speaker.proofs.Runs.{run_grows}
use Rattle.babel_speaker.proofs.tables.pending_items.push_to_full.Goals as goal

pub returns-then-push : goal.returns-then-push
returns-then-push c target =
    let run = c.args.run.now in
    run_grows [] target target run c.push.new.self c.args.prefix c.args.dropped.now c.saturating_add.result refl refl c.push.ensures.elements
    (omega (arith, c.saturating_add.ensures, length-append run (c.args.prefix ∷ []), c.push.ensures.full c.if-push.true))

pub returns-else-push : goal.returns-else-push
returns-else-push c target =
    let run = c.args.run.now in
    run_grows [] target target run c.push.new.self c.args.prefix c.args.dropped.now c.args.dropped.now refl refl c.push.ensures.elements
    (omega (arith, length-append run (c.args.prefix ∷ []), c.push.ensures.room c.if-push.false))
