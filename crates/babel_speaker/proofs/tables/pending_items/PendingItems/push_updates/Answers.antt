-- The run has more.
use Rattle.std.proofs.Common.{ap, ◌∙◌, map}
use Rattle.babel_state.specs.declared.items.Item.TheVariants.{Update}
use Rattle.babel_state.specs.Queueing.{queued}
use Rattle.babel_speaker.proofs.Runs.{run_extends}
use Rattle.babel_speaker.proofs.tables.pending_items.PendingItems.push_updates.Goals as goal

pub returns-then-is_same_target : goal.returns-then-is_same_target
returns-then-is_same_target c =
    let old = c.self.inside in
    let target = c.args.target.now in
    run_extends old.items old.target target old.run c.push_to_run.new.run c.args.prefixes old.dropped c.push_to_run.new.dropped
    (c.is_empty.ensures.empty c.if-is_empty.true)
    (c.is_same_target.ensures.equal c.if-is_same_target.true)
    (c.push_to_run.ensures old.target)
    ∙ ap (queued (map (Update target) c.args.prefixes)) c.self.view_is
