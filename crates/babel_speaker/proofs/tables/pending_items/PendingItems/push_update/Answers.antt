-- The run has one more.
use Rattle.std.proofs.Common.{[], ◌∷◌, ◌++◌, sym, ap, ◌∙◌, arith, length-append}
use Rattle.babel_state.specs.declared.items.Item.TheVariants.{Update}
use Rattle.babel_state.specs.Queueing.{queued}
use Rattle.babel_speaker.proofs.Runs.{run_grows, all_kept}
use Rattle.babel_speaker.proofs.tables.pending_items.PendingItems.push_update.Goals as goal

pub returns-then-try_push_back : goal.returns-then-try_push_back
returns-then-try_push_back c =
    let old = c.self.inside in
    let target = c.args.target.now in
    let all = old.run ++ c.args.prefix ∷ [] in
    let long = length-append old.run (c.args.prefix ∷ []) in
    let room = c.try_push_back.ensures.room c.if-try_push_back.true in
    run_grows old.items old.target target old.run c.try_push_back.new.self c.args.prefix old.dropped old.dropped
    (c.is_empty.ensures.empty c.if-is_empty.true)
    (c.is_same_target.ensures.equal c.if-is_same_target.true)
    (c.try_push_back.ensures.queued c.if-try_push_back.true ∙ sym (all_kept 4096 all (omega (arith, long, room))))
    (omega (arith, long, room, c.self.ranges))
    ∙ ap (queued (Update target c.args.prefix ∷ [])) c.self.view_is
