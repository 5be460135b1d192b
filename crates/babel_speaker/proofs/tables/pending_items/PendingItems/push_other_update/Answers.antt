-- A run begins, or it has one more.
use Rattle.std.proofs.Common.{[], ◌∷◌, ap, ◌∙◌, arith, refl, length, length-append}
use Rattle.babel_state.specs.declared.items.Item.TheVariants.{Update}
use Rattle.babel_state.specs.Queueing.{queued}
use Rattle.babel_speaker.proofs.Runs.{run_grows, any_target}
use Rattle.babel_speaker.proofs.tables.pending_items.PendingItems.push_other_update.Goals as goal

pub returns-then-is_empty-2 : goal.returns-then-is_empty-2
returns-then-is_empty-2 c =
    let old = c.self.inside in
    let target = c.args.target.now in
    let no_items = c.is_empty.ensures.empty c.if-is_empty.true in
    let no_run = c.is_empty-then-is_empty.ensures.empty c.if-is_empty-2.true in
    run_grows old.items target target old.run c.push.new.self c.args.prefix old.dropped old.dropped no_items refl c.push.ensures.elements
    (omega (arith, length-append old.run (c.args.prefix ∷ []), ap length no_run, c.self.ranges))
    ∙ ap (queued (Update target c.args.prefix ∷ [])) (any_target old.items old.target target old.run old.dropped no_run ∙ c.self.view_is)

pub returns-then-push : goal.returns-then-push
returns-then-push c =
    let old = c.self.inside in
    let target = c.args.target.now in
    run_grows old.items old.target target old.run c.push-2.new.self c.args.prefix old.dropped c.saturating_add-self-inside.result
    (c.is_empty-2.ensures.empty c.if-not-is_empty.false)
    (c.is_same_target.ensures.equal c.if-not-is_same_target.false)
    c.push-2.ensures.elements
    (omega (arith, c.saturating_add-self-inside.ensures, length-append old.run (c.args.prefix ∷ []), c.push-2.ensures.full c.if-push.true))
    ∙ ap (queued (Update target c.args.prefix ∷ [])) c.self.view_is

pub returns-else-push : goal.returns-else-push
returns-else-push c =
    let old = c.self.inside in
    let target = c.args.target.now in
    run_grows old.items old.target target old.run c.push-2.new.self c.args.prefix old.dropped old.dropped
    (c.is_empty-2.ensures.empty c.if-not-is_empty.false)
    (c.is_same_target.ensures.equal c.if-not-is_same_target.false)
    c.push-2.ensures.elements
    (omega (arith, length-append old.run (c.args.prefix ∷ []), c.push-2.ensures.room c.if-push.false, c.self.ranges))
    ∙ ap (queued (Update target c.args.prefix ∷ [])) c.self.view_is
