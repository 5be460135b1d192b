-- Each request is passed.
use Rattle.std.proofs.Common.{◌∙◌, ◌+◌, ap, drop, sym}
use Rattle.babel_state.specs.Queueing.{Pending, queued}
use Rattle.babel_speaker.specs.TickItems.{repeats_of, all_repeats_of}
use Rattle.babel_speaker.specs.declared.ticks.due_items.Repeating.{Repeating}
use Rattle.babel_speaker.proofs.DueItems.{one_repeated, none_repeated}
use Rattle.babel_speaker.proofs.ticks.due_items.queue_repeats.Goals.{in-Some, in_default}
use Rattle.babel_speaker.proofs.ticks.due_items.queue_repeats.Goals as goal

pub loop-index-preserved : goal.loop-index-preserved
loop-index-preserved c =
    let requests = c.args.requests.now in
    let index = c.loop-index.index in
    let sources = c.args.sources.now in
    let entries = c.args.routes.now.entries in
    let rest : Pending → Pending = queued (all_repeats_of c.args.now sources entries (drop (index + 1) requests)) in
    let kept = c.loop-index.invariant in
    elim c.match-at.branch [
      | in-Some w ↦ record {
        done = ap rest w.pending-is ∙ one_repeated c.args.now sources entries requests index w.in-Some.entry c.loop-index.pending w.queue_repeat.new.pending (sym c.at.ensures ∙ w.in-Some.is)
            (w.queue_repeat.ensures.items ∙ ap (λ now. queued (repeats_of now sources entries w.in-Some.entry) c.loop-index.pending) kept.now) ∙ kept.done;
        now = ap (λ (walk : Repeating). walk.now) w.walk-is ∙ w.queue_repeat.ensures.now ∙ kept.now;
      }
      | in_default w ↦ record {
        done = ap rest w.pending-is ∙ none_repeated c.args.now sources entries requests index c.loop-index.pending (sym c.at.ensures ∙ w.in_default.is) ∙ kept.done;
        now = ap (λ (walk : Repeating). walk.now) w.walk-is ∙ kept.now;
      }
    ]
