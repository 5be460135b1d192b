-- The run has one more.
use Rattle.std.proofs.Common.{[], ◌∷◌, ◌++◌, refl, sym, ◌∙◌, arith, length-append}
use Rattle.babel_speaker.proofs.Runs.{run_grows, all_kept}
use Rattle.babel_speaker.proofs.tables.pending_items.push_to_place.Goals as goal

pub returns-else-not-try_push_back : goal.returns-else-not-try_push_back
returns-else-not-try_push_back c target =
    let run = c.args.run.now in
    let all = run ++ c.args.prefix ∷ [] in
    let long = length-append run (c.args.prefix ∷ []) in
    let room = c.try_push_back.ensures.room c.if-not-try_push_back.false in
    run_grows [] target target run c.try_push_back.new.self c.args.prefix c.args.dropped.now c.args.dropped.now refl refl
    (c.try_push_back.ensures.queued c.if-not-try_push_back.false ∙ sym (all_kept 4096 all (omega (arith, long, room))))
    (omega (arith, long, room))
