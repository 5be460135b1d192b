-- One prefix more, at most.
use Rattle.std.proofs.Common.{◌≤◌, ◌+◌, length, sym, subst}
use Rattle.babel_state.specs.State.{PrefixSet}
use Rattle.babel_speaker.proofs.Gathering.{put_at_most}
use Rattle.babel_speaker.proofs.tables.scratch.Scratch.insert.Goals as goal

pub returns-clause-few : goal.returns-clause-few
returns-clause-few c =
    let old = c.self.inside.table.entries.items in
    subst (λ (o : PrefixSet). length c.put_near.new.table.entries.items ≤ length o + 1) c.self.view_is
    (subst (λ (es : PrefixSet). length es ≤ length old + 1) (sym c.put_near.ensures.entries) (put_at_most c.args.prefix old))
