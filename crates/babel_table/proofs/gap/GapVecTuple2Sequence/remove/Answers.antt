-- The first item after the gap goes.
use Rattle.std.proofs.Common.{remove, ap, ◌∙◌}
use Rattle.babel_table.specs.Gaps.{around}
use Rattle.babel_table.proofs.GapLemmas.{widened}
use Rattle.babel_table.proofs.gap.GapVecTuple2Sequence.remove.Goals as goal

pub returns-clause-items : goal.returns-clause-items
returns-clause-items g c =
    let s = c.move_gap.new.self in
    widened s.gap s.hole s.slots.items ∙ ap (λ ys. remove ys s.gap) c.move_gap.ensures.items ∙ ap (remove (around c.args.self.now.gap c.args.self.now.hole c.args.self.now.slots.items)) c.move_gap.ensures.gap
