-- An item is in the slot of its index if it is before the gap, and by the gap's slots further on if it is after it.
use Rattle.std.proofs.Common.{refl, arith}
use Rattle.babel_table.proofs.GapLemmas.{get_after, set_before, set_after}
use Rattle.babel_table.proofs.gap.GapVec.slot.Goals as goal

pub returns-then-index-self-clause-written : goal.returns-then-index-self-clause-written
returns-then-index-self-clause-written g c =
    let s = c.args.self.now in
    λ item. set_before s.gap s.hole s.slots.items c.args.index item (omega arith) (omega arith)

pub returns-else-index-self-clause-item : goal.returns-else-index-self-clause-item
returns-else-index-self-clause-item g c =
    let s = c.args.self.now in
    get_after s.gap s.hole s.slots.items c.args.index _ (omega arith) (omega arith) refl

pub returns-else-index-self-clause-written : goal.returns-else-index-self-clause-written
returns-else-index-self-clause-written g c =
    let s = c.args.self.now in
    λ item. set_after s.gap s.hole s.slots.items c.args.index _ item (omega arith) (omega arith) refl
