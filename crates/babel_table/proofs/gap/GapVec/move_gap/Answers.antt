-- The items between are moved over the gap.
use Rattle.std.proofs.Common.{◌≡◌, ◌+◌, ◌-◌, drop, ap, subst, ◌∙◌, arith}
use lib.Seq.{paste}
use Rattle.babel_table.specs.Gaps.{around}
use Rattle.babel_table.proofs.GapLemmas.{length_around, moved_on, moved_back}
use Rattle.babel_table.proofs.gap.GapVec.move_gap.Goals as goal

pub returns-then-index-gap-2-clause-items : goal.returns-then-index-gap-2-clause-items
returns-then-index-gap-2-clause-items g c =
    let s = c.args.self.now in
    let xs = s.slots.items in
    let n = s.gap - c.args.index in
    let place : c.args.index + n ≡ s.gap = omega arith in
    ap (around c.args.index s.hole) c.copy_within.ensures.items
    ∙ moved_back c.args.index n s.hole xs (omega arith) ∙ ap (λ p. around p s.hole xs) place

pub returns-else-index-gap-2-clause-items : goal.returns-else-index-gap-2-clause-items
returns-else-index-gap-2-clause-items g c =
    let s = c.args.self.now in
    let xs = s.slots.items in
    let n = c.args.index + s.hole - (s.gap + s.hole) in
    let place : s.gap + n ≡ c.args.index = omega arith in
    ap (around c.args.index s.hole) c.copy_within-else-index-gap-2.ensures.items
    ∙ subst (λ p. around p s.hole (paste xs s.gap (drop (s.gap + s.hole) xs) n) ≡ around s.gap s.hole xs) place
    (moved_on s.gap n s.hole xs (omega (arith, c.requires, length_around s.gap s.hole xs (omega arith))))
