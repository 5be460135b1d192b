-- What is left is all that the table then has.
use Rattle.std.proofs.Common.{◌≡◌, ℕ, ◌++◌, List, length, take, sym, ap, subst, ◌∙◌, arith}
use Rattle.std.proofs.Math.Seq.{take-append_seam}
use Rattle.babel_table.specs.Dues.{IsLastQuiet}
use Rattle.babel_table.proofs.revisions.compact.Goals as goal

seam : {X : Type 0} → (n : ℕ) (xs rest : List X) → n ≡ length xs → take n (xs ++ rest) ≡ xs
seam n xs rest is = ap (λ (m : ℕ). take m (xs ++ rest)) is ∙ take-append_seam xs rest

pub returns-clause-last : goal.returns-clause-last
returns-clause-last g c =
    let left = c.move_down-left.new.entries in
    let whole = seam c.args.entries.now.len left _ (omega arith) in
    subst (IsLastQuiet g.M.Moments.moment_of c.move_down-left.result.due)
    (ap (take c.move_down-left.result.count) (sym whole) ∙ sym c.truncate.ensures.items) c.move_down-left.ensures.last
