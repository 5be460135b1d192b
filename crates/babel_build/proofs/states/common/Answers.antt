-- At the end of the shorter list nothing is left in common.
use Rattle.std.proofs.Common.{◌≡◌, ℕ, List, [], ◌∷◌, length, drop, refl, ap, ◌∙◌, arith, inl, inr}
use Rattle.std.proofs.lemmas.List.{drop_all}
use Rattle.std.proofs.lemmas.Bool.{cases_lt}
use Rattle.babel_packet.specs.Compressed.{common}
use Rattle.babel_build.proofs.states.common.Goals as goal

common_nil : (xs : List ℕ) → common xs [] ≡ 0
common_nil [] = refl
common_nil (x ∷ xs) = refl

pub returns-clause-value : goal.returns-clause-value
returns-clause-value c =
    let one = c.args.one.now in
    let other = c.args.other.now in
    let n = c.loop-index.index in
    let end : common (drop n one) (drop n other) ≡ 0 =
    elim (cases_lt (length other) (length one)) [
      | inl less ↦ ap (λ ys. common (drop n one) ys) (drop_all n other (omega (arith, less, c.loop-index-test.false, c.min-shorter.ensures))) ∙ common_nil (drop n one)
      | inr more ↦ ap (λ xs. common xs (drop n other)) (drop_all n one (omega (arith, more, c.loop-index-test.false, c.min-shorter.ensures)))
    ] in
    omega (arith, c.loop-index.invariant, end, c.loop-index.auto.index-end, c.loop-index-test.false)
