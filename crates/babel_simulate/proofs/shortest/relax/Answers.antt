use Rattle.std.proofs.Common.{refl, ◌∙◌, inl, inr}
use Rattle.babel_simulate.proofs.Shortening.{relaxed}
use Rattle.babel_simulate.proofs.shortest.relax.Goals as goal

pub returns-then-lower-clause-ways : goal.returns-then-lower-clause-ways
returns-then-lower-clause-ways c origins edges k at len ways =
    let e = c.args.edge.now in
    relaxed origins edges k e c.args.distances.now c.lower.new.distances e.a e.b c.lower.result c.lower.ensures.shorter c.lower.ensures.lowered c.lower.ensures.unchanged at (inl (refl, refl)) len ways

pub returns-clause-ways : goal.returns-clause-ways
returns-clause-ways c origins edges k at len ways =
    let e = c.args.edge.now in
    let first = relaxed origins edges k e c.args.distances.now c.lower.new.distances e.a e.b c.lower.result c.lower.ensures.shorter c.lower.ensures.lowered c.lower.ensures.unchanged at (inl (refl, refl)) len ways in
    relaxed origins edges k e c.lower.new.distances c.lower-2.new.distances e.b e.a c.lower-2.result c.lower-2.ensures.shorter c.lower-2.ensures.lowered c.lower-2.ensures.unchanged at (inr (refl, refl)) (c.lower.auto.distances ∙ len) first
