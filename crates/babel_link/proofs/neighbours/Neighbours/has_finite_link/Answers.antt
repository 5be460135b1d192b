-- Without a link of a finite cost each peer costs infinity.
use Rattle.std.proofs.Common.{◌≡◌, false, [], ◌∷◌, length, refl, sym, ◌∙◌}
use Rattle.babel_link.specs.Neighbours.{Links, has_finite_link}
use Rattle.babel_link.proofs.ChangeLemmas.{all_costly}
use Rattle.babel_link.proofs.neighbours.Neighbours.has_finite_link.Goals as goal

none_left : (es : Links) → length es ≡ 0 → has_finite_link es ≡ false
none_left [] is = refl
none_left (e ∷ es) is = cc

pub returns-clause-lost : goal.returns-clause-lost
returns-clause-lost c none = all_costly c.args.self.now (sym c.loop-entry.invariant ∙ none_left c.loop-entry.left.now c.in_default.ensures.cases)
