-- No link so far has a finite cost.
use Rattle.std.proofs.Common.{◌≡◌, length}
use Rattle.babel_link.specs.Neighbours.{has_finite_link}
use Rattle.babel_link.proofs.neighbours.Neighbours.has_finite_link.Given as goal

abbrev pub invariant-loop-entry : goal.invariant-loop-entry
invariant-loop-entry l = has_finite_link l.left ≡ has_finite_link l.self

abbrev pub decreases-loop-entry : goal.decreases-loop-entry
decreases-loop-entry l = length l.left
