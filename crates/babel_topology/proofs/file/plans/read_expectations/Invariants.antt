-- The expectations so far are about nodes of the file, and none is later than the end.
use Rattle.std.proofs.Common.{◌≤◌}
use Rattle.std.specs.Prelude.{All, length}
use Rattle.babel_topology.specs.declared.topology.Expectation.{Expectation}
use Rattle.babel_topology.specs.Actions.{IsExpectedAmong}
use Rattle.babel_topology.proofs.file.plans.read_expectations.Given as goal

abbrev pub invariant-loop-number : goal.invariant-loop-number
invariant-loop-number l =
    All (IsExpectedAmong (length l.nodes)) l.expectations.items × All (λ (e : Expectation). e.at ≤ l.duration) l.expectations.items
