-- What is left has the first fault.
use Rattle.std.proofs.Common.{◌≡◌, ◌-◌, ◌≤◌, drop, length}
use Rattle.babel_machine.specs.Acceptance.{first_bad_from}
use Rattle.babel_owners.proofs.acceptance.first_bad.Given as goal

abbrev pub invariant-loop-node : goal.invariant-loop-node
invariant-loop-node l = record {
  inside : l.node ≤ length l.configs;
  done : first_bad_from l.node (drop l.node l.configs) ≡ first_bad_from 0 l.configs;
}

abbrev pub decreases-loop-node : goal.decreases-loop-node
decreases-loop-node l = length l.configs - l.node
