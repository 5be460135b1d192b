-- What is left decides.
use Rattle.std.proofs.Common.{◌≡◌, length}
use Rattle.babel_machine.specs.Acceptance.{has_router_twice}
use Rattle.babel_owners.proofs.acceptance.has_router_twice.Given as goal

abbrev pub invariant-loop-first : goal.invariant-loop-first
invariant-loop-first l = has_router_twice l.rest ≡ has_router_twice l.configs

abbrev pub decreases-loop-first : goal.decreases-loop-first
decreases-loop-first l = length l.rest
