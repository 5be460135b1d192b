-- What is left decides.
use Rattle.std.proofs.Common.{◌≡◌, flat_map, length}
use Rattle.babel_machine.specs.Acceptance.{has_addr_twice}
use Rattle.babel_machine.specs.Owners.{interface_addresses}
use Rattle.babel_owners.proofs.acceptance.have_shared.Given as goal

abbrev pub invariant-loop-first : goal.invariant-loop-first
invariant-loop-first l = has_addr_twice (flat_map interface_addresses l.rest) ≡ has_addr_twice (flat_map interface_addresses l.interfaces)

abbrev pub decreases-loop-first : goal.decreases-loop-first
decreases-loop-first l = length l.rest
