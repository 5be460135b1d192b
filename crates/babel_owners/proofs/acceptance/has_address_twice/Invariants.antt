-- What is left decides.
use Rattle.std.proofs.Common.{◌≡◌, flat_map, length}
use Rattle.babel_machine.specs.Acceptance.{has_addr_twice}
use Rattle.babel_machine.specs.Owners.{addresses_of}
use Rattle.babel_owners.proofs.acceptance.has_address_twice.Given as goal

abbrev pub invariant-loop-first : goal.invariant-loop-first
invariant-loop-first l = has_addr_twice (flat_map addresses_of l.rest) ≡ has_addr_twice (flat_map addresses_of l.configs)

abbrev pub decreases-loop-first : goal.decreases-loop-first
decreases-loop-first l = length l.rest
