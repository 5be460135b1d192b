use Rattle.std.proofs.Common.{◌≡◌, map, take}
use Rattle.babel_machine.specs.Machine.{first_state}
use Rattle.babel_machine.proofs.machine.sources_of.Given as goal

abbrev pub invariant-loop-owner : goal.invariant-loop-owner
invariant-loop-owner l = l.sources.items ≡ map (first_state l.nodes) (take l.owner-index l.owners)
