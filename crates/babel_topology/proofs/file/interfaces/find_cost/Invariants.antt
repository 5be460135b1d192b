-- No cost so far is this one.
use Rattle.std.proofs.Common.{◌≡◌, ◌==◌, false}
use Rattle.std.specs.List.{AllWithin}
use Rattle.babel_topology.proofs.file.interfaces.find_cost.Given as goal

abbrev pub invariant-loop-iface : goal.invariant-loop-iface
invariant-loop-iface l = AllWithin (λ other. (other == l.cost) ≡ false) l.costs 0 l.iface
