-- No node so far has the name.
use Rattle.std.proofs.Common.{◌≡◌, false}
use Rattle.std.specs.List.{AllWithin}
use Rattle.std.specs.String.{string_bytes}
use Rattle.std.specs.Str.{bytes_eq}
use Rattle.babel_topology.specs.declared.topology.Node.{Node}
use Rattle.babel_topology.proofs.names.find_node.Given as goal

abbrev pub invariant-loop-number : goal.invariant-loop-number
invariant-loop-number l = AllWithin (λ (n : Node). bytes_eq (string_bytes n.name) l.name ≡ false) l.nodes 0 l.number
