-- The first node of the name, and none.
use Rattle.std.proofs.Common.{sym, arith}
use Rattle.std.specs.String.{string_bytes}
use Rattle.std.specs.Str.{bytes_eq}
use Rattle.babel_topology.specs.declared.topology.Node.{Node}
use Rattle.babel_topology.proofs.GrowingLists.{found_first, none_found}
use Rattle.babel_topology.proofs.names.find_node.Goals as goal

pub returns-then-eq : goal.returns-then-eq
returns-then-eq c = sym (found_first (λ (n : Node). bytes_eq (string_bytes n.name) c.args.name.now) c.args.nodes.now c.loop-number.number c.index-nodes-number.result
    c.loop-number.invariant (omega arith) (cc))

pub returns : goal.returns
returns c = sym (none_found (λ (n : Node). bytes_eq (string_bytes n.name) c.args.name.now) c.args.nodes.now c.loop-number.number (omega arith)
    c.loop-number.invariant)
