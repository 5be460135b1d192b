-- There are as many nodes as tables so far, and no two have one name.
use Rattle.std.proofs.Common.{◌≡◌}
use Rattle.std.specs.Prelude.{vec_len}
use Rattle.babel_topology.specs.Files.{HasDistinctNames}
use Rattle.babel_topology.proofs.file.nodes.read_nodes.Given as goal

abbrev pub invariant-loop-number : goal.invariant-loop-number
invariant-loop-number l = (vec_len l.nodes ≡ l.number) × HasDistinctNames l.nodes.items
