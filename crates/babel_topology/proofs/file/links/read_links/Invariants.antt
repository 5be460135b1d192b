-- The links so far are between nodes of the file, and no two between the same.
use Rattle.std.specs.Prelude.{All, length}
use Rattle.babel_topology.specs.Files.{IsBetween, HasDistinctLinks}
use Rattle.babel_topology.proofs.file.links.read_links.Given as goal

abbrev pub invariant-loop-number : goal.invariant-loop-number
invariant-loop-number l = All (IsBetween (length l.nodes)) l.links.items × HasDistinctLinks l.links.items
