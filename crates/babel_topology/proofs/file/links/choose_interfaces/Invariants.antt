-- The links are between the same nodes as at first, those so far have interfaces of their cost, and no node has too many.
use Rattle.std.proofs.Common.{◌≡◌, ◌≤◌}
use Rattle.std.specs.Prelude.{All, vec_len}
use Rattle.std.specs.List.{AllWithin}
use Rattle.babel_topology.specs.Files.{HasSameNodes, HasItsCost}
use Rattle.babel_topology.proofs.file.links.choose_interfaces.Given as goal

abbrev pub invariant-loop-number : goal.invariant-loop-number
invariant-loop-number l =
    (vec_len l.interfaces ≡ l.node_count) × All (λ costs. vec_len costs ≤ 8) l.interfaces.items × HasSameNodes l.initial.links l.links
    × AllWithin (HasItsCost l.interfaces.items) l.links 0 l.number
