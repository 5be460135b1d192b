-- There are as many empty lists as rounds so far.
use Rattle.std.proofs.Common.{◌≡◌}
use Rattle.std.specs.Prelude.{All, vec_len}
use Rattle.babel_topology.proofs.file.links.no_interfaces.Given as goal

abbrev pub invariant-loop-number : goal.invariant-loop-number
invariant-loop-number l = (vec_len l.interfaces ≡ l._number) × All (λ costs. vec_len costs ≡ 0) l.interfaces.items
