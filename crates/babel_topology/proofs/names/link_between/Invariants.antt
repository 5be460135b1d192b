-- No link so far joins the two nodes.
use Rattle.std.proofs.Common.{◌≡◌, false}
use Rattle.std.specs.List.{AllWithin}
use Rattle.babel_topology.specs.declared.topology.Link.{Link}
use Rattle.babel_topology.specs.Names.{joins}
use Rattle.babel_topology.proofs.names.link_between.Given as goal

abbrev pub invariant-loop-number : goal.invariant-loop-number
invariant-loop-number l = AllWithin (λ (k : Link). joins k l.a l.b ≡ false) l.links 0 l.number
