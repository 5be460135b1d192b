-- One more link.
use Rattle.std.specs.Prelude.{length}
use Rattle.babel_topology.specs.Files.{IsBetween}
use Rattle.babel_topology.proofs.GrowingLists.{all_grows}
use Rattle.babel_topology.proofs.file.links.read_links.Goals as goal

pub loop-number-preserved : goal.loop-number-preserved
loop-number-preserved c = (
  all_grows (IsBetween (length c.args.nodes.now)) c.loop-number.links.items c.push_link.new.links.items _ c.in_ok-push_link.ensures.grown
      c.in_ok-link.ensures.ends c.loop-number.invariant.0,
  c.in_ok-push_link.ensures.once c.loop-number.invariant.1,
)
