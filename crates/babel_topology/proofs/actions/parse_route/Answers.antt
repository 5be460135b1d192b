-- The two fields.
use Rattle.babel_text.specs.Prefixes.{IsPrefixText}
use Rattle.babel_topology.specs.Actions.{IsHopText}
use Rattle.babel_topology.proofs.Texts.{pair_reads}
use Rattle.babel_topology.proofs.actions.parse_route.Goals as goal

pub returns : goal.returns
returns c = rw c.zip.ensures (pair_reads IsPrefixText (IsHopText c.args.nodes.now) c.args.text.now c.in_ok-prefix.prefix.now c.in_ok-prefix.hop.now
    c.parse_prefix.result c.parse_hop.result c.in_ok-prefix.ensures.parted c.in_ok-prefix.ensures.word c.in_ok-prefix.ensures.rest
    c.parse_prefix.ensures c.parse_hop.ensures)
