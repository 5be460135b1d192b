-- The two fields.
use Rattle.babel_text.specs.Prefixes.{IsPrefixText}
use Rattle.babel_topology.specs.Names.{IsNodeText}
use Rattle.babel_topology.proofs.Texts.{pair_reads, node_reads}
use Rattle.babel_topology.proofs.actions.parse_node_prefix.Goals as goal

pub returns : goal.returns
returns c = rw c.zip.ensures (pair_reads (IsNodeText c.args.nodes.now) IsPrefixText c.args.text.now c.in_ok-node.node.now c.in_ok-node.prefix.now
    c.find_node.result c.parse_prefix.result c.in_ok-node.ensures.parted c.in_ok-node.ensures.word c.in_ok-node.ensures.rest
    (node_reads c.args.nodes.now c.in_ok-node.node.now c.find_node.result c.find_node.ensures) c.parse_prefix.ensures)
