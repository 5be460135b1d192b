-- The node and its route.
use Rattle.babel_topology.specs.Names.{IsNodeText}
use Rattle.babel_topology.specs.Actions.{IsRouteText}
use Rattle.babel_topology.proofs.Texts.{pair_reads, node_reads}
use Rattle.babel_topology.proofs.actions.parse_node_route.Goals as goal

pub returns : goal.returns
returns c = rw c.zip.ensures (pair_reads (IsNodeText c.args.nodes.now) (IsRouteText c.args.nodes.now) c.args.text.now c.in_ok-node.node.now c.in_ok-node.route.now
    c.find_node.result c.parse_route.result c.in_ok-node.ensures.parted c.in_ok-node.ensures.word c.in_ok-node.ensures.rest
    (node_reads c.args.nodes.now c.in_ok-node.node.now c.find_node.result c.find_node.ensures) c.parse_route.ensures)
