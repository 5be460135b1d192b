-- The names are the two parts of the text.
use Rattle.babel_topology.proofs.Texts.{link_reads}
use Rattle.babel_topology.proofs.names.find_link.Goals as goal

pub returns : goal.returns
returns c = link_reads c.args.nodes.now c.args.links.now c.args.text.now c.in_ok-a.a.now c.in_ok-a.b.now c.find_node-a.result c.find_node-b.result c.link_of.result
    c.in_ok-a.ensures.parted c.in_ok-a.ensures.first c.in_ok-a.ensures.second c.find_node-a.ensures c.find_node-b.ensures c.link_of.ensures
