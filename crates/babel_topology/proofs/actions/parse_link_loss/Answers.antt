-- The link and the part.
use Rattle.babel_topology.specs.Names.{IsLinkText}
use Rattle.babel_topology.specs.Actions.{IsPercentText}
use Rattle.babel_topology.proofs.Texts.{pair_reads}
use Rattle.babel_topology.proofs.actions.parse_link_loss.Goals as goal

pub returns : goal.returns
returns c = rw c.zip.ensures (pair_reads (IsLinkText c.args.nodes.now c.args.links.now) IsPercentText c.args.text.now c.in_ok-link.link.now c.in_ok-link.loss.now
    c.find_link.result c.parse_percent.result c.in_ok-link.ensures.parted c.in_ok-link.ensures.word c.in_ok-link.ensures.rest
    c.find_link.ensures c.parse_percent.ensures)
