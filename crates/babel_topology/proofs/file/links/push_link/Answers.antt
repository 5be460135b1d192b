-- One more link.
use Rattle.babel_topology.proofs.GrowingLists.{links_grow}
use Rattle.babel_topology.proofs.file.links.push_link.Goals as goal

pub returns-clause-once : goal.returns-clause-once
returns-clause-once c = links_grow c.args.links.now.items c.push.new.self.items c.deref.result.now c.args.link c.in_ok-push.ensures.items
    c.deref.ensures.value c.in_ok-check_link.ensures.once
