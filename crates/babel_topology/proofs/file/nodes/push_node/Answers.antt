-- One more node.
use Rattle.babel_topology.proofs.GrowingLists.{names_grow}
use Rattle.babel_topology.proofs.file.nodes.push_node.Goals as goal

pub returns-clause-names : goal.returns-clause-names
returns-clause-names c = names_grow c.args.nodes.now.items c.push.new.self.items c.deref.result.now c.args.node c.in_ok-push.ensures.items
    c.deref.ensures.value c.in_ok-check_node.ensures.name
