-- What follows the time.
use Rattle.std.proofs.Common.{refl}
use Rattle.babel_topology.proofs.Texts.{no_expectation_time, no_expectation_route}
use Rattle.babel_topology.proofs.About.{node_among}
use Rattle.babel_topology.proofs.actions.parse_expectation.Goals as goal

pub returns-in_err-at-clause-text : goal.returns-in_err-at-clause-text
returns-in_err-at-clause-text c = rw c.from_residual.ensures (no_expectation_time c.args.nodes.now c.args.text.now (c.in_err-at.ensures.none refl))

pub returns-in_err-node-clause-text : goal.returns-in_err-node-clause-text
returns-in_err-node-clause-text c = rw c.from_residual-in_err-node.ensures
    (no_expectation_route c.args.nodes.now c.args.text.now c.in_ok-at.route.now c.in_ok-at.ensures.ok.2 c.in_err-node.ensures)

pub returns-clause-among : goal.returns-clause-among
returns-clause-among c = node_among c.args.nodes.now c.in_ok-at.route.now c.in_ok-node.node _ c.in_ok-node.ensures
