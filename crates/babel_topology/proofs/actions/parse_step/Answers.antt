-- What follows the word and the time.
use Rattle.std.proofs.Common.{refl}
use Rattle.babel_topology.proofs.Texts.{no_step_time, no_step_action}
use Rattle.babel_topology.proofs.About.{action_about}
use Rattle.babel_topology.proofs.actions.parse_step.Goals as goal

pub returns-in_err-at-clause-text : goal.returns-in_err-at-clause-text
returns-in_err-at-clause-text c = rw c.from_residual-in_err-at.ensures
    (no_step_time c.args.nodes.now c.args.links.now c.args.text.now c.in_ok-word.timed.now c.in_ok-word.ensures.rest (c.in_err-at.ensures.none refl))

pub returns-in_err-action-clause-text : goal.returns-in_err-action-clause-text
returns-in_err-action-clause-text c = rw c.from_residual-in_err-action.ensures
    (no_step_action c.args.nodes.now c.args.links.now c.args.text.now c.in_ok-word.timed.now c.in_ok-at.action.now c.in_ok-word.ensures.rest
    c.in_ok-at.ensures.ok.2 c.in_err-action.ensures)

pub returns-clause-about : goal.returns-clause-about
returns-clause-about c = action_about c.args.nodes.now c.args.links.now c.in_ok-at.action.now c.in_ok-action.action c.in_ok-action.ensures
