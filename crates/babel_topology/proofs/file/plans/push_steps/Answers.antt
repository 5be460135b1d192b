-- One more step keeps all three.
use Rattle.babel_topology.proofs.FileTexts.{about_grows}
use Rattle.babel_topology.proofs.file.plans.push_steps.Goals as goal

pub loop-number-preserved : goal.loop-number-preserved
loop-number-preserved c = (
  λ about. about_grows c.args.nodes.now c.args.links.now c.loop-number.steps.items c.push_step.new.steps.items _ c.in_ok-push_step.ensures.ok
      c.in_ok-at.ensures.about (c.loop-number.invariant.0 about),
  λ order. c.in_ok-push_step.ensures.order (c.loop-number.invariant.1 order),
  λ end. c.in_ok-push_step.ensures.end (c.loop-number.invariant.2 end),
)
