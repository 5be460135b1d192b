-- One more expectation.
use Rattle.std.proofs.Common.{◌≤◌}
use Rattle.std.specs.Prelude.{length}
use Rattle.babel_topology.specs.declared.topology.Expectation.{Expectation}
use Rattle.babel_topology.specs.Actions.{IsExpectedAmong}
use Rattle.babel_topology.proofs.GrowingLists.{all_grows}
use Rattle.babel_topology.proofs.file.plans.read_expectations.Goals as goal

pub loop-number-preserved : goal.loop-number-preserved
loop-number-preserved c = (
  all_grows (IsExpectedAmong (length c.args.nodes.now)) c.loop-number.expectations.items c.push.new.self.items _ c.in_ok-push.ensures.items
      c.in_ok-expectation.ensures.among c.loop-number.invariant.0,
  all_grows (λ (e : Expectation). e.at ≤ c.args.duration) c.loop-number.expectations.items c.push.new.self.items _ c.in_ok-push.ensures.items
      c.in_ok-expectation.ensures.end c.loop-number.invariant.1,
)
