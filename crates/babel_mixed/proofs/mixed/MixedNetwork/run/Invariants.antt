-- The events so far have made their steps, and no loop is left.
use Rattle.std.proofs.Common.{◌-◌, ◌≤◌, length, take}
use Rattle.babel_mixed.specs.Mixed.{HasNoLoopOfOurs, HasNoForwardingLoopOfOurs}
use Rattle.babel_mixed.specs.MixedRuns.{RanMixed}
use Rattle.babel_mixed.proofs.mixed.MixedNetwork.run.Given as goal

abbrev pub invariant-loop-done : goal.invariant-loop-done
invariant-loop-done l = record {
  inside : l.done ≤ length l.events;
  ran : RanMixed (take l.done l.events) l.fn.self l.self;
  no_loop : HasNoLoopOfOurs l.self;
  no_forwarding_loop : HasNoForwardingLoopOfOurs l.self;
}

abbrev pub decreases-loop-done : goal.decreases-loop-done
decreases-loop-done l = length l.events - l.done
