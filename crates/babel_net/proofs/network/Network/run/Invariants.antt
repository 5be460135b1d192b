-- The events so far have made their steps.
use Rattle.std.proofs.Common.{◌-◌, ◌≤◌, length, take}
use Rattle.babel_net.specs.Promises.{RanBy}
use Rattle.babel_net.proofs.network.Network.run.Given as goal

abbrev pub invariant-loop-done : goal.invariant-loop-done
invariant-loop-done l = record {
  inside : l.done ≤ length l.events;
  ran : RanBy (take l.done l.events) l.fn.self l.self;
}

abbrev pub decreases-loop-done : goal.decreases-loop-done
decreases-loop-done l = length l.events - l.done
