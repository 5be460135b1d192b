-- The queues are the same ones after each other; together they are no more than there is room for.
use Rattle.std.proofs.Common.{◌≡◌, ◌≤◌, ◌+◌, ◌++◌, length}
use Rattle.babel_state.specs.Limits.{most_pending}
use Rattle.babel_speaker.proofs.tables.groups.move_all.Given as goal

abbrev pub invariant-loop-item : goal.invariant-loop-item
invariant-loop-item l = record {
  same : l.to ++ l.from ≡ l.fn.to ++ l.fn.from;
  few : length l.to + length l.from ≤ most_pending;
}

abbrev pub decreases-loop-item : goal.decreases-loop-item
decreases-loop-item l = length l.from
