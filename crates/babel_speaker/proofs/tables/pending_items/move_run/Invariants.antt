-- The items and the run are the same ones after each other; together they are no more than there is room for.
use Rattle.std.proofs.Common.{◌≡◌, ◌≤◌, ◌+◌, ◌++◌, map, length}
use Rattle.babel_state.specs.Limits.{most_pending}
use Rattle.babel_state.specs.declared.items.Item.TheVariants.{Update}
use Rattle.babel_speaker.proofs.tables.pending_items.move_run.Given as goal

abbrev pub invariant-loop-prefix : goal.invariant-loop-prefix
invariant-loop-prefix l = record {
  same : l.items ++ map (Update l.target) l.run ≡ l.fn.items ++ map (Update l.target) l.fn.run;
  few : length l.items + length l.run ≤ most_pending;
}

abbrev pub decreases-loop-prefix : goal.decreases-loop-prefix
decreases-loop-prefix l = length l.run
