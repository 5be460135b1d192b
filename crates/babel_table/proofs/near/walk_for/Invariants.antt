-- All keys before the index are lesser.
use Rattle.std.proofs.Common.{◌≡◌, ◌-◌, ◌≤◌, true, take, length}
use Rattle.babel_table.specs.Places.{are_lesser}
use Rattle.babel_table.proofs.near.walk_for.Given as goal

abbrev pub invariant-loop-low : goal.invariant-loop-low
invariant-loop-low g l = record {
  within : l.low ≤ length (g.T.Table.entries l.table);
  lesser : are_lesser g.K.Key.order l.key (take l.low (g.T.Table.entries l.table)) ≡ true;
}

abbrev pub decreases-loop-low : goal.decreases-loop-low
decreases-loop-low g l = length (g.T.Table.entries l.table) - l.low
