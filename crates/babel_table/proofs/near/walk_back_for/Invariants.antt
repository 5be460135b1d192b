-- All keys from the index on are greater.
use Rattle.std.proofs.Common.{◌≡◌, ◌≤◌, true, drop, length}
use Rattle.babel_table.specs.Places.{are_greater}
use Rattle.babel_table.proofs.near.walk_back_for.Given as goal

abbrev pub invariant-loop-high : goal.invariant-loop-high
invariant-loop-high g l = record {
  within : l.high ≤ length (g.T.Table.entries l.table);
  greater : are_greater g.K.Key.order l.key (drop l.high (g.T.Table.entries l.table)) ≡ true;
}

abbrev pub decreases-loop-high : goal.decreases-loop-high
decreases-loop-high g l = l.high
