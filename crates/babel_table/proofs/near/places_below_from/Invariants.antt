-- All before the index is below the bound.
use Rattle.std.proofs.Common.{◌≡◌, ◌-◌, ◌≤◌, true, take, length}
use Rattle.std.specs.List.{list_all}
use Rattle.babel_table.proofs.near.places_below_from.Given as goal

abbrev pub invariant-loop-low : goal.invariant-loop-low
invariant-loop-low g l = record {
  within : l.low ≤ length (g.T.Table.entries l.table);
  below : list_all (λ e. g.B.Bound.is_below l.bound e.0) (take l.low (g.T.Table.entries l.table)) ≡ true;
}

abbrev pub decreases-loop-low : goal.decreases-loop-low
decreases-loop-low g l = length (g.T.Table.entries l.table) - l.low
