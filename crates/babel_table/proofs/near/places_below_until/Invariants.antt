-- Nothing from the index on is below the bound.
use Rattle.std.proofs.Common.{◌≡◌, ◌≤◌, true, not, drop, length}
use Rattle.std.specs.List.{list_all}
use Rattle.babel_table.proofs.near.places_below_until.Given as goal

abbrev pub invariant-loop-high : goal.invariant-loop-high
invariant-loop-high g l = record {
  within : l.high ≤ length (g.T.Table.entries l.table);
  above : list_all (λ e. not (g.B.Bound.is_below l.bound e.0)) (drop l.high (g.T.Table.entries l.table)) ≡ true;
}

abbrev pub decreases-loop-high : goal.decreases-loop-high
decreases-loop-high g l = l.high
