-- All before `low` is below the bound, all from `high` on isn't.
use Rattle.std.proofs.Common.{◌-◌, ◌≤◌, length, take, drop, ◌≡◌, true, not}
use Rattle.std.specs.List.{list_all}
use Rattle.babel_table.proofs.bounds.search_places.Given as goal

abbrev pub invariant-loop-low : goal.invariant-loop-low
invariant-loop-low g l =
    let es = g.T.Table.entries l.table in
    record {
      rising : l.low ≤ l.high;
      within : l.high ≤ length es;
      below : list_all (λ e. g.B.Bound.is_below l.bound e.0) (take l.low es) ≡ true;
      above : list_all (λ e. not (g.B.Bound.is_below l.bound e.0)) (drop l.high es) ≡ true;
    }

abbrev pub decreases-loop-low : goal.decreases-loop-low
decreases-loop-low g l = l.high - l.low
