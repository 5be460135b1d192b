-- All before `low` is lesser, and all from `high` on is greater.
use Rattle.std.proofs.Common.{◌-◌, ◌≤◌, length, take, drop, ◌≡◌, true}
use Rattle.babel_table.specs.Places.{are_lesser, are_greater}
use Rattle.babel_table.proofs.near.search_keys.Given as goal

abbrev pub invariant-loop-low : goal.invariant-loop-low
invariant-loop-low g l =
    let es = g.T.Table.entries l.table in
    record {
      rising : l.low ≤ l.high;
      within : l.high ≤ length es;
      lesser : are_lesser g.K.Key.order l.key (take l.low es) ≡ true;
      greater : are_greater g.K.Key.order l.key (drop l.high es) ≡ true;
    }

abbrev pub decreases-loop-low : goal.decreases-loop-low
decreases-loop-low g l = l.high - l.low
