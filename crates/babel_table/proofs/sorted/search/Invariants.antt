-- All before `low` is lesser, all from `high` on is greater, and each step so far halved what is between.
use Rattle.std.proofs.Common.{◌-◌, ◌+◌, ◌≤◌, length, take, drop, ◌≡◌, true}
use Rattle.babel_table.specs.Digits.{binary_digits}
use Rattle.babel_table.specs.Places.{are_lesser, are_greater}
use Rattle.babel_table.proofs.sorted.search.Given as goal

abbrev pub invariant-loop-low : goal.invariant-loop-low
invariant-loop-low g l =
    let es = g.Q.Sequence.items l.table.entries in
    record {
      rising : l.low ≤ l.high;
      within : l.high ≤ length es;
      lesser : are_lesser g.K.Key.order (g.S.Sought.key l.key) (take l.low es) ≡ true;
      greater : are_greater g.K.Key.order (g.S.Sought.key l.key) (drop l.high es) ≡ true;
      halved : l.steps + binary_digits (l.high - l.low) ≤ l.initial.steps + binary_digits (length es);
    }

abbrev pub decreases-loop-low : goal.decreases-loop-low
decreases-loop-low g l = l.high - l.low
