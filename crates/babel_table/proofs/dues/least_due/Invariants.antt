-- No entry so far is due before the least moment so far, and no later moment has that of all entries.
use Rattle.std.proofs.Common.{ℕ, ◌^◌, ◌≤◌, ◌<◌, take}
use Rattle.babel_table.specs.Dues.{AreDueFrom}
use Rattle.babel_table.proofs.dues.least_due.Given as goal

abbrev pub invariant-loop-place : goal.invariant-loop-place
invariant-loop-place g l = record {
  due : AreDueFrom g.V.Due.due_of l.least (take l.place (g.T.Table.entries l.table));
  greatest : (moment : ℕ) → moment < 2 ^ 64 → AreDueFrom g.V.Due.due_of moment (g.T.Table.entries l.table) → moment ≤ l.least;
}
