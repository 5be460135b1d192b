-- What is left is before `count`, and the entries from `index` on are still to be revised.
use Rattle.std.proofs.Common.{◌≡◌, ◌≤◌, ◌++◌, take, drop, length}
use Rattle.babel_table.specs.Dues.{AreDueFrom, IsLastQuiet}
use Rattle.babel_table.specs.Entries.{revised_entries}
use Rattle.babel_table.proofs.revisions.move_down.Given as goal

abbrev pub invariant-loop-index : goal.invariant-loop-index
invariant-loop-index g l = record {
  left : take l.count l.entries ++ revised_entries (g.R.Revision.revised l.revision) (drop l.index l.entries) ≡ take l.fn.left.count l.fn.entries ++ revised_entries (g.R.Revision.revised l.revision) (drop l.fn.left.count l.fn.entries);
  late : l.count ≤ l.index;
  same_len : length l.entries ≡ length l.fn.entries;
  due : AreDueFrom g.M.Moments.moment_of l.due (take l.count l.entries);
  last : IsLastQuiet g.M.Moments.moment_of l.due (take l.count l.entries);
}
