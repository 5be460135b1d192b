-- The entries before `index` are left, and those from it on are still to be revised.
use Rattle.std.proofs.Common.{◌≡◌, ◌++◌, take, drop, length}
use Rattle.babel_table.specs.Dues.{AreDueFrom, IsLastQuiet}
use Rattle.babel_table.specs.Entries.{revised_entries}
use Rattle.babel_table.proofs.revisions.revise_in_place.Given as goal

abbrev pub invariant-loop-index : goal.invariant-loop-index
invariant-loop-index g l = record {
  left : take l.index l.entries ++ revised_entries (g.R.Revision.revised l.revision) (drop l.index l.entries) ≡ revised_entries (g.R.Revision.revised l.revision) l.fn.entries;
  same_len : length l.entries ≡ length l.fn.entries;
  due : AreDueFrom g.M.Moments.moment_of l.due (take l.index l.entries);
  last : IsLastQuiet g.M.Moments.moment_of l.due (take l.index l.entries);
}
