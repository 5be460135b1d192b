-- What is left is the end of the entries, and is revised as all from the index on are.
use Rattle.std.proofs.Common.{◌≡◌, ◌≤◌, ◌-◌, ◌+◌, length, drop}
use Rattle.babel_table.specs.Entries.{revised_entries}
use Rattle.babel_table.proofs.revisions.pass_removed.Given as goal

abbrev pub invariant-loop-left : goal.invariant-loop-left
invariant-loop-left g l = record {
  within : length l.left + l.from ≤ length l.entries;
  end : drop (length l.entries - length l.left) l.entries ≡ l.left;
  removed : revised_entries (g.R.Revision.revised l.revision) l.left ≡ revised_entries (g.R.Revision.revised l.revision) (drop l.from l.entries);
}

abbrev pub decreases-loop-left : goal.decreases-loop-left
decreases-loop-left g l = length l.left
