-- The groups that are made from here on come after those that are there.
use Rattle.std.proofs.Common.{◌≡◌, ◌≤◌, ◌+◌, ◌-◌, ◌++◌, length}
use Rattle.babel_state.specs.Grouping.{in_groups, most_groups}
use Rattle.babel_state.specs.Limits.{most_pending}
use Rattle.babel_speaker.proofs.tables.groups.group_items.Given as goal

abbrev pub invariant-loop : goal.invariant-loop
invariant-loop l = record {
  done : l.items ++ in_groups (most_groups - l.counter) l.spare ≡ in_groups most_groups l.fn.items;
  few : length l.items + length l.spare ≤ most_pending;
}
