-- What is moved from here on leaves what all leave.
use Rattle.std.proofs.Common.{◌≡◌, ◌≤◌, ◌+◌, ◌-◌, length}
use Rattle.babel_state.specs.Limits.{most_pending}
use Rattle.babel_speaker.proofs.Groups.{sorted_out}
use Rattle.babel_speaker.proofs.tables.groups.move_group.Given as goal

abbrev pub invariant-loop : goal.invariant-loop
invariant-loop l = record {
  done : sorted_out l.target (length l.fn.from - l.counter) l.from l.to ≡ sorted_out l.target (length l.fn.from) l.fn.from l.fn.to;
  few : length l.to + length l.from ≤ most_pending;
}
