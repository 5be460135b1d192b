-- The lines are within the page.
use Rattle.std.proofs.Common.{◌≤◌}
use Rattle.babel_commands.proofs.showing.one.write_places.Given as goal

abbrev pub invariant-loop-place : goal.invariant-loop-place
invariant-loop-place g l = l.len ≤ 4096
