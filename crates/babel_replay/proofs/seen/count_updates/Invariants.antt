use Rattle.std.proofs.Common.{◌≡◌, ◌≤◌, take}
use Rattle.babel_replay.specs.Seen.{updates_in}
use Rattle.babel_replay.proofs.seen.count_updates.Given as goal

abbrev pub invariant-loop-place : goal.invariant-loop-place
invariant-loop-place l = (l.count ≡ updates_in (take l.place-index l.placed)) × (l.count ≤ l.place-index)
