-- What was read so far.
use Rattle.std.proofs.Common.{length, ◌-◌, ◌≤◌}
use Rattle.babel_text.proofs.Digits.{AreRead}
use Rattle.babel_text.proofs.octets.decode.Given as goal

abbrev pub invariant-loop-start : goal.invariant-loop-start
invariant-loop-start l = AreRead l.text l.octets l.start l.seen × (l.start ≤ length l.octets)

abbrev pub decreases-loop-start : goal.decreases-loop-start
decreases-loop-start l = length l.initial.octets - l.start
