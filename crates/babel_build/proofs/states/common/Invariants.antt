-- The octets so far are the same in both.
use Rattle.std.proofs.Common.{◌≡◌, ◌+◌, drop}
use Rattle.babel_packet.specs.Compressed.{common}
use Rattle.babel_build.proofs.states.common.Given as goal

abbrev pub invariant-loop-index : goal.invariant-loop-index
invariant-loop-index l = common l.fn.one l.fn.other ≡ l.index + common (drop l.index l.fn.one) (drop l.index l.fn.other)
