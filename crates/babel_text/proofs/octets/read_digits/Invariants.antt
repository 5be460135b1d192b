-- What was read so far.
use Rattle.babel_text.proofs.Digits.{AreNumbers, IsSeen}
use Rattle.babel_text.proofs.octets.read_digits.Given as goal

abbrev pub invariant-loop-index : goal.invariant-loop-index
invariant-loop-index l = AreNumbers l.text l.start l.values l.index × IsSeen l.values l.index l.seen
