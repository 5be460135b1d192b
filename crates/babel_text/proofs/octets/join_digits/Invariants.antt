-- What was joined so far, and what was there before.
use Rattle.std.proofs.Common.{◌≡◌, ◌<◌, ℕ}
use Rattle.std.specs.Prelude.{slice_index}
use Rattle.babel_text.proofs.Digits.{AreJoinedFrom}
use Rattle.babel_text.proofs.octets.join_digits.Given as goal

abbrev pub invariant-loop-index : goal.invariant-loop-index
invariant-loop-index l =
    ((i : ℕ) → i < l.start → slice_index l.octets i ≡ slice_index l.fn.octets i)
    × AreJoinedFrom l.values l.octets l.start l.index
