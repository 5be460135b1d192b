-- What is left so far.
use Rattle.std.proofs.Common.{◌≡◌, drop}
use Rattle.babel_link.proofs.words.Word.forget.Given as goal

abbrev pub invariant-loop : goal.invariant-loop
invariant-loop l = l.self ≡ drop l.counter l.fn.self
