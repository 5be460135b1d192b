-- What was pushed so far.
use Rattle.std.proofs.Common.{◌≡◌, ◌++◌, false, replicate}
use Rattle.babel_link.specs.Histories.{newest}
use Rattle.babel_link.proofs.words.Word.push_missed.Given as goal

abbrev pub invariant-loop : goal.invariant-loop
invariant-loop l = l.self ≡ newest (replicate l.counter false ++ l.fn.self)
