-- A word that isn't 0 has a true mark.
use Rattle.std.proofs.Common.{sym}
use Rattle.babel_link.specs.Histories.{has_received}
use Rattle.babel_link.proofs.WordLemmas.{any_of_word}
use Rattle.babel_link.proofs.words.Word.has_received.Goals as goal

pub returns : goal.returns
unfolding has_received
returns c = rw (← c.self.view_is) (sym (any_of_word _ _ c.self.invariant.1))
