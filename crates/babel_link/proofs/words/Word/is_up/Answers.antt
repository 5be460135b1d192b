-- The ones among the lowest three bits are the true marks among the newest three.
use Rattle.std.proofs.Common.{leb, ap, sym}
use Rattle.babel_link.specs.Histories.{is_up}
use Rattle.babel_link.proofs.WordLemmas.{count_of_newest}
use Rattle.babel_link.proofs.words.Word.is_up.Goals as goal

pub returns : goal.returns
unfolding is_up
returns c = rw (← c.self.view_is) (ap (leb 2) (sym (count_of_newest _ _ c.self.invariant.1)))
