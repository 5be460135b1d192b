-- A word has at most 16 marks, and each push adds one more that was missed.
use Rattle.std.proofs.Common.{◌++◌, false, replicate, sym, arith, add-one}
use Rattle.std.proofs.lemmas.List.{take_all}
use Rattle.babel_link.specs.WordLaws.{length-marks_of}
use Rattle.babel_link.proofs.WordLemmas.{newest_newest}
use Rattle.babel_link.proofs.words.Word.push_missed.Goals as goal

-- the word has at most 16 marks
pub loop-init : goal.loop-init
loop-init c =
    rw (← c.self.view_is) (sym (take_all 16 _ (omega (arith, length-marks_of c.self.inside.count c.self.inside.bits))))

pub loop-preserved : goal.loop-preserved
loop-preserved c = rw (c.push.ensures, c.loop.invariant, add-one) (newest_newest false (replicate c.loop.counter false ++ c.args.self.now))
