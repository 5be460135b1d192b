-- The octet is a blank, and none before it is.
use Rattle.std.proofs.Common.{arith, eq-eqb}
use Rattle.babel_text.proofs.FirstBlanks.{first_blank}
use Rattle.babel_text.proofs.fields.is_first_blank.Goals as goal

pub returns : goal.returns
returns c = λ _. first_blank c.args.text.now c.args.at (omega (arith, c.requires)) (λ k less. c.loop-index.invariant k (omega arith)) (λ _. eq-eqb _ 32 c.if-text-at-ne32.false)
