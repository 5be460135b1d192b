-- The blank is the first one; at the end there is none.
use Rattle.std.proofs.Common.{◌+◌, ◌-◌, drop, length, arith, eq-eqb}
use Rattle.std.proofs.lemmas.List.{take_all, length-drop}
use Rattle.babel_text.proofs.FirstBlanks.{first_blank, no_blank, parted}
use Rattle.babel_text.proofs.fields.split_field.Goals as goal

pub returns-then-text-index-eq32 : goal.returns-then-text-index-eq32
returns-then-text-index-eq32 c =
    let text = c.args.text.now in
    let i = c.loop-index.index in
    let is = first_blank text i (omega arith) c.loop-index.invariant (λ _. eq-eqb _ 32 c.if-text-index-eq32.true) in
    parted text _ i (omega arith) is (take_all (length text - (i + 1)) (drop (i + 1) text) (omega (arith, length-drop (i + 1) text)))

pub returns : goal.returns
returns c = no_blank c.args.text.now (λ k less. c.loop-index.invariant k (omega arith))
