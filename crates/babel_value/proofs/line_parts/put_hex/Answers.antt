-- Up to four digits.
use Rattle.std.proofs.Common.{ℕ, List, ◌∙◌, ap, sym, arith}
use Rattle.std.specs.Prelude.{◌++◌}
use Rattle.std.specs.Prelude.{take}
use Rattle.babel_value.proofs.Digits.{hex_one, hex_of_four}
use Rattle.babel_value.proofs.line_parts.put_hex.Goals as goal

pub returns-then-number-eq0-clause-text : goal.returns-then-number-eq0-clause-text
returns-then-number-eq0-clause-text c =
    rw c.if-number-eq0.true (c.put_str.ensures.text ∙ ap (λ (t : List ℕ). (take c.args.len c.args.line.now) ++ t) (sym (hex_one 0 (omega arith))))

pub returns-clause-text : goal.returns-clause-text
returns-clause-text c = cc (hex_of_four (take c.args.len c.args.line.now) c.args.number c.ranges.number.fits)
