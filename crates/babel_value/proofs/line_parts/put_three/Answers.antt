-- Three digits.
use Rattle.std.specs.Prelude.{take}
use Rattle.babel_value.proofs.Digits.{decimal_of_three}
use Rattle.babel_value.proofs.line_parts.put_three.Goals as goal

pub returns-clause-text : goal.returns-clause-text
returns-clause-text c = cc (decimal_of_three (take c.args.len c.args.line.now) c.args.number c.requires.three.0 c.requires.three.1)
