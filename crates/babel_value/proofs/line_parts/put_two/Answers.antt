-- Two digits.
use Rattle.std.specs.Prelude.{take}
use Rattle.babel_value.proofs.Digits.{decimal_of_two}
use Rattle.babel_value.proofs.line_parts.put_two.Goals as goal

pub returns-clause-text : goal.returns-clause-text
returns-clause-text c = cc (decimal_of_two (take c.args.len c.args.line.now) c.args.number c.requires.two.0 c.requires.two.1)
