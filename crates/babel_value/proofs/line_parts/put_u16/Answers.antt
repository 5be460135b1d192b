-- Up to five digits.
use Rattle.std.specs.Prelude.{take}
use Rattle.babel_value.proofs.Digits.{decimal_of_one, decimal_of_five}
use Rattle.babel_value.proofs.line_parts.put_u16.Goals as goal

pub returns-then-number-lt10-clause-text : goal.returns-then-number-lt10-clause-text
returns-then-number-lt10-clause-text c = cc (decimal_of_one (take c.args.len c.args.line.now) c.args.number c.if-number-lt10.true)

pub returns-clause-text : goal.returns-clause-text
returns-clause-text c = cc (decimal_of_five (take c.args.len c.args.line.now) c.args.number c.ranges.number.fits)
