-- One digit.
use Rattle.std.proofs.Common.{◌<◌, arith}
use Rattle.std.specs.Prelude.{take}
use Rattle.babel_value.proofs.Digits.{decimal_of_one}
use Rattle.babel_value.proofs.line_parts.put_u8.Goals as goal

pub returns-then-number-lt10-clause-text : goal.returns-then-number-lt10-clause-text
returns-then-number-lt10-clause-text c =
    let few : c.args.number < 10 = omega (arith, c.if-number-lt10.true, c.from-number.ensures) in cc (decimal_of_one (take c.args.len c.args.line.now) c.args.number few)
