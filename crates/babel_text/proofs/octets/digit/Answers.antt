-- The ranges are those of the digits.
use Rattle.babel_text.proofs.Digits.{letters_are_digits, others_are_none}
use Rattle.std.proofs.Common.{arith}
use Rattle.babel_text.proofs.octets.digit.Goals as goal

pub returns-then-letter-lt6 : goal.returns-then-letter-lt6
returns-then-letter-lt6 c = letters_are_digits c.args.octet c.ranges.octet.fits (omega arith) (omega arith)

pub returns : goal.returns
returns c = others_are_none c.args.octet c.ranges.octet.fits (omega arith) (omega arith)
