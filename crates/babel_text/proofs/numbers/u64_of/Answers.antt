-- Digits that no zero begins are the number in decimal.
use Rattle.std.proofs.Common.{arith}
use Rattle.babel_text.proofs.Decimals.{no_number, number_reads, two_spelled}
use Rattle.babel_text.proofs.numbers.u64_of.Goals as goal

pub returns-in-len2 : goal.returns-in-len2
returns-in-len2 c = two_spelled c.args.text.now (omega (arith, c.in-len2.len_at_least, c.in-len2.len_below)) c.two_digits.result c.two_digits.ensures

pub returns-then-has_leading_zero : goal.returns-then-has_leading_zero
returns-then-has_leading_zero c = no_number c.args.text.now (cc)

pub returns : goal.returns
returns c = number_reads c.args.text.now (cc) c.value_of.result c.value_of.ensures
