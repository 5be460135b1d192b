-- The number, if it fits in 8 bits.
use Rattle.std.proofs.Common.{lit≤}
use Rattle.babel_text.proofs.Decimals.{number_narrowed}
use Rattle.babel_text.proofs.numbers.u8_of.Goals as goal

pub returns : goal.returns
returns c = rw c.ok.ensures.value (number_narrowed 8 c.args.text.now c.in_ok-number.number c.try_from.result (lit≤ tt) c.in_ok-number.ensures c.try_from.ensures)
