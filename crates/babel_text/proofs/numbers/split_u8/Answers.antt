-- The number, if it fits in 8 bits.
use Rattle.std.proofs.Common.{lit≤, Err}
use Rattle.babel_text.specs.Fields.{before_blank}
use Rattle.babel_text.proofs.Decimals.{number_narrowed}
use Rattle.babel_text.proofs.numbers.split_u8.Goals as goal

pub returns-in-Err : goal.returns-in-Err
returns-in-Err c = λ number blank.
    number_narrowed 8 (before_blank c.args.text.now) c.in_ok-number.number (Err c.in-Err.field-0) (lit≤ tt) c.in_ok-number.ensures.1 c.in-Err.ensures number
