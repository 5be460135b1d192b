-- One digit.
use Rattle.std.proofs.Common.{refl, arith}
use Rattle.babel_text.proofs.Decimals.{last_goes}
use Rattle.babel_text.proofs.numbers.value_of.Goals as goal

pub returns-in-len1 : goal.returns-in-len1
returns-in-len1 c = last_goes c.args.digits.now 0 0 (omega (arith, c.in-len1.len_at_least, c.in-len1.len_below)) (λ k below. absurd (omega (arith, below))) refl c.next_value.result c.next_value.ensures
