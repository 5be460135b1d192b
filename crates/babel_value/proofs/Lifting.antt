-- In one half of the circle seqnos are in the order of the numbers that they are ahead of its first one (RFC 8966, section 3.2.1).
use Rattle.std.proofs.Common.{◌≡◌, ℕ, ◌<◌, ◌≤◌, nat_lt, arith}
use Rattle.std.proofs.lemmas.Bool.Decides.{nat_tests}
use Rattle.babel_value.specs.Seqnos.{lift, is_before}

pub order_lifted : (first a b : ℕ) → first < 65536 → a < 65536 → b < 65536 → lift first a ≤ 32767 → lift first b ≤ 32767 → is_before a b ≡ nat_lt (lift first a) (lift first b)
order_lifted first a b f0 a0 b0 la lb = grind (arith, nat_tests)
