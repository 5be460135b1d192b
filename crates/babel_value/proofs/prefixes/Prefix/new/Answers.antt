-- Clearing keeps the family, and clears all that a second clearing would.
use Rattle.std.proofs.Common.{arith}
use Rattle.babel_value.proofs.PrefixLaws.{cleared_addr-cleared_addr, width_of-cleared_addr}
use Rattle.babel_value.proofs.prefixes.Prefix.new.Goals as goal

pub invariant_of-result : goal.invariant_of-result
invariant_of-result c =
    rw c.clear_address-addr.ensures
    (rw (width_of-cleared_addr c.args.length c.args.addr) (omega arith), cleared_addr-cleared_addr c.args.length c.args.addr)
