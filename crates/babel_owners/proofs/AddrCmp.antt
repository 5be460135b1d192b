-- `cmp` of two addresses is the stated order.
use Rattle.std.proofs.Common.{◌≡◌}
use Rattle.babel_value.specs.Orders.{addr_cmp}
use Rattle.babel_value.specs.contracts.addresses.AddrOrd.TheImpl as addrs
use Rattle.babel_value.proofs.StatedOrders.{cmp_of_addrs}

pub same_cmp : (addrs.ghosts).cmp ≡ addr_cmp
same_cmp = λ i a b. cmp_of_addrs a b i
