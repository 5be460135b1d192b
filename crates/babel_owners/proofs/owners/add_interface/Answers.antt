-- First the address of IPv4, then that of IPv6.
use Rattle.std.specs.BTreeMap.{get}
use Rattle.std.proofs.lemmas.Result.{on_ok_weaker}
use Rattle.babel_value.specs.Orders.{addr_cmp}
use Rattle.babel_owners.proofs.SharedAddresses.{put_interface}
use Rattle.babel_owners.proofs.owners.add_interface.Goals as goal

pub returns : goal.returns
returns c =
    on_ok_weaker c.add_addr-2.result
    (λ put addr. put_interface c.args.interface.now c.address_of.result c.address_of-2.result addr c.args.node (get addr_cmp c.args.nodes.now addr) (get addr_cmp c.add_addr.new.nodes addr) (get addr_cmp c.add_addr-2.new.nodes addr) c.address_of.ensures c.address_of-2.ensures (c.in_ok-add_addr.ensures addr) (put addr))
    c.add_addr-2.ensures
