-- What is added from here on leaves the table with all of the node's addresses.
use Rattle.std.proofs.Common.{◌≡◌, Some, cond, drop, flat_map}
use Rattle.std.specs.BTreeMap.{get}
use Rattle.babel_value.specs.declared.addresses.Addr.{Addr}
use Rattle.babel_value.specs.Orders.{addr_cmp}
use Rattle.babel_machine.specs.Owners.{has_addr, interface_addresses}
use Rattle.babel_owners.proofs.owners.add_config.Given as goal

abbrev pub invariant-loop-interface : goal.invariant-loop-interface
invariant-loop-interface l =
    (addr : Addr) → cond (has_addr addr (flat_map interface_addresses (drop l.interface-index l.config.interfaces.items))) (Some l.node) (get addr_cmp l.nodes addr)
    ≡ cond (has_addr addr (flat_map interface_addresses l.config.interfaces.items)) (Some l.node) (get addr_cmp l.fn.nodes addr)
