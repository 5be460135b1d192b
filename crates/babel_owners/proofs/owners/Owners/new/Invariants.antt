-- The table has the owners of the addresses of the configurations from here on.
use Rattle.std.proofs.Common.{◌≡◌, ◌+◌, ◌≤◌, drop, length, option_map}
use Rattle.std.specs.BTreeMap.{get}
use Rattle.babel_value.specs.declared.addresses.Addr.{Addr}
use Rattle.babel_value.specs.Orders.{addr_cmp}
use Rattle.babel_machine.specs.Owners.{owner_of}
use Rattle.babel_owners.proofs.owners.Owners.new.Given as goal

abbrev pub invariant-loop-left : goal.invariant-loop-left
invariant-loop-left l = record {
  inside : l.left ≤ length l.configs;
  done : (addr : Addr) → get addr_cmp l.nodes addr ≡ option_map (λ n. n + l.left) (owner_of (drop l.left l.configs) addr);
}

abbrev pub decreases-loop-left : goal.decreases-loop-left
decreases-loop-left l = l.left
