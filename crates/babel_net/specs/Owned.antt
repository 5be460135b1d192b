-- The table of addresses (profile).
use Rattle.std.specs.Prelude.{◌≡◌, ℕ, List}
use Rattle.std.specs.BTreeMap.{BTreeMap, get}
use Rattle.babel_value.specs.declared.addresses.Addr.{Addr}
use Rattle.babel_value.specs.Orders.{addr_cmp}
use Rattle.babel_state.specs.declared.configs.Config.{Config}
use Rattle.babel_machine.specs.Owners.{owner_of}

-- It has, for each address, the node that owns it.
abbrev pub AreOwners : List Config → BTreeMap Addr ℕ → Type 0
AreOwners configs nodes = (addr : Addr) → get addr_cmp nodes addr ≡ owner_of configs addr
