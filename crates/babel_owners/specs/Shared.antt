-- Addresses that two lists have both (profile).
use Rattle.std.specs.Prelude.{Bool, List}
use Rattle.std.specs.List.{list_any}
use Rattle.babel_value.specs.declared.addresses.Addr.{Addr}
use Rattle.babel_machine.specs.Owners.{has_addr}

-- An address of the one list is in the other.
abbrev pub share : List Addr → List Addr → Bool
share one other = list_any (λ addr. has_addr addr other) one
