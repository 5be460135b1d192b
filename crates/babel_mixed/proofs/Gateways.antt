-- The node that has the next hop of a selected route.
use Rattle.std.proofs.Common.{◌≡◌, ℕ, Option, Some, None, slice_get, refl, ap, ◌∙◌}
use Rattle.std.specs.BTreeMap.{BTreeMap, get}
use Rattle.std.specs.Option.{option_and_then}
use Rattle.babel_value.specs.declared.addresses.Addr.{Addr}
use Rattle.babel_value.specs.Orders.{addr_cmp}
use Rattle.babel_value.specs.Prefixes.{PrefixValue}
use Rattle.babel_state.specs.declared.selected.Selected.{Selected}
use Rattle.babel_state.specs.Calls.{selected_route}
use Rattle.babel_machine.specs.ForeignWorlds.{gateway_in}
use Rattle.babel_machine.specs.Owners.{owner_of}
use Rattle.babel_net.specs.Networks.{NetworkState, world_of}
use Rattle.babel_net.specs.Owned.{AreOwners}
use Rattle.babel_net.proofs.NextHops.{selected_as}

pub gateway_returned : (n : NetworkState) (nodes : BTreeMap Addr ℕ) (node : ℕ) (prefix : PrefixValue) (selected : Option Selected) (next : Option ℕ) → AreOwners n.configs nodes → selected ≡ option_and_then (selected_route prefix) (slice_get n.speakers node) → next ≡ option_and_then (λ (route : Selected). get addr_cmp nodes route.next_hop) selected → next ≡ gateway_in n.configs (world_of n) prefix node
gateway_returned n nodes node prefix selected next owners of_node returned =
    returned ∙ by selected ∙ ap (option_and_then (λ (route : Selected). owner_of n.configs route.next_hop)) (of_node ∙ selected_as n node prefix)
  where
    by : (o : Option Selected) → option_and_then (λ (route : Selected). get addr_cmp nodes route.next_hop) o ≡ option_and_then (λ (route : Selected). owner_of n.configs route.next_hop) o
    by None = refl
    by (Some route) = owners route.next_hop
