-- A reserved router-id is the first fault of a configuration.
use Rattle.std.specs.Prelude.{◌≡◌, Bool, true, false, [], ◌∷◌, Some, None, if◌then◌else◌}
use Rattle.std.proofs.Common.{refl, sym, ap}
use Rattle.std.proofs.lemmas.Option.{none-some}
use Rattle.babel_value.specs.RouterIds.{is_reserved, router_id_of}
use Rattle.babel_state.specs.declared.configs.Config.{Config}
use Rattle.babel_state.specs.declared.errors.ConfigFault.TheVariants.{ReservedRouterId, InterfaceCount, NominalCost, HelloInterval, Prefixes, InterfaceAddresses}
use Rattle.babel_state.specs.Configs.{has_cause, first_of_causes, config_fault}

pub reserved_router : (c : Config) → router_id_of c.router_id ≡ None → config_fault c ≡ Some ReservedRouterId
unfolding config_fault
reserved_router c none = by (is_reserved c.router_id) refl none
  where
    by : (b : Bool) → is_reserved c.router_id ≡ b → (if b then None else Some c.router_id) ≡ None → config_fault c ≡ Some ReservedRouterId
    by true at is = ap (λ b. if b then Some ReservedRouterId else first_of_causes (has_cause c) (InterfaceCount ∷ NominalCost ∷ HelloInterval ∷ Prefixes ∷ InterfaceAddresses ∷ [])) at
    by false at is = absurd (none-some c.router_id (sym is))
