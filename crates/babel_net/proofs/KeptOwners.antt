-- The owners of addresses stay, since configurations do.
use Rattle.std.proofs.Common.{◌≡◌, ℕ, List, Result, Ok, Err, OnOk, OnErr, sym, ap, subst}
use Rattle.std.specs.BTreeMap.{BTreeMap}
use Rattle.babel_value.specs.declared.addresses.Addr.{Addr}
use Rattle.babel_state.specs.declared.configs.Config.{Config}
use Rattle.babel_machine.specs.declared.events.Event.{Event}
use Rattle.babel_machine.specs.declared.errors.StepFault.{StepFault}
use Rattle.babel_net.specs.Networks.{NetworkState}
use Rattle.babel_net.specs.Owned.{AreOwners}
use Rattle.babel_net.specs.Steps.{Makes}
use Rattle.babel_net.proofs.Chains.{same_configs}

pub owners_as : (configs other : List Config) (nodes : BTreeMap Addr ℕ) → other ≡ configs → AreOwners configs nodes → AreOwners other nodes
owners_as configs other nodes same owners = subst (λ (cs : List Config). AreOwners cs nodes) (sym same) owners

-- after an event that made its step, or was refused
pub step_owners : {T : Type 0} (r : Result T StepFault) (event : Event) (old new : NetworkState) (nodes : BTreeMap Addr ℕ) → AreOwners old.configs nodes → OnOk r (Makes event old new) → OnErr r (new ≡ old) → AreOwners new.configs nodes
step_owners (Ok done) event old new nodes owners made same = owners_as old.configs new.configs nodes (same_configs event old new made) owners
step_owners (Err fault) event old new nodes owners made same = owners_as old.configs new.configs nodes (ap (λ (n : NetworkState). n.configs) same) owners
