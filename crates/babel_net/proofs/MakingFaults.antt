-- Why no network is made.
use Rattle.std.proofs.Common.{◌≡◌, List, Option, Some, None, IsNone, refl, sym, inl}
use Rattle.std.proofs.lemmas.Bool.{false≢true}
use Rattle.babel_state.specs.declared.configs.Config.{Config}
use Rattle.babel_machine.specs.declared.errors.NetFault.{NetFault}
use Rattle.babel_machine.specs.declared.errors.NetFault.TheVariants.{Memory}
use Rattle.babel_net.specs.Making.{IsMakingFault}

pub no_fault : (o : Option NetFault) → IsNone o → o ≡ None
no_fault None h = refl
no_fault (Some fault) h = absurd (false≢true (sym h))

-- without a fault it is an allocation of the network's own
pub own_memory : (configs : List Config) (o : Option NetFault) → IsNone o → IsMakingFault configs o Memory
own_memory configs None h = inl refl
own_memory configs (Some fault) h = absurd (false≢true (sym h))
