-- What is proved of the definitions of a network (profile).
use Rattle.std.specs.Prelude.{◌≡◌, ◌<◌, List, All, None}
use Rattle.babel_value.specs.Seqnos.{seqno_modulus}
use Rattle.babel_state.specs.declared.configs.Config.{Config}
use Rattle.babel_machine.specs.declared.events.Event.{Event}
use Rattle.babel_machine.specs.Acceptance.{net_fault}
use Rattle.babel_machine.specs.Happenings.{Happens}
use Rattle.babel_net.specs.Networks.{NetworkState, world_of}
use Rattle.babel_net.specs.Steps.{Makes}
use Rattle.babel_net.specs.EventRefusals.{step_fault}
use Rattle.babel_net.specs.Invariants.{IsNetwork, IsRunning}
use Rattle.babel_net.specs.Promises.{first_network}

-- Configurations without a fault make a network.
abbrev pub FirstNetworksAreSound : Type 0
FirstNetworksAreSound =
    (configs : List Config) → net_fault configs ≡ None → All (λ (c : Config). c.seqno < seqno_modulus) configs → IsNetwork (first_network configs)

-- An event that makes its step happens in what is seen of the network, also among routers of others.
abbrev pub EventsHappen : Type 0
EventsHappen =
    (event : Event) (old new : NetworkState) →
    IsRunning old → Makes event old new → step_fault event old ≡ None → Happens old.configs event (world_of old) (world_of new)

-- And it keeps what holds of every network of speakers alone.
abbrev pub EventsKeepNetworks : Type 0
EventsKeepNetworks =
    (event : Event) (old new : NetworkState) → IsNetwork old → Makes event old new → step_fault event old ≡ None → IsNetwork new
