-- A network of ours among routers of others, and what its nodes hear from them (profile).
use Rattle.std.specs.Prelude.{◌≡◌, List, [], ◌++◌, None}
use Rattle.babel_packet.specs.Meaning.{meaning}
use Rattle.babel_state.specs.declared.configs.Config.{Config}
use Rattle.babel_state.specs.Seen.{UpdateValue}
use Rattle.babel_machine.specs.ForeignWorlds.{ForeignWorld, HearEvent}
use Rattle.babel_machine.specs.Owners.{owner_of}
use Rattle.babel_net.specs.declared.hearing.Hearing.{Hearing}
use Rattle.babel_net.specs.declared.hearing.Hearing.TheVariants.{Received, Refused}
use Rattle.babel_net.specs.Hearing.{HearsAt}
use Rattle.babel_net.specs.Networks.{NetworkState, world_of, updates_read}
use Rattle.babel_net.specs.Promises.{first_network}

-- Our network, and the finite updates that its nodes ever heard from routers of others, in order.
pub record MixedState : Type 0 where
  pub ours : NetworkState
  pub heard : List UpdateValue

abbrev pub mixed_world : MixedState → ForeignWorld
mixed_world n = record { ours = world_of n.ours; heard = n.heard }

-- At first nothing was heard.
abbrev pub first_mixed : List Config → MixedState
first_mixed configs = record { ours = first_network configs; heard = [] }

-- ---- a datagram that is heard

-- The finite updates that are heard of the datagram. One that is refused brings none.
abbrev pub updates_by : Hearing → HearEvent → List UpdateValue
updates_by Received event = updates_read (meaning event.octets event.source)
updates_by Refused event = []

-- A node hears the datagram, and its finite updates are recorded after those that were heard earlier.
pub record Hears (event : HearEvent) (old new : NetworkState) (earlier now : List UpdateValue) : Type 0 where
  pub hearing : Hearing
  pub hears : HearsAt event hearing old new
  pub records : now ≡ earlier ++ updates_by hearing event

-- It comes from an address that no node has.
pub record MakesHear (event : HearEvent) (old new : MixedState) : Type 0 where
  pub is_foreign : owner_of old.ours.configs event.source ≡ None
  pub made : Hears event old.ours new.ours old.heard new.heard
