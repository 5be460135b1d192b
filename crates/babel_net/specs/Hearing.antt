-- What a node makes of a datagram that it hears from a router of others (profile).
use Rattle.std.specs.Prelude.{◌≡◌, ◌⊎◌, List, Some, None, Ok, Err, slice_get}
use Rattle.babel_value.specs.declared.keys.Peer.{Peer}
use Rattle.babel_message.specs.declared.placements.Placed.{Placed}
use Rattle.babel_message.specs.declared.errors.Refusal.{Refusal}
use Rattle.babel_packet.specs.Meaning.{meaning}
use Rattle.babel_state.specs.declared.errors.RecvFault.{RecvFault}
use Rattle.babel_state.specs.Addresses.{source_fault}
use Rattle.babel_state.specs.Messages.{after_places}
use Rattle.babel_state.specs.State.{State}
use Rattle.babel_machine.specs.ForeignWorlds.{HearEvent}
use Rattle.babel_net.specs.declared.hearing.Hearing.{Hearing}
use Rattle.babel_net.specs.declared.hearing.Hearing.TheVariants.{Received, Refused}
use Rattle.babel_net.specs.Networks.{NetworkState, with_speaker_state}

abbrev pub neighbour_of : HearEvent → Peer
neighbour_of event = record { iface = event.iface; addr = event.source }

-- The speaker takes no datagrams from the address, or the octets can't be read.
abbrev pub IsUnheard : HearEvent → State → Type 0
IsUnheard event s =
    ((fault : RecvFault) × (source_fault event.iface event.source s ≡ Some fault))
    ⊎ ((refusal : Refusal) × (meaning event.octets event.source ≡ Err refusal))

-- The speaker handles what the datagram means; or it refuses the datagram, and is unchanged.
abbrev pub HearsAs : Hearing → HearEvent → State → State → Type 0
HearsAs Received event old new =
    (placed : List Placed) × (source_fault event.iface event.source old ≡ None) × (meaning event.octets event.source ≡ Ok placed)
    × (new ≡ after_places event.now (neighbour_of event) placed old)
HearsAs Refused event old new = IsUnheard event old × (new ≡ old)

-- The node's speaker hears the datagram, and all else of our network is unchanged.
pub record HearsAt (event : HearEvent) (hearing : Hearing) (old new : NetworkState) : Type 0 where
  pub speaker : State
  pub is : slice_get old.speakers event.node ≡ Some speaker
  pub after : State
  pub hears : HearsAs hearing event speaker after
  pub next : new ≡ with_speaker_state old event.node after
