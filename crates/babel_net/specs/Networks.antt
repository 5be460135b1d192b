-- The state of a network, and what is seen of it (profile).
use Rattle.std.specs.Prelude.{ℕ, List, [], ◌∷◌, ◌++◌, map, slice_set, Result, Ok, Err}
use Rattle.babel_value.specs.declared.addresses.Addr.{Addr}
use Rattle.babel_message.specs.declared.errors.Refusal.{Refusal}
use Rattle.babel_message.specs.declared.placements.Placed.{Placed}
use Rattle.babel_packet.specs.Meaning.{meaning, messages_of}
use Rattle.babel_state.specs.declared.configs.Config.{Config}
use Rattle.babel_state.specs.Seen.{UpdateValue, seen, updates_among}
use Rattle.babel_state.specs.State.{State}
use Rattle.babel_machine.specs.Worlds.{World, SentDatagram}

-- A datagram that was sent: by which node, from which address, and its octets.
pub record SentOctets : Type 0 where
  pub node : ℕ
  pub source : Addr
  pub octets : List ℕ

-- The configurations and the speakers by their nodes' numbers, and all that was ever sent, in order.
pub record NetworkState : Type 0 where
  pub configs : List Config
  pub speakers : List State
  pub sent : List SentOctets

abbrev pub with_speaker_state : NetworkState → ℕ → State → NetworkState
with_speaker_state n node s = record n { speakers = slice_set n.speakers node s }

abbrev pub with_octets : NetworkState → SentOctets → NetworkState
with_octets n datagram = record n { sent = n.sent ++ datagram ∷ [] }

-- The finite updates of a datagram that was read.
abbrev pub updates_read : Result (List Placed) Refusal → List UpdateValue
updates_read (Ok placed) = updates_among (messages_of placed)
updates_read (Err refusal) = []

abbrev pub datagram_seen : SentOctets → SentDatagram
datagram_seen d = record { node = d.node; source = d.source; updates = updates_read (meaning d.octets d.source) }

-- What is seen of the network: of each speaker, and of each datagram what its octets mean to a receiver.
abbrev pub world_of : NetworkState → World
world_of n = record { speakers = map seen n.speakers; sent = map datagram_seen n.sent }
