-- What an event does in a network, as far as the network sees its speakers (profile).
use Rattle.std.specs.Prelude.{◌≡◌, ◌⊎◌, ◌<◌, ℕ, Bool, List, [], ◌∷◌, length, slice_get, Some}
use Rattle.babel_value.specs.declared.addresses.Addr.{Addr}
use Rattle.babel_value.specs.declared.keys.Peer.{Peer}
use Rattle.babel_value.specs.Prefixes.{PrefixValue}
use Rattle.babel_state.specs.declared.configs.Config.{Config}
use Rattle.babel_state.specs.Restarts.{IsRestarted}
use Rattle.babel_state.specs.Seen.{Seen, UpdateValue, Moves, Sends, announcing_also, announcing_without}
use Rattle.babel_machine.specs.declared.events.Event.{Event}
use Rattle.babel_machine.specs.declared.events.Event.TheVariants as events
use Rattle.babel_machine.specs.Owners.{Lists}
use Rattle.babel_machine.specs.Worlds.{World, SentDatagram, speaker_at, with_speaker, with_datagram}

-- The node's speaker makes a step in which it receives nothing: its own seqno grows so often, and these prefixes are
-- announced after it. Nothing else changes.
pub record StepsAlone (node growths : ℕ) (announced : PrefixValue → Bool) (old new : World) : Type 0 where
  pub inside : node < length old.speakers
  pub peer : Peer
  pub speaker : Seen
  pub moves : Moves peer [] growths announced (speaker_at old node) speaker
  pub next : new ≡ with_speaker old node speaker

-- The node's speaker receives the datagram of this number over one of its interfaces, from the address that sent it.
pub record Receives (number node iface : ℕ) (old new : World) : Type 0 where
  pub inside : node < length old.speakers
  pub datagram : SentDatagram
  pub is : slice_get old.sent number ≡ Some datagram
  pub growths : ℕ
  pub speaker : Seen
  pub moves :
      Moves (record { iface = iface; addr = datagram.source }) datagram.updates growths (speaker_at old node).announces (speaker_at old node) speaker
  pub next : new ≡ with_speaker old node speaker

-- The node's speaker sends these updates over one of its interfaces, from the address of its transport, and the network
-- records them.
pub record Emits (node : ℕ) (old new : World) : Type 0 where
  pub inside : node < length old.speakers
  pub iface : ℕ
  pub source : Addr
  pub is_own : (speaker_at old node).transport_at iface ≡ Some source
  pub updates : List UpdateValue
  pub speaker : Seen
  pub sends : Sends iface updates (speaker_at old node) speaker
  pub next : new ≡ with_datagram (with_speaker old node speaker) (record { node = node; source = source; updates = updates })

-- The node's speaker is restarted with the node's configuration. Nothing else changes, and nothing is sent.
pub record Restarts (configs : List Config) (node : ℕ) (old new : World) : Type 0 where
  pub inside : node < length old.speakers
  pub config : Config
  pub is : slice_get configs node ≡ Some config
  pub speaker : Seen
  pub restarted : IsRestarted config (speaker_at old node) speaker
  pub next : new ≡ with_speaker old node speaker

-- An event that isn't refused leads from one world to another.
abbrev pub Happens : List Config → Event → World → World → Type 0
Happens configs (events.Tick node now) old new = StepsAlone node 0 (speaker_at old node).announces old new
-- with nothing to send, items that yield no message are dropped
Happens configs (events.Emit node now) old new = Emits node old new ⊎ StepsAlone node 0 (speaker_at old node).announces old new
-- from an address that the interface doesn't take datagrams from, nothing is received
Happens configs (events.Deliver number node iface now) old new = Receives number node iface old new ⊎ (new ≡ old)
Happens configs (events.SetCost node iface cost) old new = StepsAlone node 0 (speaker_at old node).announces old new
Happens configs (events.Raise node) old new = StepsAlone node 1 (speaker_at old node).announces old new
-- what is requested isn't seen before it is sent
Happens configs (events.RequestSeqnos node now) old new = StepsAlone node 0 (speaker_at old node).announces old new
Happens configs (events.LoseLinks node iface now) old new = StepsAlone node 0 (speaker_at old node).announces old new
Happens configs (events.GroupItems node) old new = StepsAlone node 0 (speaker_at old node).announces old new
Happens configs (events.Announce node prefix) old new =
    Lists configs node prefix × StepsAlone node 0 (announcing_also prefix (speaker_at old node)) old new
Happens configs (events.Withdraw node prefix) old new =
    StepsAlone node 0 (announcing_without prefix (speaker_at old node)) old new
Happens configs (events.Restart node now) old new = Restarts configs node old new

-- The events happen one after the other, and these are the worlds after each of them.
abbrev pub HappenAll : List Config → List Event → World → List World → Type 0
HappenAll configs [] old [] = Unit {0}
HappenAll configs [] old (w ∷ ws) = ⊥
HappenAll configs (event ∷ rest) old [] = ⊥
HappenAll configs (event ∷ rest) old (w ∷ ws) = Happens configs event old w × HappenAll configs rest w ws

-- The last of some worlds; the first one, if there is no other.
abbrev pub last_world : World → List World → World
last_world w [] = w
last_world w (next ∷ rest) = last_world next rest
