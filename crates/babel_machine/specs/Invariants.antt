-- What every event of a network keeps (profile).
use Rattle.std.specs.Prelude.{◌≡◌, ◌<◌, ◌≤◌, ℕ, ◌+◌, ◌%◌, true, false, List, [], length, slice_get, All, Contains, Option, Some, None}
use Rattle.babel_value.specs.declared.addresses.Addr.{Addr}
use Rattle.babel_value.specs.declared.addresses.Family.{Family}
use Rattle.babel_value.specs.declared.distances.Distance.{Distance}
use Rattle.babel_value.specs.declared.keys.Peer.{Peer}
use Rattle.babel_value.specs.Prefixes.{PrefixValue}
use Rattle.babel_value.specs.Seqnos.{seqno_modulus, lift}
use Rattle.babel_state.specs.declared.configs.Config.{Config}
use Rattle.babel_state.specs.Seen.{UpdateValue, HeardValue, IsSelecting, NamesOthers}
use Rattle.babel_machine.specs.declared.machine.pair.Pair.{Pair}
use Rattle.babel_machine.specs.Machine.{IsBetterPair}
use Rattle.babel_machine.specs.Sound.{IsSound}
use Rattle.babel_machine.specs.Owners.{owner_of, Lists}
use Rattle.babel_machine.specs.Worlds.{World, SentDatagram, speaker_at, updates_of}
use Rattle.babel_machine.specs.Views.{NetSource, IsSource, IsCounted, lifted, sent_by, view}

-- The update of which a route is what was heard.
abbrev pub update_heard : PrefixValue → HeardValue → UpdateValue
update_heard prefix h = record { prefix = prefix; router = h.router; distance = h.distance; next_hop = h.next_hop }

-- The route is a recorded update of the node that owns both the neighbour's address and the next hop.
pub record WasSent (configs : List Config) (sent : List SentDatagram) (prefix : PrefixValue) (peer : Peer) (h : HeardValue) : Type 0 where
  pub node : ℕ
  pub neighbour : owner_of configs peer.addr ≡ Some node
  pub next_hop : owner_of configs h.next_hop ≡ Some node
  pub recorded : Contains (updates_of node sent) (update_heard prefix h)

-- The router-id is that of a node whose configuration lists the prefix.
abbrev pub IsOrigin : List Config → PrefixValue → List ℕ → Type 0
IsOrigin configs prefix router = (node : ℕ) × (c : Config) × (slice_get configs node ≡ Some c) × (router ≡ c.router_id) × Lists configs node prefix

-- What is always known of an update that a node sent.
pub record IsKnown (configs : List Config) (node : ℕ) (u : UpdateValue) : Type 0 where
  pub next_hop : owner_of configs u.next_hop ≡ Some node
  pub seqno : u.distance.seqno < seqno_modulus
  pub origin : IsOrigin configs u.prefix u.router

-- What holds of every network, however often its nodes raised their seqnos: with how its finite routes came about, and what
-- is known of an update that a node sent.
pub record HoldsWith (is_heard : PrefixValue → Peer → HeardValue → Type 0) (is_known : ℕ → UpdateValue → Type 0) (configs : List Config) (w : World) : Type 0 where
  pub size : length w.speakers ≡ length configs
  -- each speaker has its configured router-id, and doesn't collect sources
  pub router : (node : ℕ) (c : Config) → slice_get configs node ≡ Some c → (speaker_at w node).router ≡ c.router_id
  pub collects : (node : ℕ) → (speaker_at w node).collects ≡ false
  -- it has no address that another one has
  pub transports : (node iface : ℕ) (addr : Addr) → (speaker_at w node).transport_at iface ≡ Some addr → owner_of configs addr ≡ Some node
  pub addresses : (node iface : ℕ) (family : Family) (addr : Addr) → (speaker_at w node).address_at iface family ≡ Some addr → owner_of configs addr ≡ Some node
  -- it announces listed prefixes alone
  pub seqno : (node : ℕ) → (speaker_at w node).seqno < seqno_modulus
  pub announces : (node : ℕ) (prefix : PrefixValue) → (speaker_at w node).announces prefix ≡ true → Lists configs node prefix
  -- each of its finite routes came about so
  pub heard : (node : ℕ) (prefix : PrefixValue) (peer : Peer) (h : HeardValue) → (speaker_at w node).heard_at prefix peer ≡ Some h → is_heard prefix peer h
  pub selecting : (node : ℕ) → IsSelecting (speaker_at w node)
  -- and none of them names the speaker's own router-id
  pub others : (node : ℕ) → NamesOthers (speaker_at w node)
  -- each datagram was sent from an address of its node, and so were its next hops
  pub sources : All (λ (d : SentDatagram). owner_of configs d.source ≡ Some d.node) w.sent
  pub updates : (node : ℕ) (u : UpdateValue) → Contains (updates_of node w.sent) u → is_known node u

-- Of speakers alone: each finite route is a recorded update.
abbrev pub Holds : List Config → World → Type 0
Holds configs w = HoldsWith (WasSent configs w.sent) (IsKnown configs) configs w

-- A source entry is at least as good as every pair that its speaker ever sent, and has a number that was reached.
abbrev pub Bounds : NetSource → ℕ → Option Distance → List Pair → Type 0
Bounds s raises None sent = sent ≡ []
Bounds s raises (Some d) sent =
    (d.seqno < seqno_modulus) × (lift s.start d.seqno ≤ raises) × All (λ own. ¬ IsBetterPair own (lifted s d)) sent

-- What holds for a source that was counted up to 32,767 at most.
pub record HoldsFor (configs : List Config) (s : NetSource) (w : World) : Type 0 where
  pub own_seqno : (speaker_at w s.owner).seqno ≡ (s.start + (speaker_at w s.owner).raises) % seqno_modulus
  pub bounds : (node : ℕ) → Bounds s (speaker_at w s.owner).raises ((speaker_at w node).source_at s.prefix s.router) (sent_by s w.sent node)
  pub sound : IsSound (view configs s w)

pub record IsInvariant (configs : List Config) (w : World) : Type 0 where
  pub holds : Holds configs w
  pub counted : (s : NetSource) → IsSource configs s → IsCounted s w → HoldsFor configs s w
