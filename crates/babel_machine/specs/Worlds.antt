-- What a network sees: its speakers, and the finite updates of each datagram that was sent (profile).
use Rattle.std.specs.Prelude.{◌≡◌, ℕ, false, ◌==◌, List, [], ◌∷◌, ◌++◌, length, flat_map, slice_index_or, slice_get, slice_set, Option, Some, None, option_map, if◌then◌else◌}
use Rattle.std.specs.Option.{option_and_then}
use Rattle.babel_value.specs.declared.addresses.Addr.{Addr}
use Rattle.babel_value.specs.Prefixes.{PrefixValue}
use Rattle.babel_state.specs.declared.configs.Config.{Config}
use Rattle.babel_state.specs.declared.selected.Selected.{Selected}
use Rattle.babel_state.specs.Seen.{Seen, UpdateValue, IsNew}
use Rattle.babel_machine.specs.Owners.{owner_of}

-- A datagram that was sent: by which node, from which address, and with which finite updates.
pub record SentDatagram : Type 0 where
  pub node : ℕ
  pub source : Addr
  pub updates : List UpdateValue

-- The speakers by their nodes' numbers, and all that was ever sent, in order.
pub record World : Type 0 where
  pub speakers : List Seen
  pub sent : List SentDatagram

-- What is seen of a number that is no node's: nothing.
abbrev pub nothing : Seen
nothing = record {
  router = [];
  collects = false;
  transport_at = λ iface. None;
  address_at = λ iface family. None;
  seqno = 0;
  raises = 0;
  announces = λ prefix. false;
  source_at = λ prefix router. None;
  heard_at = λ prefix peer. None;
  selected_at = λ prefix. None;
}

abbrev pub speaker_at : World → ℕ → Seen
speaker_at w node = slice_index_or w.speakers node nothing

abbrev pub with_speaker : World → ℕ → Seen → World
with_speaker w node speaker = record w { speakers = slice_set w.speakers node speaker }

abbrev pub with_datagram : World → SentDatagram → World
with_datagram w datagram = record w { sent = w.sent ++ datagram ∷ [] }

-- The finite updates of a datagram, if the node sent it.
abbrev pub updates_if : ℕ → SentDatagram → List UpdateValue
updates_if node datagram = if datagram.node == node then datagram.updates else []

-- All finite updates that the node ever sent, in order.
abbrev pub updates_of : ℕ → List SentDatagram → List UpdateValue
updates_of node sent = flat_map (updates_if node) sent

-- At first each speaker is as configured, and nothing was sent.
pub record IsFirst (configs : List Config) (w : World) : Type 0 where
  pub size : length w.speakers ≡ length configs
  pub new : (node : ℕ) (c : Config) → slice_get configs node ≡ Some c → IsNew c (speaker_at w node)
  pub sent : w.sent ≡ []

-- ---- next hops

-- The node that owns the address of the neighbour of the node's selected route to the prefix, if there is one.
abbrev pub next_hop_in : List Config → World → PrefixValue → ℕ → Option ℕ
next_hop_in configs w prefix node = option_and_then (λ (c : Selected). owner_of configs c.peer.addr) ((speaker_at w node).selected_at prefix)

-- The router-id of the node's selected route to the prefix, if there is one.
abbrev pub router_in : World → PrefixValue → ℕ → Option (List ℕ)
router_in w prefix node = option_map (λ (c : Selected). c.router) ((speaker_at w node).selected_at prefix)

-- The node's selected route to the prefix names the router-id, and its next hop is the other node.
abbrev pub Follows : List Config → World → PrefixValue → List ℕ → ℕ → ℕ → Type 0
Follows configs w prefix router node next = (router_in w prefix node ≡ Some router) × (next_hop_in configs w prefix node ≡ Some next)

-- From the node each next hop is the next node of the list, and the last one's is the end.
abbrev pub FollowsThrough : (ℕ → ℕ → Type 0) → ℕ → List ℕ → ℕ → Type 0
FollowsThrough follows node [] end = follows node end
FollowsThrough follows node (next ∷ rest) end = follows node next × FollowsThrough follows next rest end

-- A nonempty list of nodes in which each one's next hop is the next, and the last one's the first (RFC 8966, section 2.3).
abbrev pub IsLoop : (ℕ → ℕ → Type 0) → List ℕ → Type 0
IsLoop follows [] = ⊥
IsLoop follows (first ∷ rest) = FollowsThrough follows first rest first

-- No list of nodes is a loop whose selected routes for the prefix all name the router-id.
abbrev pub NoLoopNaming : List Config → World → PrefixValue → List ℕ → Type 0
NoLoopNaming configs w prefix router = (nodes : List ℕ) → ¬ IsLoop (Follows configs w prefix router) nodes

-- No list of nodes is a loop of selected next hops for the prefix.
abbrev pub NoLoop : List Config → World → PrefixValue → Type 0
NoLoop configs w prefix = (nodes : List ℕ) → ¬ IsLoop (λ node next. next_hop_in configs w prefix node ≡ Some next) nodes
