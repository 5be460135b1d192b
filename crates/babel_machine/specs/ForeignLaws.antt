-- What is proved of a network of ours among routers of others, whatever these send (profile).
use Rattle.std.specs.Prelude.{◌≡◌, ◌⊎◌, ◌<◌, ℕ, true, List, All, None, Some, Contains, length}
use Rattle.babel_value.specs.declared.keys.Peer.{Peer}
use Rattle.babel_value.specs.declared.distances.Distance.{Distance}
use Rattle.babel_value.specs.Distances.{is_better}
use Rattle.babel_value.specs.Prefixes.{PrefixValue}
use Rattle.babel_value.specs.Seqnos.{seqno_modulus}
use Rattle.babel_state.specs.declared.configs.Config.{Config}
use Rattle.babel_state.specs.Seen.{UpdateValue, HeardValue}
use Rattle.babel_machine.specs.Owners.{owner_of, AreApart}
use Rattle.babel_machine.specs.Worlds.{World, speaker_at, NoLoopNaming}
use Rattle.babel_machine.specs.Views.{NetSource, max_raises, sent_by}
use Rattle.babel_machine.specs.Invariants.{WasSent, HoldsWith, Bounds, update_heard}
use Rattle.babel_machine.specs.ForeignMachine.{IsSoundAmong}
use Rattle.babel_machine.specs.ForeignWorlds.{ForeignWorld, ForeignEvent, HappensAmong, HappenAllAmong, last_foreign_world, IsFirstAmong, AreInHalf, NamesNoNode, source_among, view_among, IsRunAmong, NoForwardingLoop}

-- ---- what every event keeps

-- The route was heard from an address that no node has.
pub record WasForeign (configs : List Config) (heard : List UpdateValue) (prefix : PrefixValue) (peer : Peer) (h : HeardValue) : Type 0 where
  pub neighbour : owner_of configs peer.addr ≡ None
  pub recorded : Contains heard (update_heard prefix h)

-- A node of ours sent the route, or a router of others.
abbrev pub CameFrom : List Config → ForeignWorld → PrefixValue → Peer → HeardValue → Type 0
CameFrom configs w prefix peer h = WasSent configs w.ours.sent prefix peer h ⊎ WasForeign configs w.heard prefix peer h

-- An update that a node of ours sent has an own address as its next hop.
pub record IsNamedByUs (configs : List Config) (node : ℕ) (u : UpdateValue) : Type 0 where
  pub next_hop : owner_of configs u.next_hop ≡ Some node
  pub seqno : u.distance.seqno < seqno_modulus

-- A source entry is at least as good as every pair that its speaker ever sent, and the view of the source is sound.
pub record HoldsForAmong (configs : List Config) (s : NetSource) (w : World) : Type 0 where
  pub bounds : (node : ℕ) → Bounds s max_raises ((speaker_at w node).source_at s.prefix s.router) (sent_by s w.sent node)
  pub sound : IsSoundAmong (length configs) (view_among configs s w)

pub record IsInvariantAmong (configs : List Config) (w : ForeignWorld) : Type 0 where
  pub holds : HoldsWith (CameFrom configs w) (IsNamedByUs configs) configs w.ours
  pub seqnos : All (λ (u : UpdateValue). u.distance.seqno < seqno_modulus) w.heard
  pub in_half : (prefix : PrefixValue) (router : List ℕ) (start : ℕ) → AreInHalf prefix router start w →
      HoldsForAmong configs (source_among configs prefix router start) w.ours

-- ---- the laws

-- Whatever is heard and restarted, every list of events keeps the invariant.
abbrev pub NetworksAmongAreSound : Type 0
NetworksAmongAreSound =
    (configs : List Config) (first : ForeignWorld) (events : List ForeignEvent) (worlds : List ForeignWorld) →
    AreApart configs → IsFirstAmong configs first → HappenAllAmong configs events first worlds →
    IsInvariantAmong configs (last_foreign_world first worlds)

-- Every event is a list of steps of the machine for each source whose seqnos kept to one half of the circle.
abbrev pub HappeningsAreRuns : Type 0
HappeningsAreRuns =
    (configs : List Config) (event : ForeignEvent) (old new : ForeignWorld) (prefix : PrefixValue) (router : List ℕ) (start : ℕ) →
    AreApart configs → IsInvariantAmong configs old → HappensAmong configs event old new → AreInHalf prefix router start new →
    IsRunAmong configs (source_among configs prefix router start) old.ours new.ours

-- After any list of events, for each prefix and each router-id, of ours or not, whose seqnos kept to one half of the circle:
-- our nodes make no loop of the neighbours of selected routes that name the router-id.
abbrev pub NoLoopOfNeighbours : Type 0
NoLoopOfNeighbours =
    (configs : List Config) (first : ForeignWorld) (events : List ForeignEvent) (worlds : List ForeignWorld) (prefix : PrefixValue) (router : List ℕ) (start : ℕ) →
    AreApart configs → IsFirstAmong configs first → HappenAllAmong configs events first worlds →
    AreInHalf prefix router start (last_foreign_world first worlds) →
    NoLoopNaming configs (last_foreign_world first worlds).ours prefix router

-- Nor of the next hops, if none of ours was ever heard as the next hop of an update for the source.
abbrev pub NoLoopOfNextHops : Type 0
NoLoopOfNextHops =
    (configs : List Config) (first : ForeignWorld) (events : List ForeignEvent) (worlds : List ForeignWorld) (prefix : PrefixValue) (router : List ℕ) (start : ℕ) →
    AreApart configs → IsFirstAmong configs first → HappenAllAmong configs events first worlds →
    AreInHalf prefix router start (last_foreign_world first worlds) → NamesNoNode configs prefix router (last_foreign_world first worlds) →
    NoForwardingLoop configs (last_foreign_world first worlds).ours prefix router

-- Three distances around the circle, each better than the next and the last one better than the first.
abbrev pub BetterAround : Distance → Distance → Distance → Type 0
BetterAround a b c = (is_better a b ≡ true) × (is_better b c ≡ true) × (is_better c a ≡ true)

-- The order of seqnos isn't one of whole numbers once they leave one half of the circle: of 0, 20,000 and 40,000 each
-- comes after the one before, and 0 after 40,000, whatever the metrics are.
abbrev pub SeqnosGoAround : Type 0
SeqnosGoAround =
    (l m n : ℕ) → BetterAround (record { seqno = 40000; metric = l }) (record { seqno = 20000; metric = m }) (record { seqno = 0; metric = n })
