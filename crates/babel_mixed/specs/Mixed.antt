-- What is promised of a network of ours among routers of others, and what is proved of it (profile).
use Rattle.std.specs.Prelude.{◌≡◌, ◌<◌, ℕ, List, All, None}
use Rattle.babel_value.specs.Prefixes.{PrefixValue}
use Rattle.babel_value.specs.Seqnos.{seqno_modulus}
use Rattle.babel_packet.specs.Encodable.{AreOctets, IsAddr}
use Rattle.babel_packet.specs.Meaning.{meaning}
use Rattle.babel_state.specs.declared.configs.Config.{Config}
use Rattle.babel_machine.specs.declared.events.Event.{Event}
use Rattle.babel_machine.specs.Acceptance.{net_fault}
use Rattle.babel_machine.specs.ForeignWorlds.{ForeignWorld, ForeignEvent, HearEvent, HappenAllAmong, last_foreign_world, IsFirstAmong, AreInHalf, NamesNoNode, NoForwardingLoop}
use Rattle.babel_machine.specs.Worlds.{NoLoopNaming}
use Rattle.babel_net.specs.EventRefusals.{step_fault}
use Rattle.babel_mixed.specs.MixedNetworks.{MixedState, mixed_world, first_mixed, MakesHear}
use Rattle.babel_mixed.specs.Updates.{HaveWords}
use Rattle.babel_net.specs.Invariants.{IsRunning}
use Rattle.babel_net.specs.Networks.{NetworkState, world_of, updates_read}
use Rattle.babel_net.specs.Steps.{Makes}

-- ---- the promises

-- For each prefix and each router-id, of ours or not, whose seqnos kept to one half of the circle: our nodes make no loop of the
-- neighbours of selected routes that name the router-id.
abbrev pub HasNoLoopOfOurs : MixedState → Type 0
HasNoLoopOfOurs n =
    (prefix : PrefixValue) (router : List ℕ) (start : ℕ) →
    AreInHalf prefix router start (mixed_world n) → NoLoopNaming n.ours.configs (world_of n.ours) prefix router

-- Nor of their next hops, which traffic follows, if no update that was heard for the source has an address of ours as its next hop.
abbrev pub HasNoForwardingLoopOfOurs : MixedState → Type 0
HasNoForwardingLoopOfOurs n =
    (prefix : PrefixValue) (router : List ℕ) (start : ℕ) →
    AreInHalf prefix router start (mixed_world n) → NamesNoNode n.ours.configs prefix router (mixed_world n) →
    NoForwardingLoop n.ours.configs (world_of n.ours) prefix router

-- ---- what holds of every such network

-- Some list of events leads to it, among them what was heard.
pub record IsReached (configs : List Config) (w : ForeignWorld) : Type 0 where
  pub first : ForeignWorld
  pub events : List ForeignEvent
  pub worlds : List ForeignWorld
  pub is_first : IsFirstAmong configs first
  pub happened : HappenAllAmong configs events first worlds
  pub last : last_foreign_world first worlds ≡ w

pub record IsMixed (n : MixedState) : Type 0 where
  pub running : IsRunning n.ours
  pub reached : IsReached n.ours.configs (mixed_world n)

-- The octets and the source address of a datagram that is heard are whole, and the seqnos of its updates have 16 bits.
pub record IsWhole (event : HearEvent) : Type 0 where
  pub octets : AreOctets event.octets
  pub source : IsAddr event.source
  pub seqnos : HaveWords (updates_read (meaning event.octets event.source))

-- ---- the laws

-- Configurations without a fault make such a network, in which nothing was heard.
abbrev pub FirstMixedAreSound : Type 0
FirstMixedAreSound =
    (configs : List Config) → net_fault configs ≡ None → All (λ (c : Config). c.seqno < seqno_modulus) configs → IsMixed (first_mixed configs)

-- An event of ours that makes its step keeps what holds of it.
abbrev pub EventsKeepMixed : Type 0
EventsKeepMixed =
    (event : Event) (old : MixedState) (new : NetworkState) →
    IsMixed old → Makes event old.ours new → step_fault event old.ours ≡ None → IsMixed (record old { ours = new })

-- And so does a datagram that is heard.
abbrev pub HearingKeepsMixed : Type 0
HearingKeepsMixed = (event : HearEvent) (old new : MixedState) → IsWhole event → IsMixed old → MakesHear event old new → IsMixed new

-- So our nodes make no loop.
abbrev pub MixedHasNoLoop : Type 0
MixedHasNoLoop = (n : MixedState) → IsMixed n → HasNoLoopOfOurs n × HasNoForwardingLoopOfOurs n
