-- What holds of every network (profile).
use Rattle.std.specs.Prelude.{◌≡◌, ℕ, List, All, None, length, Ok}
use Rattle.babel_value.specs.declared.keys.Peer.{Peer}
use Rattle.babel_value.specs.Prefixes.{PrefixValue}
use Rattle.babel_message.specs.declared.placements.Placed.{Placed}
use Rattle.babel_packet.specs.Meaning.{meaning, messages_of}
use Rattle.babel_state.specs.declared.configs.Config.{Config}
use Rattle.babel_state.specs.Configs.{config_fault}
use Rattle.babel_state.specs.Invariants.{IsWellFormed}
use Rattle.babel_state.specs.Seen.{UpdateValue, HeardValue}
use Rattle.babel_state.specs.SeenLaws.{AreEncodable}
use Rattle.babel_machine.specs.Owners.{AreApart}
use Rattle.babel_machine.specs.Invariants.{IsInvariant, HoldsWith}
use Rattle.babel_net.specs.Networks.{NetworkState, SentOctets, world_of}

-- The octets can be read, and mean messages that a datagram can carry.
pub record IsReadable (d : SentOctets) : Type 0 where
  pub placed : List Placed
  pub read : meaning d.octets d.source ≡ Ok placed
  pub encodable : AreEncodable (messages_of placed)

pub record IsNetwork (n : NetworkState) : Type 0 where
  pub size : length n.speakers ≡ length n.configs
  pub valid : All (λ (c : Config). config_fault c ≡ None) n.configs
  pub apart : AreApart n.configs
  pub well_formed : All IsWellFormed n.speakers
  pub readable : All IsReadable n.sent
  -- what is seen of it keeps the invariant from which loop freedom follows
  pub sound : IsInvariant n.configs (world_of n)

-- ---- without what loop freedom follows from

-- A route may have come from anyone, and nothing is known of an update.
abbrev pub AnyRoute : PrefixValue → Peer → HeardValue → Type 0
AnyRoute prefix peer h = Unit {0}

abbrev pub AnyUpdate : ℕ → UpdateValue → Type 0
AnyUpdate node u = Unit {0}

-- What the steps of its nodes need of a network, also among routers of others.
pub record IsRunning (n : NetworkState) : Type 0 where
  pub size : length n.speakers ≡ length n.configs
  pub valid : All (λ (c : Config). config_fault c ≡ None) n.configs
  pub apart : AreApart n.configs
  pub well_formed : All IsWellFormed n.speakers
  pub readable : All IsReadable n.sent
  pub holds : HoldsWith AnyRoute AnyUpdate n.configs (world_of n)
