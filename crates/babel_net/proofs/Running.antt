-- A network of speakers alone runs as one among routers of others.
use Rattle.std.proofs.Common.{ℕ, List}
use Rattle.babel_value.specs.declared.keys.Peer.{Peer}
use Rattle.babel_value.specs.Prefixes.{PrefixValue}
use Rattle.babel_state.specs.declared.configs.Config.{Config}
use Rattle.babel_state.specs.Seen.{UpdateValue, HeardValue}
use Rattle.babel_machine.specs.Invariants.{HoldsWith}
use Rattle.babel_machine.specs.Worlds.{World}
use Rattle.babel_net.specs.Networks.{NetworkState, world_of}
use Rattle.babel_net.specs.Invariants.{IsNetwork, IsRunning, AnyRoute, AnyUpdate}

-- whatever is known of routes and updates
pub holds_any : (is_heard : PrefixValue → Peer → HeardValue → Type 0) (is_known : ℕ → UpdateValue → Type 0) (configs : List Config) (w : World) → HoldsWith is_heard is_known configs w → HoldsWith AnyRoute AnyUpdate configs w
holds_any is_heard is_known configs w holds = record {
  size = holds.size;
  router = holds.router;
  collects = holds.collects;
  transports = holds.transports;
  addresses = holds.addresses;
  seqno = holds.seqno;
  announces = holds.announces;
  heard = λ node prefix peer h is. tt;
  selecting = holds.selecting;
  others = holds.others;
  sources = holds.sources;
  updates = λ node u is. tt;
}

pub running : (n : NetworkState) → IsNetwork n → IsRunning n
running n net = record {
  size = net.size;
  valid = net.valid;
  apart = net.apart;
  well_formed = net.well_formed;
  readable = net.readable;
  holds = holds_any _ _ n.configs (world_of n) net.sound.holds;
}
