-- The steps and restarts of a speaker at a node of a network (profile).
use Rattle.std.specs.Prelude.{◌≡◌, List, Contains, ℕ, Some, None, slice_get, slice_set}
use Rattle.babel_state.specs.declared.configs.Config.{Config}
use Rattle.babel_state.specs.Addresses.{transport_at}
use Rattle.babel_state.specs.Calls.{first_state}
use Rattle.babel_state.specs.State.{State}
use Rattle.babel_wire.specs.Calls.{Receipt, Nothing, Failed, Datagram, Sending}
use Rattle.babel_wire.specs.Turns.{Turn}
use Rattle.babel_wire.specs.Intakes.{DurableStep, taken_by}
use Rattle.babel_wire.specs.Lives.{Stage, taken}
use Rattle.babel_machine.specs.declared.events.Event.{Event}
use Rattle.babel_machine.specs.declared.events.Event.TheVariants as events
use Rattle.babel_net.specs.EventRefusals.{step_fault}
use Rattle.babel_net.specs.Invariants.{IsNetwork}
use Rattle.babel_net.specs.Networks.{NetworkState, SentOctets}
use Rattle.babel_net.specs.Promises.{RanBy, HasNoLoop, HasNoLoopWithOneOrigin}
use Rattle.babel_net.specs.Steps.{Makes}

-- What came over the wire is a datagram that a node of the network sent, with its source address.
abbrev pub IsFrom : List SentOctets → Receipt → Type 0
IsFrom sent (Datagram iface source octets) = (d : SentOctets) × Contains sent d × (d.source ≡ source) × (d.octets ≡ octets)
IsFrom sent Nothing = Unit {0}
IsFrom sent Failed = Unit {0}

-- So it was each time that something came.
abbrev pub AreReceiptsFrom : List SentOctets → List Receipt → Type 0
AreReceiptsFrom sent receipts = (r : Receipt) → Contains receipts r → IsFrom sent r

-- So it was in each of the turns.
abbrev pub AreFrom : List SentOctets → List Turn → Type 0
AreFrom sent turns = (t : Turn) → Contains turns t → IsFrom sent t.receipt

-- The speaker is at the node, which has this configuration. It sends from the addresses that are configured.
pub record IsAt (n : NetworkState) (node : ℕ) (config : Config) (s : State) : Type 0 where
  pub configured : slice_get n.configs node ≡ Some config
  pub speaker : slice_get n.speakers node ≡ Some s
  pub transports : (iface : ℕ) → transport_at iface s ≡ transport_at iface (first_state config)

-- The network recorded the datagram: of this node, from the configured address of its interface, with its octets.
pub record IsRecorded (node : ℕ) (config : Config) (sent : List SentOctets) (x : Sending) : Type 0 where
  pub datagram : SentOctets
  pub is_there : Contains sent datagram
  pub sender : datagram.node ≡ node
  pub source : transport_at x.target.iface (first_state config) ≡ Some datagram.source
  pub octets : datagram.octets ≡ x.octets

-- Events lead from one network to another, in which the speaker of the node is this one and all others are unchanged. What was recorded stays.
pub record LeadsTo (node : ℕ) (config : Config) (s : State) (old new : NetworkState) : Type 0 where
  pub events : List Event
  pub ran : RanBy events old new
  pub is_at : IsAt new node config s
  pub configs : new.configs ≡ old.configs
  pub speakers : new.speakers ≡ slice_set old.speakers node s
  pub keeps : (d : SentOctets) → Contains old.sent d → Contains new.sent d

-- The steps are events, and the network records every datagram that is taken in them.
pub record AreStepEvents (node : ℕ) (config : Config) (steps : List DurableStep) (s : State) (old : NetworkState) : Type 0 where
  pub new : NetworkState
  pub leads : LeadsTo node config s old new
  pub records : (x : Sending) → Contains (taken_by steps) x → IsRecorded node config new.sent x

-- So are the stages of a life.
pub record AreEvents (node : ℕ) (config : Config) (stages : List Stage) (s : State) (old : NetworkState) : Type 0 where
  pub new : NetworkState
  pub leads : LeadsTo node config s old new
  pub records : (x : Sending) → Contains (taken stages) x → IsRecorded node config new.sent x

-- The node is killed and started again as this speaker. The network comes to `before` by events that record every datagram that was sent, and then the
-- node restarts. No loop is in it then.
pub record IsRestart (node : ℕ) (config : Config) (now : ℕ) (sent : List Sending) (s : State) (old : NetworkState) : Type 0 where
  pub state : State
  pub before : NetworkState
  pub leads : LeadsTo node config state old before
  pub records : (x : Sending) → Contains sent x → IsRecorded node config before.sent x
  pub after : NetworkState
  pub restart : Makes (events.Restart node now) before after
  pub accepted : step_fault (events.Restart node now) before ≡ None
  pub is_at : IsAt after node config s
  pub network : IsNetwork after
  pub no_loop : HasNoLoop after
  pub one_origin : HasNoLoopWithOneOrigin after
