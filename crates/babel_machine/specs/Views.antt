-- A network as a state of the message machine (profile).
use Rattle.std.specs.Prelude.{◌≡◌, ◌≤◌, ℕ, true, List, [], ◌∷◌, length, map, filter, slice_get, Option, Some, None, option_map, if◌then◌else◌}
use Rattle.std.specs.List.{range_with_len}
use Rattle.babel_value.specs.Prefixes.{PrefixValue}
use Rattle.babel_value.specs.Seqnos.{lift}
use Rattle.babel_value.specs.declared.distances.Distance.{Distance}
use Rattle.babel_value.specs.Lifts.{greatest_lift}
use Rattle.babel_state.specs.declared.configs.Config.{Config}
use Rattle.babel_state.specs.declared.selected.Selected.{Selected}
use Rattle.babel_state.specs.Sameness.{is_same_router, has_prefix}
use Rattle.babel_state.specs.Seen.{UpdateValue, is_of_source}
use Rattle.babel_machine.specs.declared.machine.pair.Pair.{Pair}
use Rattle.babel_machine.specs.declared.machine.pick.Pick.{Pick}
use Rattle.babel_machine.specs.declared.machine.step.Step.{Step}
use Rattle.babel_machine.specs.Machine.{SourceState, NodeState, Run}
use Rattle.babel_machine.specs.Cycle.{NoCycle}
use Rattle.babel_machine.specs.Owners.{owner_of}
use Rattle.babel_machine.specs.Worlds.{World, SentDatagram, speaker_at, updates_of}

-- A source of the machine: a prefix with the router-id of one node, which owns it, and that node's first seqno.
pub record NetSource : Type 0 where
  pub prefix : PrefixValue
  pub router : List ℕ
  pub owner : ℕ
  pub start : ℕ

-- The router-id and the first seqno are those of the owner's configuration, which lists the prefix.
pub record IsSource (configs : List Config) (s : NetSource) : Type 0 where
  pub config : Config
  pub is : slice_get configs s.owner ≡ Some config
  pub router : s.router ≡ config.router_id
  pub start : s.start ≡ config.seqno
  pub lists : has_prefix s.prefix config.prefixes.items ≡ true

-- A seqno and a metric, with the seqno as a whole number: how far it is from the source's first one.
abbrev pub lifted : NetSource → Distance → Pair
lifted s distance = record { raises = lift s.start distance.seqno; metric = distance.metric }

-- What the node ever sent for the source.
abbrev pub sent_by : NetSource → List SentDatagram → ℕ → List Pair
sent_by s sent node = map (λ (u : UpdateValue). lifted s u.distance) (filter (is_of_source s.prefix s.router) (updates_of node sent))

-- The pick of a node whose selected route names the source: what it heard, from the node that owns the neighbour's address.
abbrev pub pick_of : List Config → NetSource → Option Selected → Option Pick
pick_of configs s None = None
pick_of configs s (Some c) =
    if is_same_router c.router s.router
    then option_map (λ from. record { from = from; pair = lifted s c.distance }) (owner_of configs c.peer.addr)
    else None

abbrev pub node_view : List Config → NetSource → World → ℕ → NodeState
node_view configs s w node = record { sent = sent_by s w.sent node; pick = pick_of configs s ((speaker_at w node).selected_at s.prefix) }

-- The state of the machine for the source.
abbrev pub view : List Config → NetSource → World → SourceState
view configs s w = record {
  owner = s.owner;
  raises = (speaker_at w s.owner).raises;
  nodes = map (node_view configs s w) (range_with_len 0 (length w.speakers));
}

-- The greatest difference that the circular order of seqnos orders as whole numbers (RFC 8966, section 3.2.1).
abbrev pub max_raises : ℕ
max_raises = greatest_lift

-- The source's router-id made at most so many raises (profile).
abbrev pub IsCounted : NetSource → World → Type 0
IsCounted s w = (speaker_at w s.owner).raises ≤ max_raises

-- A list of machine steps leads from one view to the other, and the latter has no cycle.
pub record IsRun (configs : List Config) (s : NetSource) (old new : World) : Type 0 where
  pub steps : List Step
  pub run : Run (view configs s old) steps (view configs s new)
  pub no_cycle : NoCycle (view configs s new)

-- The same from each world to the next.
abbrev pub RunsThrough : List Config → NetSource → World → List World → Type 0
RunsThrough configs s w [] = Unit {0}
RunsThrough configs s w (next ∷ rest) = IsRun configs s w next × RunsThrough configs s next rest
