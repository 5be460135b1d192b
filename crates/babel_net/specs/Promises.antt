-- What is promised of every network (profile): its selected routes form no loop.
use Rattle.std.specs.Prelude.{◌≡◌, ◌≤◌, ℕ, List, [], ◌∷◌, map, All, Option, Some, None, slice_get, take}
use Rattle.babel_value.specs.Prefixes.{PrefixValue}
use Rattle.babel_state.specs.declared.configs.Config.{Config}
use Rattle.babel_state.specs.declared.selected.Selected.{Selected}
use Rattle.babel_state.specs.Calls.{first_state}
use Rattle.babel_machine.specs.declared.events.Event.{Event}
use Rattle.babel_machine.specs.declared.errors.StepFault.{StepFault}
use Rattle.babel_machine.specs.Cycle.{NoCycle, next_hop_of}
use Rattle.babel_machine.specs.Owners.{owner_of}
use Rattle.babel_machine.specs.Worlds.{NoLoopNaming, NoLoop, speaker_at, router_in}
use Rattle.babel_machine.specs.Views.{max_raises, NetSource, IsSource, IsCounted, IsRun, view}
use Rattle.babel_machine.specs.NetworkLaws.{ListsAlone, RunTogetherThrough, views}
use Rattle.babel_net.specs.Networks.{NetworkState, world_of}
use Rattle.babel_net.specs.Steps.{Makes}
use Rattle.babel_net.specs.EventRefusals.{step_fault, IsStepFault}

-- A new speaker for each configuration, in order, and nothing sent.
abbrev pub first_network : List Config → NetworkState
first_network configs = record { configs = configs; speakers = map first_state configs; sent = [] }

-- For each prefix and each router-id of a configuration that lists it, if that router-id made at most 32,767 raises: no loop
-- is made of selected routes for the prefix that all name the router-id.
abbrev pub HasNoLoop : NetworkState → Type 0
HasNoLoop n =
    (s : NetSource) → IsSource n.configs s → IsCounted s (world_of n) → NoLoopNaming n.configs (world_of n) s.prefix s.router

-- If one configuration alone lists the prefix and its router-id made at most 32,767 raises, the selected next hops for the
-- prefix contain no loop.
abbrev pub HasNoLoopWithOneOrigin : NetworkState → Type 0
HasNoLoopWithOneOrigin n =
    (prefix : PrefixValue) (origin : ℕ) →
    ListsAlone n.configs origin prefix → (speaker_at (world_of n) origin).raises ≤ max_raises → NoLoop n.configs (world_of n) prefix

-- For each such prefix and router-id, a list of machine steps leads from one view to the other, which has no cycle.
abbrev pub Runs : NetworkState → NetworkState → Type 0
Runs old new = (s : NetSource) → IsSource old.configs s → IsCounted s (world_of new) → IsRun old.configs s (world_of old) (world_of new)

-- ---- next hops

-- The next hop of a selected route is the node of the pick of its source, and the node that has the next hop's address.
pub record IsNextHop (n : NetworkState) (prefix : PrefixValue) (node : ℕ) (next : Option ℕ) : Type 0 where
  pub pick : (s : NetSource) → s.prefix ≡ prefix → router_in (world_of n) prefix node ≡ Some s.router →
      next ≡ next_hop_of (view n.configs s (world_of n)) node
  pub address : (route : Selected) → (speaker_at (world_of n) node).selected_at prefix ≡ Some route → next ≡ owner_of n.configs route.next_hop

-- ---- lists of events

-- Events make their steps one after the other, and these are the networks after each of them.
abbrev pub MakeAll : List Event → NetworkState → List NetworkState → Type 0
MakeAll [] old [] = Unit {0}
MakeAll [] old (n ∷ ns) = ⊥
MakeAll (event ∷ events) old [] = ⊥
MakeAll (event ∷ events) old (n ∷ ns) = Makes event old n × (step_fault event old ≡ None) × MakeAll events n ns

abbrev pub last_network : NetworkState → List NetworkState → NetworkState
last_network n [] = n
last_network n (next ∷ rest) = last_network next rest

-- The events make their steps from one network to another.
pub record RanBy (events : List Event) (old new : NetworkState) : Type 0 where
  pub networks : List NetworkState
  pub made : MakeAll events old networks
  pub last : last_network old networks ≡ new

-- One run of the machine joins the views after each of the events, for all prefixes and router-ids that are counted at the end.
abbrev pub RunsTogether : NetworkState → List NetworkState → NetworkState → Type 0
RunsTogether old networks new =
    (sources : List NetSource) → All (λ s. IsSource old.configs s × IsCounted s (world_of new)) sources →
    RunTogetherThrough old.configs sources (world_of old) (map world_of networks) × All NoCycle (views old.configs sources (world_of new))

-- The same holds after each of the events, for the prefixes and router-ids that are counted then. So no view of any of the networks has a cycle while its
-- router-id made at most 32,767 raises.
pub record Ran (events : List Event) (old new : NetworkState) : Type 0 where
  pub ran : RanBy events old new
  pub together : RunsTogether old ran.networks new
  pub after_each : (count : ℕ) → RunsTogether old (take count ran.networks) (last_network old (take count ran.networks))

-- The event of this index is the first that is refused.
pub record StopsAt (events : List Event) (index : ℕ) (fault : StepFault) (old new : NetworkState) : Type 0 where
  pub event : Event
  pub is : slice_get events index ≡ Some event
  pub ran : Ran (take index events) old new
  pub refused : IsStepFault (step_fault event new) event new fault
