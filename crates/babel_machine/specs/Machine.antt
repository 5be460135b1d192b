-- The message machine: what it remembers of each source, and its four steps. It is what remains of the feasibility
-- condition (RFC 8966 sections 2.4 and 2.5) if only loop freedom is asked for (profile). It has no time, no link and
-- no table. Its numbers have no bound, and it remembers everything that was ever sent.
use Rattle.std.specs.Prelude.{◌≡◌, ℕ, ◌+◌, ◌-◌, ◌<◌, ◌≤◌, ◌⊎◌, ◌↔◌, List, [], ◌∷◌, Option, Some, None, length, slice_index_or, slice_get, slice_set, replicate, map, Contains, All}
use Rattle.babel_machine.specs.declared.machine.pair.Pair.{Pair}
use Rattle.babel_machine.specs.declared.machine.pick.Pick.{Pick}
use Rattle.babel_machine.specs.declared.machine.step.Step.{Step}
use Rattle.babel_machine.specs.declared.machine.step.Step.TheVariants.{Raise, Announce, Choose, Drop}
use Rattle.babel_value.specs.Distances.{IsBetter}
use Rattle.babel_value.specs.Metrics.{infinity}

-- What one node has done for the source: the pairs that it ever sent, and the announcement that it uses now, if any.
-- Only what is in the list counts: neither its order nor its repeats mean anything.
pub record NodeState : Type 0 where
  pub sent : List Pair
  pub pick : Option Pick

-- One source: the node that owns it, how often that one has raised it, and what each node has done for it.
pub record SourceState : Type 0 where
  pub owner : ℕ
  pub raises : ℕ
  pub nodes : List NodeState

-- The greatest metric that isn't infinite (RFC 8966, section 3.5.2).
abbrev pub greatest_metric : ℕ
greatest_metric = infinity - 1

-- A node that has done nothing.
abbrev pub quiet : NodeState
quiet = record { sent = []; pick = None }

-- What a node has done. A number that is no node's has done nothing.
abbrev pub node_at : SourceState → ℕ → NodeState
node_at state node = slice_index_or state.nodes node quiet

-- The node has sent the pair.
abbrev pub HasSent : SourceState → ℕ → Pair → Type 0
HasSent state node pair = Contains (node_at state node).sent pair

-- The node's pick is this one.
abbrev pub HasPicked : SourceState → ℕ → Pick → Type 0
HasPicked state node pick = (node_at state node).pick ≡ Some pick

-- At first nothing is sent, no node has a pick and the count is 0.
abbrev pub first_state : ℕ → ℕ → SourceState
first_state nodes owner = record { owner = owner; raises = 0; nodes = replicate nodes quiet }

-- One announcement is better than another.
abbrev pub IsBetterPair : Pair → Pair → Type 0
IsBetterPair p q = IsBetter p.raises p.metric q.raises q.metric

-- What the owner sends at this count.
abbrev pub beginning : ℕ → Pair
beginning raises = record { raises = raises; metric = 0 }

-- The state in which a node is like this and the others are unchanged.
abbrev pub with_node : SourceState → ℕ → NodeState → SourceState
with_node state node now = record state { nodes = slice_set state.nodes node now }

-- The state in which these are the pairs that a node ever sent.
abbrev pub with_sent : SourceState → ℕ → List Pair → SourceState
with_sent state node sent = with_node state node (record (node_at state node) { sent = sent })

-- The pairs of the new list are those of the old one, and this one.
abbrev pub Adds : Pair → List Pair → List Pair → Type 0
Adds pair old new = (each : Pair) → (Contains new each ↔ (Contains old each ⊎ (pair ≡ each)))

-- The state after a node has picked, or dropped its pick.
abbrev pub with_pick : SourceState → ℕ → Option Pick → SourceState
with_pick state node pick = with_node state node (record (node_at state node) { pick = pick })

-- A node passes on its pick: the pick's count, under a greater metric that isn't infinite (RFC 8966 section 4.6.9).
pub record PassesOn (state : SourceState) (node : ℕ) (pair : Pair) : Type 0 where
  pub pick : Pick
  pub picked : HasPicked state node pick
  pub same_count : pair.raises ≡ pick.pair.raises
  pub greater : pick.pair.metric < pair.metric
  pub finite : pair.metric ≤ greatest_metric

-- What a node may send: the owner its count under metric 0, and a node with a pick what it passes on.
abbrev pub MaySend : SourceState → ℕ → Pair → Type 0
MaySend state node pair =
    ((node ≡ state.owner) × (pair ≡ beginning state.raises)) ⊎ PassesOn state node pair

-- What a node may pick: a pair that the other one sent, and that is better than everything it ever sent itself
-- (the feasibility condition, RFC 8966 section 3.5.1).
pub record MayPick (state : SourceState) (node from : ℕ) (pair : Pair) : Type 0 where
  pub sent : HasSent state from pair
  pub better : All (λ own. IsBetterPair pair own) (node_at state node).sent

-- A node sends a pair of this metric that it may send, and has sent it from then on.
pub record Announces (old : SourceState) (node metric : ℕ) (new : SourceState) : Type 0 where
  pub inside : node < length old.nodes
  pub pair : Pair
  pub under : pair.metric ≡ metric
  pub may : MaySend old node pair
  pub sent : List Pair
  pub adds : Adds pair (node_at old node).sent sent
  pub next : new ≡ with_sent old node sent

-- A step leads from a state to another.
abbrev pub Steps : SourceState → Step → SourceState → Type 0
-- raise: the source's count grows by 1
Steps old Raise new = new ≡ record old { raises = old.raises + 1 }
-- announce: a node sends a pair
Steps old (Announce node metric) new = Announces old node metric new
-- pick: a node picks from another one a pair that it may pick
Steps old (Choose node from pair) new =
    (node < length old.nodes) × MayPick old node from pair × (new ≡ with_pick old node (Some (record { from = from; pair = pair })))
-- drop: a pick becomes none
Steps old (Drop node) new = (node < length old.nodes) × (new ≡ with_pick old node None)

-- Steps of one source, one after the other.
abbrev pub Run : SourceState → List Step → SourceState → Type 0
Run old [] new = new ≡ old
Run old (step ∷ steps) new = (mid : SourceState) × Steps old step mid × Run mid steps new

-- A step of the machine is a step of one source, and leaves the others as they are.
abbrev pub StepsAt : List SourceState → ℕ → Step → List SourceState → Type 0
StepsAt old source step new =
    (from to : SourceState) × (slice_get old source ≡ Some from) × Steps from step to × (new ≡ slice_set old source to)

-- The machine at first: for each owner a source.
abbrev pub first_states : ℕ → List ℕ → List SourceState
first_states nodes owners = map (first_state nodes) owners

-- Steps of the machine, one after the other, each with its source.
abbrev pub MachineRun : List SourceState → List (ℕ × Step) → List SourceState → Type 0
MachineRun old [] new = new ≡ old
MachineRun old (step ∷ steps) new =
    (mid : List SourceState) × StepsAt old step.0 step.1 mid × MachineRun mid steps new
