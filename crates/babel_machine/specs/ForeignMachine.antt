-- The message machine among routers of others (profile). It remembers nothing of them: a node may pick from outside any pair
-- that is better than everything that it ever sent itself (the feasibility condition, RFC 8966 section 3.5.1).
use Rattle.std.specs.Prelude.{◌≡◌, ◌≢◌, ℕ, ◌<◌, List, [], ◌∷◌, Some, length, All}
use Rattle.babel_machine.specs.declared.machine.pair.Pair.{Pair}
use Rattle.babel_machine.specs.declared.machine.pick.Pick.{Pick}
use Rattle.babel_machine.specs.declared.machine.step.Step.{Step}
use Rattle.babel_machine.specs.declared.machine.step.Step.TheVariants.{Raise, Announce, Choose, Drop}
use Rattle.babel_machine.specs.Machine.{SourceState, HasSent, HasPicked, IsBetterPair, Announces, Steps, node_at, first_state, with_pick}
use Rattle.babel_machine.specs.Cycle.{NoCycle, OwnerHasNoPick}

-- A number that is no node's is that of routers of others, and a source whose owner has such a number is theirs.
--
-- What a node may pick: of another node a pair that it sent, of a router of others any pair. It is better than everything
-- that the node ever sent itself. The owner doesn't pick its own source.
pub record MayPickAmong (state : SourceState) (node from : ℕ) (pair : Pair) : Type 0 where
  pub sent : from < length state.nodes → HasSent state from pair
  pub better : All (λ own. IsBetterPair pair own) (node_at state node).sent
  pub other : node ≢ state.owner

-- A step leads from a state to another.
abbrev pub StepsAmong : SourceState → Step → SourceState → Type 0
-- raise: the owner's count becomes any other one, since others may have begun to count elsewhere
StepsAmong old Raise new = (count : ℕ) × (new ≡ record old { raises = count })
-- announce and drop: as without routers of others
StepsAmong old (Announce node metric) new = Announces old node metric new
StepsAmong old (Drop node) new = Steps old (Drop node) new
-- pick: a node picks a pair that it may pick, from another node or from outside
StepsAmong old (Choose node from pair) new =
    (node < length old.nodes) × MayPickAmong old node from pair × (new ≡ with_pick old node (Some (record { from = from; pair = pair })))

-- Steps of one source, one after the other.
abbrev pub RunAmong : SourceState → List Step → SourceState → Type 0
RunAmong old [] new = new ≡ old
RunAmong old (step ∷ steps) new = (mid : SourceState) × StepsAmong old step mid × RunAmong mid steps new

-- A pick is better than everything that its holder ever sent, and was sent by the node that it is from, if that one is known.
pub record IsRising (is_known : ℕ → Type 0) (state : SourceState) : Type 0 where
  pub was_sent : (node : ℕ) (pick : Pick) → HasPicked state node pick → is_known pick.from → HasSent state pick.from pick.pair
  pub is_better : (node : ℕ) (pick : Pick) (own : Pair) →
      HasPicked state node pick → HasSent state node own → IsBetterPair pick.pair own

-- What every step among routers of others keeps.
pub record IsSoundAmong (nodes : ℕ) (state : SourceState) : Type 0 where
  pub size : length state.nodes ≡ nodes
  pub rising : IsRising (λ node. node < nodes) state
  pub owner : (pick : Pick) → ¬ HasPicked state state.owner pick

-- No list of steps from the first state leads to a cycle of our nodes, nor gives the owner a pick.
abbrev pub NoCycleAmongForeignRouters : Type 0
NoCycleAmongForeignRouters =
    (nodes owner : ℕ) (steps : List Step) (last : SourceState) →
    RunAmong (first_state nodes owner) steps last → NoCycle last × OwnerHasNoPick last
