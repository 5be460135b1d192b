-- What every step keeps, and from which it follows that there is no cycle (profile).
use Rattle.std.specs.Prelude.{ℕ, ◌<◌, ◌≤◌, length}
use Rattle.babel_machine.specs.declared.machine.pair.Pair.{Pair}
use Rattle.babel_machine.specs.declared.machine.pick.Pick.{Pick}
use Rattle.babel_machine.specs.Machine.{SourceState, HasSent, HasPicked, IsBetterPair, beginning}

-- What holds of a source after any steps.
pub record IsSound (state : SourceState) : Type 0 where
  -- the owner is a node
  pub owner_in_range : state.owner < length state.nodes
  -- nothing was sent with a count that the source hasn't reached
  pub counted : (node : ℕ) (pair : Pair) → HasSent state node pair → pair.raises ≤ state.raises
  -- whatever was sent with a count, the owner had sent that count under metric 0
  pub begun : (node : ℕ) (pair : Pair) → HasSent state node pair → HasSent state state.owner (beginning pair.raises)
  -- what a node picked was sent by the node that the pick is from
  pub was_sent : (node : ℕ) (pick : Pick) → HasPicked state node pick → HasSent state pick.from pick.pair
  -- a pick is better than everything that its holder ever sent
  pub is_better : (node : ℕ) (pick : Pick) (own : Pair) →
      HasPicked state node pick → HasSent state node own → IsBetterPair pick.pair own
