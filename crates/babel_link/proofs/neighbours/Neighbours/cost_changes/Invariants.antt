-- Unless several costs may change, the links before the index stay, each with its cost but for the
-- one whose cost changes. The changes are those of these links.
use Rattle.std.proofs.Common.{◌≡◌, take, All}
use Rattle.babel_value.specs.declared.keys.Peer.{Peer}
use Rattle.babel_link.specs.declared.changes.CostChanges.TheVariants.{Nothing, One}
use Rattle.babel_link.specs.Neighbours.{cost_changes_of}
use Rattle.babel_link.proofs.CostLemmas.{Keeps, KeepsOther}
use Rattle.babel_link.proofs.neighbours.Neighbours.cost_changes.Given as goal

abbrev pub invariant-loop-place : goal.invariant-loop-place
invariant-loop-place l = record {
  nothing : l.changes ≡ Nothing → All (Keeps l.now) (take l.place l.self);
  one : (peer : Peer) → l.changes ≡ One peer → All (KeepsOther l.now peer) (take l.place l.self);
  exact : l.changes ≡ cost_changes_of l.now (take l.place l.self);
}
