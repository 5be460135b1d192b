-- The neighbours before `kept` stay, those from `place` on are still to tick, and those gone so far are in `gone`. None is gone unless several costs may have changed.
-- Unless several costs may have changed, those before `place` stay, each with its cost but for the
-- one whose cost changed. The changes are those of the neighbours before `place`.
use Rattle.std.proofs.Common.{◌≡◌, ◌≢◌, ◌≤◌, ◌++◌, [], take, drop, All}
use Rattle.std.specs.Vec.{vec_len, vec_capacity}
use Rattle.arrayvec.specs.ArrayVec.{array_vec_len}
use Rattle.babel_value.specs.declared.keys.Peer.{Peer}
use Rattle.babel_link.specs.declared.changes.CostChanges.TheVariants.{Nothing, One, Several}
use Rattle.babel_link.specs.Neighbours.{tick_of, gone_of, cost_changes_of, AreQuietUntil}
use Rattle.babel_link.proofs.CostLemmas.{Keeps, KeepsOther}
use Rattle.babel_link.proofs.neighbours.tick_links.Given as goal

abbrev pub invariant-loop-place : goal.invariant-loop-place
invariant-loop-place l = record {
  stays : take l.kept l.links.items ++ tick_of l.now (drop l.place l.links.items) ≡ tick_of l.now l.fn.links.items;
  goes : l.gone.items ++ gone_of l.now (drop l.place l.links.items) ≡ gone_of l.now l.fn.links.items;
  rest : drop l.place l.links.items ≡ drop l.place l.fn.links.items;
  nothing : l.changes ≡ Nothing → All (Keeps l.now) (take l.place l.fn.links.items);
  one : (peer : Peer) → l.changes ≡ One peer → All (KeepsOther l.now peer) (take l.place l.fn.links.items);
  none : l.changes ≢ Several → l.gone.items ≡ [];
  exact : l.changes ≡ cost_changes_of l.now (take l.place l.fn.links.items);
  late : l.kept ≤ l.place;
  same_len : vec_len l.links ≡ vec_len l.fn.links;
  few : array_vec_len l.gone ≤ l.place;
  capacity : vec_capacity l.links ≡ vec_capacity l.fn.links;
  quiet : AreQuietUntil l.due (take l.kept l.links.items);
}
