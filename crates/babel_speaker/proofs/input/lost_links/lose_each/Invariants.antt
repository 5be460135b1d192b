-- What is lost from here on leaves what all leave.
use Rattle.std.proofs.Common.{◌≡◌, drop}
use Rattle.std.specs.Prelude.{IsTrue, IsFalse}
use Rattle.babel_state.specs.CurrentSelections.{AreCurrent}
use Rattle.babel_state.specs.KeptRoutes.{KeepsRoutes}
use Rattle.babel_state.specs.LostLinks.{each_lost}
use Rattle.babel_speaker.proofs.input.lost_links.lose_each.Given as goal

abbrev pub invariant-loop-peer : goal.invariant-loop-peer
invariant-loop-peer l = record {
  done : each_lost l.now (drop l.peer-index l.peers) l.core ≡ each_lost l.now l.peers l.fn.core;
  current : IsTrue l.hints.settled → AreCurrent l.core;
  kept : IsFalse l.hints.changed → KeepsRoutes l.fn.core l.core;
}
