-- What is handled from here on leaves what all leave, with all notes, for which there is room.
use Rattle.std.proofs.Common.{◌≡◌, ◌+◌, ◌-◌, ◌≤◌, ◌++◌, length, drop}
use Rattle.std.specs.Prelude.{true, IsTrue, IsFalse}
use Rattle.babel_state.specs.CurrentSelections.{AreCurrent}
use Rattle.babel_state.specs.KeptRoutes.{KeepsRoutes}
use Rattle.babel_state.specs.State.{is_neighbour}
use Rattle.std.specs.Vec.{vec_len, vec_capacity}
use Rattle.babel_state.specs.Messages.{after_places, notes_of}
use Rattle.babel_speaker.proofs.input.receiving.handle_places.Given as goal

abbrev pub invariant-loop-place : goal.invariant-loop-place
invariant-loop-place l = record {
  done : after_places l.arrival.time l.arrival.peer (drop l.place-index l.placed) l.core ≡ after_places l.arrival.time l.arrival.peer l.placed l.fn.core;
  noted : l.notes.items ++ notes_of l.arrival.time l.arrival.peer (drop l.place-index l.placed) l.core ≡ l.fn.notes.items ++ notes_of l.arrival.time l.arrival.peer l.placed l.fn.core;
  current : IsTrue l.hints.settled → AreCurrent l.core;
  kept : IsFalse l.hints.changed → KeepsRoutes l.fn.core l.core;
  known : IsTrue l.is_known → is_neighbour l.arrival.peer l.core ≡ true;
  room : vec_len l.notes + (length l.placed - l.place-index) ≤ vec_capacity l.notes;
}
