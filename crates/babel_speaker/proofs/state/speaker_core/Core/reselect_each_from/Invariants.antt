-- What is selected from here on leaves what all leave.
use Rattle.std.proofs.Common.{◌≡◌, drop}
use Rattle.babel_speaker.specs.LinkChanges.{prefixes_from}
use Rattle.babel_state.specs.Reselection.{reselect_each}
use Rattle.babel_state.specs.State.{cost_at}
use Rattle.babel_speaker.proofs.state.speaker_core.Core.reselect_each_from.Given as goal

abbrev pub invariant-loop-place : goal.invariant-loop-place
invariant-loop-place l = record {
  done : reselect_each l.now (prefixes_from l.peer (drop l.place l.fn.self.routes.entries)) l.self ≡ reselect_each l.now (prefixes_from l.peer l.fn.self.routes.entries) l.fn.self;
  kept : l.self.routes.entries ≡ l.fn.self.routes.entries;
  known : l.known.cost ≡ cost_at l.self l.known.peer;
}
