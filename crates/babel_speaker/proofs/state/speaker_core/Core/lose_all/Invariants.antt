-- What is removed from here on leaves what all leave, and the costs stay.
use Rattle.std.proofs.Common.{◌≡◌, ◌≤◌, true, length}
use Rattle.babel_value.specs.declared.keys.Peer.{Peer}
use Rattle.babel_value.specs.Metrics.{infinity}
use Rattle.babel_state.specs.Reselection.{reselect_each}
use Rattle.babel_state.specs.State.{cost_at}
use Rattle.babel_speaker.specs.Losses.{prefixes_lost}
use Rattle.babel_speaker.proofs.state.speaker_core.Core.lose_all.Given as goal

abbrev pub invariant-loop-selected : goal.invariant-loop-selected
invariant-loop-selected l = record {
  done : reselect_each l.now (prefixes_lost (λ route. true) l.self.routes.selections) l.self ≡ reselect_each l.now (prefixes_lost (λ route. true) l.fn.self.routes.selections) l.fn.self;
  costs : (peer : Peer) → infinity ≤ cost_at l.self peer;
}

abbrev pub decreases-loop-selected : goal.decreases-loop-selected
decreases-loop-selected l = length l.self.routes.selections
