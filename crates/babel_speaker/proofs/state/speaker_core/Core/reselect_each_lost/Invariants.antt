-- What is selected from here on leaves what all leave, and as long as none was found nothing changed.
use Rattle.std.proofs.Common.{◌≡◌, ◌||◌, drop, length, IsFalse}
use Rattle.babel_choice.specs.declared.entries.Selection.{Selection}
use Rattle.babel_state.specs.Reselection.{reselect_each}
use Rattle.babel_speaker.specs.Losses.{is_any_lost, is_lost, prefixes_lost}
use Rattle.babel_speaker.proofs.state.speaker_core.Core.reselect_each_lost.Given as goal

abbrev pub invariant-loop-selected : goal.invariant-loop-selected
invariant-loop-selected l = record {
  done : reselect_each l.now (prefixes_lost (is_lost l.loss l.fn.self) (drop l.place l.self.routes.selections)) l.self ≡ reselect_each l.now (prefixes_lost (is_lost l.loss l.fn.self) l.fn.self.routes.selections) l.fn.self;
  lost : (route : Selection) → is_lost l.loss l.self route ≡ is_lost l.loss l.fn.self route;
  same : IsFalse l.found → l.self ≡ l.fn.self;
  seen : (l.found || is_any_lost (is_lost l.loss l.fn.self) (drop l.place l.self.routes.selections)) ≡ is_any_lost (is_lost l.loss l.fn.self) l.fn.self.routes.selections;
}

abbrev pub decreases-loop-selected : goal.decreases-loop-selected
decreases-loop-selected l = length (drop l.place l.self.routes.selections)
