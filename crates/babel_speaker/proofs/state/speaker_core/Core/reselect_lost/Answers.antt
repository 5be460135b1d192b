-- All other selections are current.
use Rattle.std.proofs.Common.{subst}
use Rattle.babel_state.specs.State.{State}
use Rattle.babel_state.specs.CurrentSelections.{AreRoutesInOrder}
use Rattle.babel_state.specs.SettledLaws.{AreSelectionsInOrder}
use Rattle.babel_speaker.specs.Losses.{is_lost}
use Rattle.babel_speaker.proofs.Losses.{lost_reselected}
use Rattle.babel_speaker.proofs.Settling.{current_all}
use Rattle.babel_speaker.proofs.state.speaker_core.Core.reselect_lost.Goals as goal

pub returns-clause-state : goal.returns-clause-state
returns-clause-state c =
    lost_reselected (is_lost c.args.loss.now c.args.self.now) c.args.now c.args.self.now c.reselect_each_lost.new.self
    (subst (λ (s : State). AreRoutesInOrder s) c.self.view_is c.len-count.ensures.in_order)
    (subst (λ (s : State). AreSelectionsInOrder s) c.self.view_is c.len-count.ensures.selections_in_order)
    c.requires.others c.reselect_each_lost.ensures.state

pub returns-clause-current : goal.returns-clause-current
returns-clause-current c =
    current_all c.args.now c.args.self.now c.reselect_each_lost.new.self
    (subst (λ (s : State). AreRoutesInOrder s) c.self.view_is c.len-count.ensures.in_order) (returns-clause-state c)
