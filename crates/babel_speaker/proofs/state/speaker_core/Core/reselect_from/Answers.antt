-- All other selections are current.
use Rattle.std.proofs.Common.{subst}
use Rattle.babel_state.specs.State.{State}
use Rattle.babel_state.specs.CurrentSelections.{AreRoutesInOrder}
use Rattle.babel_state.specs.SettledLaws.{AreSelectionsInOrder}
use Rattle.babel_speaker.proofs.StaleReselections.{from_reselected}
use Rattle.babel_speaker.proofs.Settling.{current_all}
use Rattle.babel_speaker.proofs.state.speaker_core.Core.reselect_from.Goals as goal

pub returns-then-are_shared-clause-state : goal.returns-then-are_shared-clause-state
returns-then-are_shared-clause-state c =
    from_reselected c.args.now c.args.peer.now c.args.self.now c.reselect_shared_from.new.self
    (subst (λ (s : State). AreRoutesInOrder s) c.self.view_is c.len-count.ensures.in_order)
    (subst (λ (s : State). AreSelectionsInOrder s) c.self.view_is c.len-count.ensures.selections_in_order)
    c.requires.others c.reselect_shared_from.ensures

pub returns-else-as_slice-gt1-clause-state : goal.returns-else-as_slice-gt1-clause-state
returns-else-as_slice-gt1-clause-state c =
    from_reselected c.args.now c.args.peer.now c.args.self.now c.reselect_each_from.new.self
    (subst (λ (s : State). AreRoutesInOrder s) c.self.view_is c.len-count.ensures.in_order)
    (subst (λ (s : State). AreSelectionsInOrder s) c.self.view_is c.len-count.ensures.selections_in_order)
    c.requires.others c.reselect_each_from.ensures

pub returns-then-are_shared-clause-current : goal.returns-then-are_shared-clause-current
returns-then-are_shared-clause-current c =
    current_all c.args.now c.args.self.now c.reselect_shared_from.new.self
    (subst (λ (s : State). AreRoutesInOrder s) c.self.view_is c.len-count.ensures.in_order) (returns-then-are_shared-clause-state c)

pub returns-else-as_slice-gt1-clause-current : goal.returns-else-as_slice-gt1-clause-current
returns-else-as_slice-gt1-clause-current c =
    current_all c.args.now c.args.self.now c.reselect_each_from.new.self
    (subst (λ (s : State). AreRoutesInOrder s) c.self.view_is c.len-count.ensures.in_order) (returns-else-as_slice-gt1-clause-state c)
