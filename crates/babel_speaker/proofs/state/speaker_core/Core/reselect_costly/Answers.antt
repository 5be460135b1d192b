-- If no link has a finite cost, each selected route is lost.
use Rattle.std.proofs.Common.{◌≤◌, true, subst}
use Rattle.babel_value.specs.declared.keys.Peer.{Peer}
use Rattle.babel_value.specs.Metrics.{infinity}
use Rattle.babel_link.specs.Neighbours.{cost_of}
use Rattle.babel_state.specs.State.{State, nominal_cost}
use Rattle.babel_state.specs.CurrentSelections.{AreRoutesInOrder}
use Rattle.babel_state.specs.SettledLaws.{AreSelectionsInOrder}
use Rattle.babel_speaker.proofs.Losses.{lost_reselected, all_unless}
use Rattle.babel_speaker.proofs.Settling.{current_all}
use Rattle.babel_speaker.proofs.state.speaker_core.Core.reselect_costly.Goals as goal

pub lose_all-requires : goal.lose_all-requires
lose_all-requires c = record {
  costs = λ peer. subst (λ (s : State). infinity ≤ cost_of peer (nominal_cost peer.iface c.args.self.now) s.neighbours) c.self.view_is (c.has_finite_link.ensures.lost c.if-has_finite_link.false peer (nominal_cost peer.iface c.args.self.now));
}

pub returns-else-has_finite_link-clause-state : goal.returns-else-has_finite_link-clause-state
returns-else-has_finite_link-clause-state c =
    let s = c.args.self.now in
    let costs = λ (peer : Peer). subst (λ (t : State). infinity ≤ cost_of peer (nominal_cost peer.iface s) t.neighbours) c.self.view_is (c.has_finite_link.ensures.lost c.if-has_finite_link.false peer (nominal_cost peer.iface s)) in
    lost_reselected (λ route. true) c.args.now s c.lose_all.new.self
    (subst (λ (t : State). AreRoutesInOrder t) c.self.view_is c.len-count.ensures.in_order)
    (subst (λ (t : State). AreSelectionsInOrder t) c.self.view_is c.len-count.ensures.selections_in_order)
    (all_unless s c.requires.others costs) c.lose_all.ensures

pub returns-else-has_finite_link-clause-current : goal.returns-else-has_finite_link-clause-current
returns-else-has_finite_link-clause-current c =
    current_all c.args.now c.args.self.now c.lose_all.new.self
    (subst (λ (s : State). AreRoutesInOrder s) c.self.view_is c.len-count.ensures.in_order) (returns-else-has_finite_link-clause-state c)
