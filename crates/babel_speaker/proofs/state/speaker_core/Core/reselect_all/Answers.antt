-- All that isn't current is selected again.
use Rattle.std.proofs.Common.{ap, subst, ◌∙◌}
use Rattle.babel_value.specs.Prefixes.{PrefixValue}
use Rattle.babel_speaker.specs.Costs.{link_cost}
use Rattle.babel_speaker.specs.StalePrefixes.{is_stale}
use Rattle.babel_state.specs.State.{State, cost_at}
use Rattle.babel_state.specs.CurrentSelections.{AreRoutesInOrder}
use Rattle.babel_state.specs.SettledLaws.{AreSelectionsInOrder}
use Rattle.babel_speaker.proofs.StaleReselections.{stale_reselected}
use Rattle.babel_speaker.proofs.RoutesKept.{so, none_reselected}
use Rattle.babel_speaker.proofs.Settling.{current_all}
use Rattle.babel_speaker.proofs.state.speaker_core.Core.reselect_all.Goals as goal

pub returns-clause-state : goal.returns-clause-state
returns-clause-state c =
    let inside = c.self.inside in
    let links = c.new-links.ensures in
    stale_reselected c.args.now c.args.self.now c.reselect_each.new.self c.gather_stale.new.self
    (subst (λ (s : State). AreRoutesInOrder s) c.self.view_is c.gather_stale.ensures.routes_in_order)
    (subst (λ (s : State). AreSelectionsInOrder s) c.self.view_is c.gather_stale.ensures.selections_in_order)
    c.gather_stale.ensures.in_order
    (λ (p : PrefixValue).
    c.gather_stale.ensures.stale p
    ∙ (λ i. is_stale inside.sources (link_cost (links.interfaces i) (links.neighbours i)) inside.announced inside.routes p)
    ∙ ap (λ (s : State). is_stale s.sources (cost_at s) s.announced s.routes p) c.self.view_is)
    c.reselect_each.ensures

pub returns-clause-current : goal.returns-clause-current
returns-clause-current c =
    current_all c.args.now c.args.self.now c.reselect_each.new.self
    (subst (λ (s : State). AreRoutesInOrder s) c.self.view_is c.gather_stale.ensures.routes_in_order) (returns-clause-state c)

pub returns-clause-quiet : goal.returns-clause-quiet
returns-clause-quiet c quiet =
    none_reselected c.args.now c.args.self.now c.reselect_each.new.self c.gather_stale.new.self c.reselect_each.ensures
    (c.is_empty.ensures.0 (so c.is_empty.result quiet))
