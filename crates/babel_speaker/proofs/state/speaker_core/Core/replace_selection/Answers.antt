-- What follows from the change is what follows from both selections, and a lost selection leaves its index to the next one.
use Rattle.std.proofs.Common.{None, refl, ap, subst, ◌∙◌, drop}
use Rattle.babel_route.specs.declared.routes.changes.SelectionChange.{SelectionChange}
use Rattle.babel_state.specs.SettledLaws.{AreSelectionsInOrder}
use Rattle.babel_state.specs.State.{State, selected_at}
use Rattle.babel_speaker.proofs.Losses.{next_selected}
use Rattle.babel_speaker.proofs.SelectionChanges.{follows_alone}
use Rattle.babel_speaker.proofs.StaleReselections.{changed_reselected}
use Rattle.babel_speaker.proofs.state.speaker_core.Core.replace_selection.Goals as goal

pub returns-clause-state : goal.returns-clause-state
returns-clause-state c =
    let prefix = c.args.prefix.now in
    let t = c.select_near-change.new.self in
    let old = selected_at prefix c.args.self.now in
    let new = selected_at prefix t in
    let is = ap (λ (change : SelectionChange). change.origin) c.select_near-change.ensures.change in
    let followed = follows_alone c.args.now prefix old new t c.follow_origin.new.self c.follow_origin.result (λ yes. c.follow_origin.ensures.requested yes None old new is) (λ no. c.follow_origin.ensures.advertised no None old new is) in
    changed_reselected c.args.now prefix c.args.self.now t c.follow_origin.new.self old new c.select_near-change.ensures.state refl refl followed

pub returns-clause-next : goal.returns-clause-next
returns-clause-next c =
    let t = c.select_near-change.new.self in
    ap (λ n. drop n c.follow_origin.new.self.routes.selections) c.next_place.ensures
    ∙ next_selected c.args.now c.args.place c.args.prefix.now c.select_near-change.result.origin c.args.self.now t c.follow_origin.new.self
    (subst (λ (s : State). AreSelectionsInOrder s) c.self.view_is c.len-count.ensures.selections_in_order)
    c.requires.at c.select_near-change.ensures.state (ap (λ (change : SelectionChange). change.origin) c.select_near-change.ensures.change) (returns-clause-state c)
