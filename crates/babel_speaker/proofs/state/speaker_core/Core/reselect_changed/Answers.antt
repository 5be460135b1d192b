-- What follows from the change is what follows from both selections.
use Rattle.std.proofs.Common.{None, refl, ap, ◌∙◌}
use Rattle.babel_route.specs.declared.routes.changes.SelectionChange.{SelectionChange}
use Rattle.babel_state.specs.State.{selected_at}
use Rattle.babel_speaker.proofs.SelectionChanges.{follows_alone}
use Rattle.babel_speaker.proofs.StaleReselections.{changed_reselected, entries_kept, costs_kept}
use Rattle.babel_speaker.proofs.state.speaker_core.Core.reselect_changed.Goals as goal

pub returns-clause-state : goal.returns-clause-state
returns-clause-state c =
    let prefix = c.args.prefix.now in
    let t = c.select_changed-change.new.self in
    let old = selected_at prefix c.args.self.now in
    let new = selected_at prefix t in
    let is = ap (λ (change : SelectionChange). change.origin) c.select_changed-change.ensures.change in
    let followed = follows_alone c.args.now prefix old new t c.follow_origin.new.self c.follow_origin.result (λ yes. c.follow_origin.ensures.requested yes None old new is) (λ no. c.follow_origin.ensures.advertised no None old new is) in
    changed_reselected c.args.now prefix c.args.self.now t c.follow_origin.new.self old new c.select_changed-change.ensures.state refl refl followed

pub returns-clause-entries : goal.returns-clause-entries
returns-clause-entries c = entries_kept c.args.now c.args.prefix.now c.args.self.now c.follow_origin.new.self (returns-clause-state c)

pub returns-clause-known : goal.returns-clause-known
returns-clause-known c =
    c.requires.known ∙ costs_kept c.args.now c.args.prefix.now c.args.known.now.peer c.args.self.now c.follow_origin.new.self (returns-clause-state c)
