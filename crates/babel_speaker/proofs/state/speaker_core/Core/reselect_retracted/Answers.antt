-- What follows from the change is what follows from both selections, and the same is reported of what is alike.
use Rattle.std.proofs.Common.{None, refl}
use Rattle.babel_state.specs.State.{selected_at}
use Rattle.babel_state.proofs.KeptRoutes.{follows_routes}
use Rattle.babel_speaker.proofs.RoutesKept.{stored_routes}
use Rattle.babel_speaker.proofs.StoredUpdates.{reselected_stored}
use Rattle.babel_speaker.proofs.state.speaker_core.Core.reselect_retracted.Goals as goal

pub returns-clause-state : goal.returns-clause-state
returns-clause-state c =
    let prefix = c.args.prefix.now in
    let old = selected_at prefix c.args.self.now in
    let new = selected_at prefix c.select_after-change.new.self in
    reselected_stored c.args.now None prefix c.args.self.now c.select_after-change.new.self c.follow_up.new.self old new c.select_after-change.ensures.state refl refl (c.follow_up.ensures old new c.select_after-change.ensures.change)

pub returns-clause-kept : goal.returns-clause-kept
returns-clause-kept c alike =
    let prefix = c.args.prefix.now in
    let t = c.select_after-change.new.self in
    let old = selected_at prefix c.args.self.now in
    let new = selected_at prefix t in
    stored_routes prefix c.args.self.now.routes.entries c.args.self.now t c.follow_up.new.self c.select_after-change.result
    c.select_after-change.ensures.state c.select_after-change.ensures.change alike
    (follows_routes c.args.now None prefix old new t c.follow_up.new.self (c.follow_up.ensures old new c.select_after-change.ensures.change))
