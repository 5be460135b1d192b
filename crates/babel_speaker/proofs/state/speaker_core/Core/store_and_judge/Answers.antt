-- To store the update and to select again changes no source. If the same is reported of the new selection of its prefix, no route is reported otherwise.
use Rattle.std.proofs.Common.{Some, None, refl, sym, ap, ◌∙◌}
use Rattle.babel_state.specs.State.{State, pair_at, selected_at}
use Rattle.babel_state.proofs.KeptRoutes.{follows_routes, routes_through, satisfies_routes}
use Rattle.babel_speaker.proofs.RoutesKept.{stored_routes}
use Rattle.babel_speaker.proofs.StoredUpdates.{judged_unfeasible, judged_feasible, judged_new}
use Rattle.babel_speaker.proofs.state.speaker_core.Core.store_and_judge.Goals as goal
use Rattle.babel_speaker.proofs.state.speaker_core.Core.store_and_judge.Goals.{in-Some-pair_near+else-not-is_feasible, in_default-pair_near}

pub returns-then-not-is_feasible-clause-kept : goal.returns-then-not-is_feasible-clause-kept
returns-then-not-is_feasible-clause-kept c same =
    let prefix = c.args.update.now.source.prefix in
    let t = c.store_and_select.new.self in
    let old = selected_at prefix c.args.self.now in
    let new = selected_at prefix t in
    stored_routes prefix _ c.args.self.now t c.follow_up.new.self c.in-Some.change (c.in-Some.ensures.state refl) c.in-Some.ensures.change (c.is_other-hints.ensures.other same)
    (follows_routes c.args.now (Some (record { peer = c.args.update.now.peer; router = c.args.update.now.source.router })) prefix old new t c.follow_up.new.self (c.follow_up.ensures old new c.in-Some.ensures.change))

pub returns-clause-kept : goal.returns-clause-kept
returns-clause-kept c same =
    let prefix = c.args.update.now.source.prefix in
    let t = c.store_and_select.new.self in
    let old = selected_at prefix c.args.self.now in
    let new = selected_at prefix t in
    let followed = follows_routes c.args.now None prefix old new t c.follow_up-2.new.self (c.follow_up-2.ensures old new c.in-Some.ensures.change) in
    stored_routes prefix _ c.args.self.now t c.satisfy_request.new.self c.in-Some.change (c.in-Some.ensures.state refl) c.in-Some.ensures.change (c.is_other-hints.ensures.other same)
    (routes_through t c.follow_up-2.new.self c.satisfy_request.new.self followed (satisfies_routes _ _ c.follow_up-2.new.self c.satisfy_request.new.self c.satisfy_request.ensures))

pub returns-then-not-is_feasible-clause-state : goal.returns-then-not-is_feasible-clause-state
returns-then-not-is_feasible-clause-state c =
    let update = c.args.update.now in
    let prefix = update.source.prefix in
    let t = c.store_and_select.new.self in
    let old = selected_at prefix c.args.self.now in
    let new = selected_at prefix t in
    let selected = c.in-Some.ensures.state refl in
    let known = sym (c.pair_near.ensures ∙ ap (λ (s : State). pair_at prefix update.source.router s) (c.self.view_is ∙ selected)) ∙ c.in-Some-pair_near.is in
    judged_unfeasible c.args.now update.peer prefix update.source.router update.distance _ _ _ t c.follow_up.new.self old new
    _ c.in-Some-pair_near.pair (sym c.in-Some.ensures.full) known (sym c.is_feasible.ensures ∙ c.if-not-is_feasible.true)
    selected refl refl (c.follow_up.ensures old new c.in-Some.ensures.change)

pub returns-clause-state : goal.returns-clause-state
returns-clause-state c =
    let update = c.args.update.now in
    let prefix = update.source.prefix in
    let t = c.store_and_select.new.self in
    let old = selected_at prefix c.args.self.now in
    let new = selected_at prefix t in
    let selected = c.in-Some.ensures.state refl in
    let followed = c.follow_up-2.ensures old new c.in-Some.ensures.change in
    let known = sym (c.pair_near.ensures ∙ ap (λ (s : State). pair_at prefix update.source.router s) (c.self.view_is ∙ selected)) in
    elim c.match-pair_near.branch [
      | in-Some-pair_near+else-not-is_feasible w ↦
          judged_feasible c.args.now update.peer prefix update.source.router update.distance _ _ _ t c.follow_up-2.new.self old new
          _ w.in-Some-pair_near.pair c.satisfy_request.new.self (sym c.in-Some.ensures.full) (known ∙ w.in-Some-pair_near.is) (sym w.is_feasible.ensures ∙ w.if-not-is_feasible.false)
          selected refl refl followed c.satisfy_request.ensures
      | in_default-pair_near w ↦
          judged_new c.args.now update.peer prefix update.source.router update.distance _ _ _ t c.follow_up-2.new.self old new
          _ c.satisfy_request.new.self (sym c.in-Some.ensures.full) (known ∙ w.in_default-pair_near.is)
          selected refl refl followed c.satisfy_request.ensures
    ]
