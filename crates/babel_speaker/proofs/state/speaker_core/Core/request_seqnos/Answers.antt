-- A route, or none at the place.
use Rattle.std.proofs.Common.{◌≤◌, length, slice_get, sym, ap, subst, ◌∙◌}
use Rattle.babel_state.specs.State.{State}
use Rattle.babel_speaker.proofs.Requesting.{parts_at, route_at, no_route_at, one_requested, none_requested_at, all_requested}
use Rattle.babel_speaker.proofs.state.speaker_core.Core.request_seqnos.Goals.{in-Some, in_default}
use Rattle.babel_speaker.proofs.state.speaker_core.Core.request_seqnos.Goals as goal

pub loop-place-preserved : goal.loop-place-preserved
loop-place-preserved c =
    let place = c.loop-place.place in
    let es = c.args.self.now.routes.entries in
    let kept = c.loop-place.invariant in
    let found = c.at.ensures ∙ ap (λ (s : State). parts_at place s.routes.entries) c.self-in-loop-place.view_is ∙ ap (parts_at place) kept.kept in
    elim c.match-at.branch [
      | in-Some w ↦ record {
        done = one_requested c.args.now es place _ c.loop-place.self c.match-at.self _ (route_at (slice_get es place) w.in-Some.found (sym (sym w.in-Some.is ∙ found)))
            (w.self-is ∙ w.request_for_wanted.ensures.state) kept.done;
        kept = ap (λ (s : State). s.routes.entries) w.self-is ∙ w.request_for_wanted.ensures.entries ∙ kept.kept;
      }
      | in_default w ↦ record {
        done = none_requested_at c.args.now es place c.loop-place.self c.match-at.self _ (no_route_at (slice_get es place) (sym (sym w.in_default.is ∙ found))) w.self-is kept.done;
        kept = ap (λ (s : State). s.routes.entries) w.self-is ∙ kept.kept;
      }
    ]

pub returns : goal.returns
returns c =
    let count = c.len-place-end.ensures.len ∙ ap (λ (s : State). length s.routes.entries) c.self.view_is in
    all_requested c.args.now c.loop-place.place c.args.self.now c.loop-place.self (subst (λ n. n ≤ c.loop-place.place) count c.loop-place-test.false) c.loop-place.invariant.done
