-- A route of the neighbour, or one of another.
use Rattle.std.proofs.Common.{◌<◌, ◌≤◌, length, slice_get, sym, ap, subst, ◌∙◌}
use Rattle.std.proofs.lemmas.List.{drop_all}
use Rattle.babel_speaker.specs.LinkChanges.{prefixes_from}
use Rattle.babel_state.specs.Reselection.{reselect_each}
use Rattle.babel_state.specs.State.{State, cost_at}
use Rattle.babel_speaker.proofs.StaleReselections.{prefix_in, one_walked, none_walked}
use Rattle.babel_speaker.proofs.state.speaker_core.Core.reselect_each_from.Goals.{in-Some, in_default}
use Rattle.babel_speaker.proofs.state.speaker_core.Core.reselect_each_from.Goals as goal

pub loop-place-preserved : goal.loop-place-preserved
loop-place-preserved c =
    let peer = c.args.peer.now in
    let es = c.args.self.now.routes.entries in
    let kept = c.loop-place.invariant in
    let found = c.prefix_from.ensures ∙ ap (λ (s : State). prefix_in peer (slice_get s.routes.entries c.loop-place.place)) c.self-in-loop-place.view_is in
    let count = c.len-place-end.ensures.len ∙ ap (λ (s : State). length s.routes.entries) c.self.view_is in
    let within = subst (λ n. c.loop-place.place < n) (count ∙ ap length (sym kept.kept)) c.loop-place-test.true in
    elim c.match-prefix_from.branch [
      | in-Some w ↦ record {
        done = one_walked peer c.args.now es c.loop-place.place w.in-Some.prefix c.loop-place.self c.match-prefix_from.self _ (sym w.in-Some.is ∙ found) kept.kept (w.self-is ∙ w.reselect_changed.ensures.state) kept.done;
        kept = ap (λ (s : State). s.routes.entries) w.self-is ∙ w.reselect_changed.ensures.entries ∙ kept.kept;
        known = w.reselect_changed.ensures.known ∙ ap (λ (s : State). cost_at s c.known_cost-known.result.peer) (sym w.self-is);
      }
      | in_default w ↦ record {
        done = none_walked peer c.args.now es c.loop-place.place c.loop-place.self c.match-prefix_from.self _ within (sym w.in_default.is ∙ found) kept.kept w.self-is kept.done;
        kept = ap (λ (s : State). s.routes.entries) w.self-is ∙ kept.kept;
        known = kept.known ∙ ap (λ (s : State). cost_at s c.known_cost-known.result.peer) (sym w.self-is);
      }
    ]

pub returns : goal.returns
returns c =
    let es = c.args.self.now.routes.entries in
    let count = c.len-place-end.ensures.len ∙ ap (λ (s : State). length s.routes.entries) c.self.view_is in
    let ended = drop_all c.loop-place.place es (subst (λ n. n ≤ c.loop-place.place) count c.loop-place-test.false) in
    ap (λ fs. reselect_each c.args.now (prefixes_from c.args.peer.now fs) c.loop-place.self) (sym ended) ∙ c.loop-place.invariant.done
