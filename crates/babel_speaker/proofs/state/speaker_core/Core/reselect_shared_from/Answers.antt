-- A route of the neighbour, or one of another.
use Rattle.std.specs.FinMap.{is_sorted}
use Rattle.std.proofs.Common.{◌≡◌, ◌<◌, ◌≤◌, true, length, slice_get, refl, sym, ap, subst, ◌∙◌}
use Rattle.std.proofs.lemmas.List.{drop_all}
use Rattle.babel_choice.specs.RouteKeys.{route_cmp}
use Rattle.babel_choice.specs.Routes.{RouteEntries}
use Rattle.babel_speaker.specs.LinkChanges.{prefixes_from, IsCurrentButAt}
use Rattle.babel_state.specs.Reselection.{reselect_each}
use Rattle.babel_state.specs.State.{State}
use Rattle.babel_state.specs.CurrentSelections.{AreRoutesInOrder}
use Rattle.babel_speaker.proofs.StaleReselections.{keeps_but, prefix_in, one_walked, none_walked}
use Rattle.babel_speaker.proofs.state.speaker_core.Core.reselect_shared_from.Goals as goal

pub reselect_after_link-requires-clause-others : goal.reselect_after_link-requires-clause-others
reselect_after_link-requires-clause-others c =
    subst (λ q. IsCurrentButAt q c.in-Some.prefix c.loop-place.self) (sym c.known_cost-known.ensures.peer) (c.loop-place.invariant.others c.in-Some.prefix)

pub loop-place-preserved : goal.loop-place-preserved
loop-place-preserved c =
    let peer = c.args.peer.now in
    let es = c.args.self.now.routes.entries in
    let kept = c.loop-place.invariant in
    let prefix = c.in-Some.prefix in
    let found = sym c.in-Some.is ∙ c.prefix_from.ensures ∙ ap (λ (s : State). prefix_in peer (slice_get s.routes.entries c.loop-place.place)) c.self-in-loop-place.view_is in
    let in_order : AreRoutesInOrder c.loop-place.self = subst (λ (fs : RouteEntries). is_sorted route_cmp fs ≡ true) (sym kept.kept) (subst (λ (s : State). AreRoutesInOrder s) c.self.view_is c.len-place-end.ensures.in_order) in
    let is = c.reselect_after_link.ensures.state in
    record {
      done = one_walked peer c.args.now es c.loop-place.place prefix c.loop-place.self c.reselect_after_link.new.self _ found kept.kept is kept.done;
      kept = c.reselect_after_link.ensures.entries ∙ kept.kept;
      known = c.reselect_after_link.ensures.known;
      others = keeps_but c.args.now peer prefix c.loop-place.self c.reselect_after_link.new.self in_order is kept.others;
    }

pub loop-place-preserved-in_default : goal.loop-place-preserved-in_default
loop-place-preserved-in_default c =
    let peer = c.args.peer.now in
    let es = c.args.self.now.routes.entries in
    let kept = c.loop-place.invariant in
    let found = sym c.in_default.is ∙ c.prefix_from.ensures ∙ ap (λ (s : State). prefix_in peer (slice_get s.routes.entries c.loop-place.place)) c.self-in-loop-place.view_is in
    let count = c.len-place-end.ensures.len ∙ ap (λ (s : State). length s.routes.entries) c.self.view_is in
    let within = subst (λ n. c.loop-place.place < n) (count ∙ ap length (sym kept.kept)) c.loop-place-test.true in
    record {
      done = none_walked peer c.args.now es c.loop-place.place c.loop-place.self c.loop-place.self _ within found kept.kept refl kept.done;
      kept = kept.kept;
      known = kept.known;
      others = kept.others;
    }

pub returns : goal.returns
returns c =
    let es = c.args.self.now.routes.entries in
    let count = c.len-place-end.ensures.len ∙ ap (λ (s : State). length s.routes.entries) c.self.view_is in
    let ended = drop_all c.loop-place.place es (subst (λ n. n ≤ c.loop-place.place) count c.loop-place-test.false) in
    ap (λ fs. reselect_each c.args.now (prefixes_from c.args.peer.now fs) c.loop-place.self) (sym ended) ∙ c.loop-place.invariant.done
