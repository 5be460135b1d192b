-- A selection that is lost, or one that stays.
use Rattle.std.proofs.Common.{◌+◌, ◌||◌, slice_get, refl, sym, ap, ◌∙◌, true≢false}
use Rattle.std.proofs.Math.Bool.{or-true, or-false}
use Rattle.std.proofs.lemmas.List.{drop_all}
use Rattle.babel_table.proofs.PlaceLemmas.{past_end}
use Rattle.babel_choice.specs.Choices.{Selections}
use Rattle.babel_state.specs.Reselection.{reselect_each}
use Rattle.babel_state.specs.State.{State}
use Rattle.babel_speaker.specs.Losses.{is_any_lost, is_lost, prefixes_lost}
use Rattle.babel_speaker.proofs.Losses.{one_passed, one_reselected, same_lost, fewer_left, this_lost, this_stays}
use Rattle.babel_speaker.proofs.state.speaker_core.Core.reselect_each_lost.Goals as goal

pub reselect_at-place-requires-clause-at : goal.reselect_at-place-requires-clause-at
reselect_at-place-requires-clause-at c =
    (c.in-Some.selected.1, sym (c.in-Some.ensures.selection ∙ ap (λ (s : State). slice_get s.routes.selections c.loop-selected.place) c.self.view_is))

pub loop-selected-smaller-then-is_lost : goal.loop-selected-smaller-then-is_lost
loop-selected-smaller-then-is_lost c =
    fewer_left c.loop-selected.place c.reselect_at-place.result c.in-Some.selected c.loop-selected.self.routes.selections c.reselect_at-place.new.self.routes.selections
    (sym (c.in-Some.ensures.selection ∙ ap (λ (s : State). slice_get s.routes.selections c.loop-selected.place) c.self.view_is)) c.reselect_at-place.ensures.next

pub loop-selected-preserved-then-is_lost : goal.loop-selected-preserved-then-is_lost
loop-selected-preserved-then-is_lost c =
    let kept = c.loop-selected.invariant in
    let loss = c.args.loss.now in
    let at = sym (c.in-Some.ensures.selection ∙ ap (λ (s : State). slice_get s.routes.selections c.loop-selected.place) c.self.view_is) in
    let gone = sym (kept.lost c.in-Some.selected.1) ∙ sym c.is_lost.ensures ∙ c.if-is_lost.true in
    record {
      done = one_reselected (is_lost loss c.args.self.now) c.args.now c.loop-selected.place c.reselect_at-place.result c.in-Some.selected c.loop-selected.self c.reselect_at-place.new.self _ at gone
          c.reselect_at-place.ensures.state c.reselect_at-place.ensures.next kept.done;
      lost = λ route. same_lost loss c.args.now c.in-Some.selected.0 route c.loop-selected.self c.reselect_at-place.new.self c.reselect_at-place.ensures.state ∙ kept.lost route;
      same = λ none. absurd (true≢false none);
      seen = sym (ap (λ b. c.loop-selected.found || b) (this_lost (is_lost loss c.args.self.now) c.loop-selected.place c.in-Some.selected c.loop-selected.self.routes.selections at gone) ∙ or-true c.loop-selected.found) ∙ kept.seen;
    }

pub loop-selected-smaller : goal.loop-selected-smaller
loop-selected-smaller c =
    fewer_left c.loop-selected.place (c.loop-selected.place + 1) c.in-Some.selected c.loop-selected.self.routes.selections c.loop-selected.self.routes.selections
    (sym (c.in-Some.ensures.selection ∙ ap (λ (s : State). slice_get s.routes.selections c.loop-selected.place) c.self.view_is)) refl

pub loop-selected-preserved : goal.loop-selected-preserved
loop-selected-preserved c =
    let kept = c.loop-selected.invariant in
    let at = sym (c.in-Some.ensures.selection ∙ ap (λ (s : State). slice_get s.routes.selections c.loop-selected.place) c.self.view_is) in
    let stays = sym (kept.lost c.in-Some.selected.1) ∙ sym c.is_lost.ensures ∙ c.if-is_lost.false in
    record {
      done = one_passed (is_lost c.args.loss.now c.args.self.now) c.args.now c.loop-selected.place c.in-Some.selected c.loop-selected.self _ at stays kept.done;
      lost = kept.lost;
      same = kept.same;
      seen = ap (λ b. c.loop-selected.found || b) (sym (this_stays (is_lost c.args.loss.now c.args.self.now) c.loop-selected.place c.in-Some.selected c.loop-selected.self.routes.selections at stays)) ∙ kept.seen;
    }

pub returns-clause-state : goal.returns-clause-state
returns-clause-state c =
    let ss = c.loop-selected.self.routes.selections in
    let none = sym (sym c.in_default.is ∙ c.selection_at.ensures.selection ∙ ap (λ (s : State). slice_get s.routes.selections c.loop-selected.place) c.self.view_is) in
    let ended = drop_all c.loop-selected.place ss (past_end ss c.loop-selected.place none) in
    sym (ap (λ (rest : Selections). reselect_each c.args.now (prefixes_lost (is_lost c.args.loss.now c.args.self.now) rest) c.loop-selected.self) ended) ∙ c.loop-selected.invariant.done

pub returns-clause-found : goal.returns-clause-found
returns-clause-found c =
    let ss = c.loop-selected.self.routes.selections in
    let none = sym (sym c.in_default.is ∙ c.selection_at.ensures.selection ∙ ap (λ (s : State). slice_get s.routes.selections c.loop-selected.place) c.self.view_is) in
    let ended = drop_all c.loop-selected.place ss (past_end ss c.loop-selected.place none) in
    sym (or-false c.loop-selected.found) ∙ ap (λ (rest : Selections). c.loop-selected.found || is_any_lost (is_lost c.args.loss.now c.args.self.now) rest) (sym ended) ∙ c.loop-selected.invariant.seen
