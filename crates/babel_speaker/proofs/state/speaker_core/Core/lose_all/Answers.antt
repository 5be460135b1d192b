-- The first selection goes, and the next one is the first then.
use Rattle.std.proofs.Common.{◌≤◌, true, refl, sym, ap, subst, ◌∙◌, slice_get}
use Rattle.std.proofs.lemmas.List.{drop_all}
use Rattle.babel_value.specs.Metrics.{infinity}
use Rattle.babel_table.proofs.PlaceLemmas.{past_end}
use Rattle.babel_choice.specs.Choices.{Selections}
use Rattle.babel_state.specs.Reselection.{reselect_each}
use Rattle.babel_state.specs.State.{State}
use Rattle.babel_speaker.specs.Losses.{prefixes_lost}
use Rattle.babel_speaker.proofs.Losses.{one_reselected, fewer_left}
use Rattle.babel_speaker.proofs.StaleReselections.{costs_kept}
use Rattle.babel_speaker.proofs.state.speaker_core.Core.lose_all.Goals as goal

pub lose_first-requires-clause-first : goal.lose_first-requires-clause-first
lose_first-requires-clause-first c = sym (c.in-Some.ensures.selection ∙ ap (λ (s : State). slice_get s.routes.selections 0) c.self.view_is)

pub loop-selected-smaller : goal.loop-selected-smaller
loop-selected-smaller c =
    fewer_left 0 0 c.in-Some.selected c.loop-selected.self.routes.selections c.lose_first.new.self.routes.selections
    (sym (c.in-Some.ensures.selection ∙ ap (λ (s : State). slice_get s.routes.selections 0) c.self.view_is)) c.lose_first.ensures.next

pub loop-selected-preserved : goal.loop-selected-preserved
loop-selected-preserved c =
    let kept = c.loop-selected.invariant in
    let at = sym (c.in-Some.ensures.selection ∙ ap (λ (s : State). slice_get s.routes.selections 0) c.self.view_is) in
    record {
      done = one_reselected (λ route. true) c.args.now 0 0 c.in-Some.selected c.loop-selected.self c.lose_first.new.self _ at refl c.lose_first.ensures.state c.lose_first.ensures.next kept.done;
      costs = λ peer. subst (λ cost. infinity ≤ cost) (costs_kept c.args.now c.in-Some.selected.0 peer c.loop-selected.self c.lose_first.new.self c.lose_first.ensures.state) (kept.costs peer);
    }

pub returns : goal.returns
returns c =
    let ss = c.loop-selected.self.routes.selections in
    let none = sym (sym c.in_default.is ∙ c.selection_at.ensures.selection ∙ ap (λ (s : State). slice_get s.routes.selections 0) c.self.view_is) in
    sym (ap (λ (rest : Selections). reselect_each c.args.now (prefixes_lost (λ route. true) rest) c.loop-selected.self) (drop_all 0 ss (past_end ss 0 none))) ∙ c.loop-selected.invariant.done
