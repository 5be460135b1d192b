-- The prefix of the selection at the index is the next one.
use Rattle.std.proofs.Common.{sym, ap, ◌∙◌, map, length, rules}
use Rattle.babel_choice.specs.Choices.{Selections}
use Rattle.babel_choice.proofs.RunLemmas.{drop_at, drop_past}
use Rattle.babel_speaker.proofs.tables.reachable.SelectedPrefixesIterator.next.Goals as goal

pub returns-in_err-selection-clause-steps : goal.returns-in_err-selection-clause-steps
returns-in_err-selection-clause-steps c =
    let walk = c.self.inside in
    let end = sym c.self.view_is ∙ ap (λ (es : Selections). map (λ e. e.0) es) (drop_past walk.routes.now.selections walk.place (sym c.in_err-selection.ensures.selection)) in
    rw c.from_residual.ensures (end, end)

pub returns-clause-steps : goal.returns-clause-steps
returns-clause-steps c =
    let walk = c.self.inside in
    sym c.self.view_is
    ∙ ap (λ (es : Selections). map (λ e. e.0) es) (drop_at walk.routes.now.selections walk.place c.in_ok-selection.selection (sym c.in_ok-selection.ensures.selection))

pub returns-clause-goes : goal.returns-clause-goes
returns-clause-goes c =
    let shorter = ap length (returns-clause-steps c) in search rules
