-- Nothing changes of a selection that stays.
use Rattle.std.proofs.Common.{sym, ap, ◌∙◌}
use Rattle.babel_route.proofs.ChangeLemmas.{kept_change, no_change}
use Rattle.babel_state.specs.State.{selected_at}
use Rattle.babel_speaker.proofs.state.speaker_core.Core.select_shared.Goals as goal

pub returns-then-is_some-clause-change : goal.returns-then-is_some-clause-change
returns-then-is_some-clause-change c =
    c.kept.ensures ∙ ap kept_change (c.kept_selection-kept.ensures.selection (sym c.if-is_some.ensures)) ∙ no_change (selected_at c.args.prefix.now c.args.self.now)
