-- A selection that stays is what a reselection leaves.
use Rattle.std.proofs.Common.{refl, ◌∙◌}
use Rattle.babel_speaker.proofs.StaleReselections.{unchanged_reselected, entries_kept, costs_kept}
use Rattle.babel_speaker.proofs.state.speaker_core.Core.reselect_after_link.Goals as goal

pub returns-then-not-keeps_selection-clause-entries : goal.returns-then-not-keeps_selection-clause-entries
returns-then-not-keeps_selection-clause-entries c =
    entries_kept c.args.now c.args.prefix.now c.args.self.now c.reselect_near.new.self c.reselect_near.ensures.state

pub returns-then-not-keeps_selection-clause-known : goal.returns-then-not-keeps_selection-clause-known
returns-then-not-keeps_selection-clause-known c =
    c.requires.known ∙ costs_kept c.args.now c.args.prefix.now c.args.known.now.peer c.args.self.now c.reselect_near.new.self c.reselect_near.ensures.state

pub returns-else-not-keeps_selection-clause-state : goal.returns-else-not-keeps_selection-clause-state
returns-else-not-keeps_selection-clause-state c =
    unchanged_reselected c.args.now c.args.prefix.now c.args.self.now c.args.self.now (c.if-not-keeps_selection.ensures refl) refl
