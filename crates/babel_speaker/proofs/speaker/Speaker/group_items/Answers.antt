-- Neither the routes nor the snapshot change by it.
use Rattle.std.specs.Prelude.{false}
use Rattle.std.proofs.Common.{refl, sym, subst}
use Rattle.babel_state.specs.CurrentSelections.{AreCurrent, KeepsCurrent}
use Rattle.babel_state.specs.Invariants.{IsWellFormed}
use Rattle.babel_state.specs.KeptRoutes.{KeepsRoutes}
use Rattle.babel_state.specs.Seen.{seen}
use Rattle.babel_state.specs.SeenLaws.{MovesAlone}
use Rattle.babel_speaker.specs.Versions.{SpeakerValue}
use Rattle.babel_speaker.proofs.CallLaws.{through}
use Rattle.babel_speaker.proofs.Counting.{counts, counts_from, not_counted, state_of}
use Rattle.babel_speaker.proofs.Groups.{grouped_routes}
use Rattle.babel_speaker.proofs.Snapshots.{grouped_snapshot}
use Rattle.babel_speaker.proofs.speaker.Speaker.group_items.Goals as goal

pub invariant_of-self : goal.invariant_of-self
invariant_of-self c = (
  subst IsWellFormed (sym c.group_items.ensures) (c.groups_keep_the_rest.ensures.well_formed c.self.inside.core c.self.invariant.0),
  λ settled. subst AreCurrent (sym c.group_items.ensures)
      (λ prefix. c.groups_keep_the_rest.ensures.current c.self.inside.core prefix (c.self.invariant.1 settled prefix)),
)

pub returns-clause-moves : goal.returns-clause-moves
returns-clause-moves c =
    through (λ o t. MovesAlone 0 (seen o).announces o t) c.args.self.now.state c.self.inside.core c.group_items.new.core _ (state_of _ _ c.self.view_is) c.group_items.ensures
    (c.groups_keep_the_rest.ensures.moves c.self.inside.core c.self.invariant.0)

pub returns-clause-current : goal.returns-clause-current
returns-clause-current c =
    through KeepsCurrent c.args.self.now.state c.self.inside.core c.group_items.new.core _ (state_of _ _ c.self.view_is) c.group_items.ensures
    (c.groups_keep_the_rest.ensures.current c.self.inside.core)

pub returns-clause-kept : goal.returns-clause-kept
returns-clause-kept c =
    through KeepsRoutes c.args.self.now.state c.self.inside.core c.group_items.new.core _ (state_of _ _ c.self.view_is) c.group_items.ensures
    (grouped_routes c.self.inside.core _ refl)

pub returns-clause-counted : goal.returns-clause-counted
returns-clause-counted c =
    let before : SpeakerValue = record { state = c.self.inside.core; routes_version = c.self.inside.routes; snapshot_version = c.self.inside.snapshot } in
    let after : SpeakerValue = record { state = c.group_items.new.core; routes_version = c.self.inside.routes; snapshot_version = c.self.inside.snapshot } in
    counts_from before c.args.self.now after c.self.view_is
    (counts before after false false (not_counted c.self.inside.routes) (not_counted c.self.inside.snapshot)
    (λ _. grouped_routes c.self.inside.core c.group_items.new.core c.group_items.ensures)
    (λ _. grouped_snapshot c.self.inside.core c.group_items.new.core c.group_items.ensures))
