-- Neither the routes nor the snapshot change by it.
use Rattle.std.specs.Prelude.{false}
use Rattle.std.proofs.Common.{refl, arith}
use Rattle.babel_state.specs.Seen.{seen}
use Rattle.babel_state.specs.SeenLaws.{MovesAlone}
use Rattle.babel_state.specs.CurrentSelections.{KeepsCurrent}
use Rattle.babel_state.specs.KeptRoutes.{KeepsRoutes}
use Rattle.babel_speaker.specs.Versions.{SpeakerValue}
use Rattle.babel_speaker.proofs.CallLaws.{through, free_if_ok}
use Rattle.babel_speaker.proofs.Counting.{counts, counts_from, counts_routes, counts_snapshots, not_counted, state_of}
use Rattle.babel_speaker.proofs.Snapshots.{cost_snapshot}
use Rattle.babel_speaker.proofs.speaker.Speaker.set_cost.Goals as goal

pub returns-clause-moves : goal.returns-clause-moves
returns-clause-moves c =
    through (λ o t. MovesAlone 0 (seen o).announces o t) c.args.self.now.state c.self.inside.core c.set_cost.new.core _ (state_of _ _ c.self.view_is) c.in_ok-set_cost.ensures.ok
    (c.calls_move.ensures.set_cost c.args.iface c.args.cost c.self.inside.core (free_if_ok c.set_cost.result _ _ c.set_cost.ensures.refused c.in_ok-set_cost.was) c.self.invariant.0)

pub returns-clause-current : goal.returns-clause-current
returns-clause-current c =
    through KeepsCurrent c.args.self.now.state c.self.inside.core c.set_cost.new.core _ (state_of _ _ c.self.view_is) c.in_ok-set_cost.ensures.ok
    (c.selections_stay_current.ensures.set_cost c.args.iface c.args.cost c.self.inside.core (free_if_ok c.set_cost.result _ _ c.set_cost.ensures.refused c.in_ok-set_cost.was) c.self.invariant.0)

pub returns-clause-counted : goal.returns-clause-counted
returns-clause-counted c =
    let before : SpeakerValue = record { state = c.self.inside.core; routes_version = c.self.inside.routes; snapshot_version = c.self.inside.snapshot } in
    let after : SpeakerValue = record { state = c.set_cost.new.core; routes_version = c.self.inside.routes; snapshot_version = c.self.inside.snapshot } in
    counts_from before c.args.self.now after c.self.view_is
    (counts before after false false (not_counted c.self.inside.routes) (not_counted c.self.inside.snapshot)
    (λ _. through KeepsRoutes c.self.inside.core c.self.inside.core c.set_cost.new.core _ refl c.in_ok-set_cost.ensures.ok
    (c.selections_stay_current.ensures.set_cost_routes c.args.iface c.args.cost c.self.inside.core (free_if_ok c.set_cost.result _ _ c.set_cost.ensures.refused c.in_ok-set_cost.was) c.self.invariant.0))
    (λ _. cost_snapshot c.args.iface c.args.cost c.self.inside.core c.set_cost.new.core c.in_ok-set_cost.ensures.ok))

pub returns-clause-routes : goal.returns-clause-routes
returns-clause-routes c =
    let before : SpeakerValue = record { state = c.self.inside.core; routes_version = c.self.inside.routes; snapshot_version = c.self.inside.snapshot } in
    let after : SpeakerValue = record { state = c.set_cost.new.core; routes_version = c.self.inside.routes; snapshot_version = c.self.inside.snapshot } in
    counts_routes before c.args.self.now after c.self.view_is (λ _. refl) (omega arith)

pub returns-clause-snapshots : goal.returns-clause-snapshots
returns-clause-snapshots c =
    let before : SpeakerValue = record { state = c.self.inside.core; routes_version = c.self.inside.routes; snapshot_version = c.self.inside.snapshot } in
    let after : SpeakerValue = record { state = c.set_cost.new.core; routes_version = c.self.inside.routes; snapshot_version = c.self.inside.snapshot } in
    counts_snapshots before c.args.self.now after c.self.view_is (λ _. refl) (omega arith)
