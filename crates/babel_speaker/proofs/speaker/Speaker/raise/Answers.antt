-- The snapshot changes by it, and the routes don't.
use Rattle.std.specs.Prelude.{true, false}
use Rattle.std.proofs.Common.{refl, arith}
use Rattle.babel_state.specs.Seen.{seen}
use Rattle.babel_state.specs.SeenLaws.{MovesAlone}
use Rattle.babel_state.specs.CurrentSelections.{KeepsCurrent}
use Rattle.babel_speaker.specs.Versions.{SpeakerValue}
use Rattle.babel_speaker.proofs.CallLaws.{through}
use Rattle.babel_speaker.proofs.Counting.{counts, counts_from, counts_routes, counts_snapshots, not_counted, never, raised_routes, state_of}
use Rattle.babel_speaker.proofs.Snapshots.{raised_snapshot}
use Rattle.babel_speaker.proofs.speaker.Speaker.raise.Goals as goal

pub returns-clause-moves : goal.returns-clause-moves
returns-clause-moves c =
    through (λ o t. MovesAlone 1 (seen o).announces o t) c.args.self.now.state c.self.inside.core c.raise.new.self _ (state_of _ _ c.self.view_is) c.raise.ensures
    (c.calls_move.ensures.raise c.self.inside.core c.self.invariant.0)

pub returns-clause-current : goal.returns-clause-current
returns-clause-current c =
    through KeepsCurrent c.args.self.now.state c.self.inside.core c.raise.new.self _ (state_of _ _ c.self.view_is) c.raise.ensures
    (c.selections_stay_current.ensures.raise c.self.inside.core)

pub returns-clause-counted : goal.returns-clause-counted
returns-clause-counted c =
    let before : SpeakerValue = record { state = c.self.inside.core; routes_version = c.self.inside.routes; snapshot_version = c.self.inside.snapshot } in
    let after : SpeakerValue = record { state = c.raise.new.self; routes_version = c.self.inside.routes; snapshot_version = c.counted-self-inside.result } in
    counts_from before c.args.self.now after c.self.view_is
    (counts before after false true (not_counted c.self.inside.routes) (record { grows = c.counted-self-inside.ensures.grows; counted = c.counted-self-inside.ensures.counted })
    (λ _. raised_routes c.self.inside.core c.raise.new.self c.raise.ensures) (λ is. never is))

pub returns-clause-routes : goal.returns-clause-routes
returns-clause-routes c =
    let before : SpeakerValue = record { state = c.self.inside.core; routes_version = c.self.inside.routes; snapshot_version = c.self.inside.snapshot } in
    let after : SpeakerValue = record { state = c.raise.new.self; routes_version = c.self.inside.routes; snapshot_version = c.counted-self-inside.result } in
    counts_routes before c.args.self.now after c.self.view_is (λ _. refl) (omega arith)

pub returns-clause-snapshots : goal.returns-clause-snapshots
returns-clause-snapshots c =
    let before : SpeakerValue = record { state = c.self.inside.core; routes_version = c.self.inside.routes; snapshot_version = c.self.inside.snapshot } in
    let after : SpeakerValue = record { state = c.raise.new.self; routes_version = c.self.inside.routes; snapshot_version = c.counted-self-inside.result } in
    counts_snapshots before c.args.self.now after c.self.view_is (λ same. absurd (raised_snapshot c.self.inside.core c.raise.new.self c.raise.ensures same)) c.counted-self-inside.ensures.step
