use Rattle.babel_state.specs.Seen.{seen}
use Rattle.babel_state.specs.SeenLaws.{MovesAlone}
use Rattle.std.specs.Prelude.{◌≡◌, false}
use Rattle.babel_state.specs.CurrentSelections.{AreCurrent}
use Rattle.babel_state.specs.State.{State}
use Rattle.babel_speaker.proofs.CallLaws.{through}
use Rattle.babel_speaker.proofs.Counting.{counts_snapshots, state_of, is_not}
use Rattle.babel_speaker.specs.Versions.{SpeakerValue}
use Rattle.babel_speaker.proofs.speaker.Speaker.tick.Goals as goal

pub returns-clause-moves : goal.returns-clause-moves
returns-clause-moves c =
    through (λ o t. MovesAlone 0 (seen o).announces o t) c.args.self.now.state c.self.inside.core c.tick.new.self _ (state_of _ _ c.self.view_is) c.tick.ensures.state
    (c.calls_move.ensures.tick c.args.now c.self.inside.core c.self.invariant.0)

pub returns-clause-current : goal.returns-clause-current
returns-clause-current c =
    through (λ (o t : State). o.collects ≡ false → AreCurrent t) c.args.self.now.state c.self.inside.core c.tick.new.self _ (state_of _ _ c.self.view_is) c.tick.ensures.state
    (λ off. c.selections_are_current.ensures.tick c.args.now c.self.inside.core off c.self.invariant.0.tables.routes.entries_in_order)

pub returns-clause-snapshots : goal.returns-clause-snapshots
returns-clause-snapshots c =
    let before : SpeakerValue = record { state = c.self.inside.core; routes_version = c.self.inside.routes; snapshot_version = c.self.inside.snapshot } in
    let after : SpeakerValue = record { state = c.tick.new.self; routes_version = c.counted-self-inside.result; snapshot_version = c.counted-self-inside-2.result } in
    counts_snapshots before c.args.self.now after c.self.view_is (λ same. c.counted-self-inside-2.ensures.kept (is_not c.tick.new.hints.settled (c.tick.ensures.exact same))) c.counted-self-inside-2.ensures.step
