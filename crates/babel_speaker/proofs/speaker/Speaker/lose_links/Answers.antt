-- A selected route may have changed by it, and the snapshot has not.
use Rattle.std.specs.Prelude.{false}
use Rattle.std.proofs.Common.{refl, sym, subst, arith}
use Rattle.babel_state.specs.CurrentSelections.{KeepsCurrent}
use Rattle.babel_state.specs.Invariants.{IsWellFormed}
use Rattle.babel_state.specs.Seen.{seen}
use Rattle.babel_state.specs.SeenLaws.{MovesAlone}
use Rattle.babel_speaker.specs.Versions.{SpeakerValue}
use Rattle.babel_speaker.proofs.CallLaws.{through}
use Rattle.babel_speaker.proofs.Counting.{counts, counts_from, counts_snapshots, not_counted, state_of}
use Rattle.babel_speaker.proofs.Snapshots.{lost_snapshot}
use Rattle.babel_speaker.proofs.speaker.Speaker.lose_links.Goals as goal

pub invariant_of-self : goal.invariant_of-self
invariant_of-self c = (
  subst IsWellFormed (sym c.lose_links.ensures.state) (c.states_are_well_formed.ensures.lose_links c.args.now c.args.iface c.self.inside.core c.self.invariant.0),
  c.lose_links.ensures.current,
)

pub returns-clause-moves : goal.returns-clause-moves
returns-clause-moves c =
    through (λ o t. MovesAlone 0 (seen o).announces o t) c.args.self.now.state c.self.inside.core c.lose_links.new.core _ (state_of _ _ c.self.view_is) c.lose_links.ensures.state
    (c.calls_move.ensures.lose_links c.args.now c.args.iface c.self.inside.core c.self.invariant.0)

pub returns-clause-current : goal.returns-clause-current
returns-clause-current c =
    through KeepsCurrent c.args.self.now.state c.self.inside.core c.lose_links.new.core _ (state_of _ _ c.self.view_is) c.lose_links.ensures.state
    (c.selections_stay_current.ensures.lose_links c.args.now c.args.iface c.self.inside.core c.self.invariant.0.tables.routes.entries_in_order)

pub returns-clause-counted : goal.returns-clause-counted
returns-clause-counted c =
    let before : SpeakerValue = record { state = c.self.inside.core; routes_version = c.self.inside.routes; snapshot_version = c.self.inside.snapshot } in
    let after : SpeakerValue = record { state = c.lose_links.new.core; routes_version = c.counted-self-inside.result; snapshot_version = c.self.inside.snapshot } in
    counts_from before c.args.self.now after c.self.view_is
    (counts before after c.lose_links.new.hints.changed false (record { grows = c.counted-self-inside.ensures.grows; counted = c.counted-self-inside.ensures.counted }) (not_counted c.self.inside.snapshot)
    c.lose_links.ensures.kept (λ _. lost_snapshot c.args.now c.args.iface c.self.inside.core c.lose_links.new.core c.lose_links.ensures.state))

pub returns-clause-snapshots : goal.returns-clause-snapshots
returns-clause-snapshots c =
    let before : SpeakerValue = record { state = c.self.inside.core; routes_version = c.self.inside.routes; snapshot_version = c.self.inside.snapshot } in
    let after : SpeakerValue = record { state = c.lose_links.new.core; routes_version = c.counted-self-inside.result; snapshot_version = c.self.inside.snapshot } in
    counts_snapshots before c.args.self.now after c.self.view_is (λ _. refl) (omega arith)
