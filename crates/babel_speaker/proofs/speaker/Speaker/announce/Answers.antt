-- A selected route may have changed by it, and the snapshot has not.
use Rattle.std.specs.Prelude.{false}
use Rattle.std.proofs.Common.{refl, sym, subst, arith}
use Rattle.babel_state.specs.Invariants.{IsWellFormed}
use Rattle.babel_state.specs.Seen.{seen, announcing_also}
use Rattle.babel_state.specs.SeenLaws.{MovesAlone}
use Rattle.babel_state.specs.CurrentSelections.{AreCurrent, KeepsCurrent}
use Rattle.babel_speaker.specs.Versions.{SpeakerValue}
use Rattle.babel_speaker.proofs.CallLaws.{through, false_if_ok}
use Rattle.babel_speaker.proofs.Counting.{counts, counts_from, counts_routes, counts_snapshots, not_counted, state_of}
use Rattle.babel_speaker.proofs.Snapshots.{announced_snapshot}
use Rattle.babel_speaker.proofs.speaker.Speaker.announce.Goals as goal

pub invariant_of-self : goal.invariant_of-self
invariant_of-self c = (
  subst IsWellFormed (sym c.in-Ok.ensures.ok)
      (c.states_are_well_formed.ensures.announce c.args.prefix c.self.inside.core (false_if_ok c.announce.result _ _ c.announce.ensures.full c.in-Ok.is) c.self.invariant.0),
  λ settled. subst AreCurrent (sym c.in-Ok.ensures.ok)
      (λ prefix. c.selections_stay_current.ensures.announce c.args.prefix c.self.inside.core c.self.invariant.0.tables.routes.entries_in_order prefix (c.self.invariant.1 settled prefix)),
)

pub returns-in-Ok-clause-moves : goal.returns-in-Ok-clause-moves
returns-in-Ok-clause-moves c =
    through (λ o t. MovesAlone 0 (announcing_also c.args.prefix (seen o)) o t) c.args.self.now.state c.self.inside.core c.announce.new.core _ (state_of _ _ c.self.view_is) c.in-Ok.ensures.ok
    (c.calls_move.ensures.announce c.args.prefix c.self.inside.core (false_if_ok c.announce.result _ _ c.announce.ensures.full c.in-Ok.is) c.self.invariant.0)

pub returns-in-Ok-clause-current : goal.returns-in-Ok-clause-current
returns-in-Ok-clause-current c =
    through KeepsCurrent c.args.self.now.state c.self.inside.core c.announce.new.core _ (state_of _ _ c.self.view_is) c.in-Ok.ensures.ok
    (c.selections_stay_current.ensures.announce c.args.prefix c.self.inside.core c.self.invariant.0.tables.routes.entries_in_order)

pub returns-in-Ok-clause-counted : goal.returns-in-Ok-clause-counted
returns-in-Ok-clause-counted c =
    let before : SpeakerValue = record { state = c.self.inside.core; routes_version = c.self.inside.routes; snapshot_version = c.self.inside.snapshot } in
    let after : SpeakerValue = record { state = c.announce.new.core; routes_version = c.counted-self-inside.result; snapshot_version = c.self.inside.snapshot } in
    counts_from before c.args.self.now after c.self.view_is
    (counts before after c.is_other.result false (record { grows = c.counted-self-inside.ensures.grows; counted = c.counted-self-inside.ensures.counted }) (not_counted c.self.inside.snapshot)
    (λ same. c.in-Ok.ensures.kept (c.is_other.ensures.other same)) (λ _. announced_snapshot c.args.prefix c.self.inside.core c.announce.new.core c.in-Ok.ensures.ok))

pub returns-in-Ok-clause-routes : goal.returns-in-Ok-clause-routes
returns-in-Ok-clause-routes c =
    let before : SpeakerValue = record { state = c.self.inside.core; routes_version = c.self.inside.routes; snapshot_version = c.self.inside.snapshot } in
    let after : SpeakerValue = record { state = c.announce.new.core; routes_version = c.counted-self-inside.result; snapshot_version = c.self.inside.snapshot } in
    counts_routes before c.args.self.now after c.self.view_is (λ same. c.counted-self-inside.ensures.kept (c.is_other.ensures.alike (c.in-Ok.ensures.exact same))) c.counted-self-inside.ensures.step

pub returns-in-Ok-clause-snapshots : goal.returns-in-Ok-clause-snapshots
returns-in-Ok-clause-snapshots c =
    let before : SpeakerValue = record { state = c.self.inside.core; routes_version = c.self.inside.routes; snapshot_version = c.self.inside.snapshot } in
    let after : SpeakerValue = record { state = c.announce.new.core; routes_version = c.counted-self-inside.result; snapshot_version = c.self.inside.snapshot } in
    counts_snapshots before c.args.self.now after c.self.view_is (λ _. refl) (omega arith)
