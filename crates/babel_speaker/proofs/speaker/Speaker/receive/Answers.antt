-- The snapshot changes by a datagram only if the own seqno grows.
use Rattle.std.proofs.Common.{sym, subst, ◌∙◌}
use Rattle.babel_state.specs.Invariants.{IsWellFormed}
use Rattle.babel_state.specs.Messages.{arrival_of}
use Rattle.babel_speaker.proofs.CallLaws.{received_moves, received_current}
use Rattle.babel_speaker.specs.Versions.{SpeakerValue}
use Rattle.babel_speaker.proofs.Counting.{counts, counts_from, counts_snapshots, state_of}
use Rattle.babel_speaker.proofs.Snapshots.{received_snapshot, same_seqno, same_raises}
use Rattle.babel_speaker.proofs.speaker.Speaker.receive.Goals as goal

pub invariant_of-self : goal.invariant_of-self
invariant_of-self c = (subst IsWellFormed (sym c.in-Err.ensures.unchanged) c.self.invariant.0, c.receive.ensures.current)

pub returns-clause-moves : goal.returns-clause-moves
returns-clause-moves c =
    received_moves _ (arrival_of c.args.now (record { iface = c.args.iface; addr = c.args.source }) c.args.octets.now) c.args.self.now.state c.self.inside.core c.receive.new.core
    c.calls_move.ensures.datagrams c.decoded_are_encodable.ensures (state_of _ _ c.self.view_is) c.in-Ok.ensures.ok c.self.invariant.0

pub returns-clause-current : goal.returns-clause-current
returns-clause-current c =
    received_current _ (arrival_of c.args.now (record { iface = c.args.iface; addr = c.args.source }) c.args.octets.now) c.args.self.now.state c.self.inside.core c.receive.new.core
    c.selections_stay_current.ensures.datagrams (state_of _ _ c.self.view_is) c.in-Ok.ensures.ok c.self.invariant.0

pub returns-clause-counted : goal.returns-clause-counted
returns-clause-counted c =
    let before : SpeakerValue = record { state = c.self.inside.core; routes_version = c.self.inside.routes; snapshot_version = c.self.inside.snapshot } in
    let after : SpeakerValue = record { state = c.receive.new.core; routes_version = c.counted-self-inside.result; snapshot_version = c.counted-self-inside-2.result } in
    counts_from before c.args.self.now after c.self.view_is
    (counts before after c.receive.new.hints.changed c.has_grown.result (record { grows = c.counted-self-inside.ensures.grows; counted = c.counted-self-inside.ensures.counted })
    (record { grows = c.counted-self-inside-2.ensures.grows; counted = c.counted-self-inside-2.ensures.counted }) c.receive.ensures.kept
    (λ same. received_snapshot (arrival_of c.args.now (record { iface = c.args.iface; addr = c.args.source }) c.args.octets.now) c.self.inside.core c.receive.new.core _ c.in-Ok.ensures.ok (c.has_grown.ensures.seqno same ∙ c.own_seqno-seqno.ensures.seqno) (c.has_grown.ensures.raises same ∙ c.own_seqno-seqno.ensures.raises)))

pub returns-clause-snapshots : goal.returns-clause-snapshots
returns-clause-snapshots c =
    let before : SpeakerValue = record { state = c.self.inside.core; routes_version = c.self.inside.routes; snapshot_version = c.self.inside.snapshot } in
    let after : SpeakerValue = record { state = c.receive.new.core; routes_version = c.counted-self-inside.result; snapshot_version = c.counted-self-inside-2.result } in
    counts_snapshots before c.args.self.now after c.self.view_is
    (λ same. c.counted-self-inside-2.ensures.kept (c.has_grown.ensures.same
    (same_seqno c.self.inside.core c.receive.new.core same ∙ sym c.own_seqno-seqno.ensures.seqno)
    (same_raises c.self.inside.core c.receive.new.core same ∙ sym c.own_seqno-seqno.ensures.raises)))
    c.counted-self-inside-2.ensures.step
