-- The snapshot changes by a datagram only if the own seqno grows.
use Rattle.std.specs.Prelude.{◌≡◌, List, Ok}
use Rattle.std.proofs.Common.{sym, subst, ◌∙◌}
use Rattle.babel_value.specs.declared.addresses.Addr.{Addr}
use Rattle.babel_message.specs.declared.placements.Placed.{Placed}
use Rattle.babel_packet.specs.Meaning.{messages_of}
use Rattle.babel_state.specs.Invariants.{IsWellFormed}
use Rattle.babel_state.specs.SeenLaws.{AreEncodable, MovesByDatagram}
use Rattle.babel_speaker.proofs.CallLaws.{CanDecode, can_decode, received_moves, received_current}
use Rattle.babel_speaker.specs.Versions.{SpeakerValue}
use Rattle.babel_speaker.proofs.Counting.{counts, counts_from, counts_snapshots, state_of}
use Rattle.babel_speaker.proofs.Snapshots.{received_snapshot, same_seqno, same_raises}
use Rattle.babel_speaker.proofs.speaker.Speaker.receive_decoded.Goals as goal

encodable : (placed decoded : List Placed) → placed ≡ decoded → AreEncodable (messages_of decoded) → CanDecode (Ok placed)
encodable placed decoded is can = can_decode placed (subst (λ (p : List Placed). AreEncodable (messages_of p)) (sym is) can)

pub invariant_of-self : goal.invariant_of-self
invariant_of-self c = (subst IsWellFormed (sym c.in-Err.ensures.unchanged) c.self.invariant.0, c.receive_decoded.ensures.current)

pub returns-clause-moves : goal.returns-clause-moves
returns-clause-moves c =
    let old = c.args.self.now.state in
    let new = c.receive_decoded.new.core in
    subst (λ (a : Addr). MovesByDatagram (record { iface = c.args.iface; addr = a }) (Ok c.args.decoded.now.placed) old new) c.source-source.ensures
    (subst (λ (p : List Placed). MovesByDatagram (record { iface = c.args.iface; addr = c.source-source.result }) (Ok p) old new) c.placed-placed.ensures
    (received_moves _ (record { now = c.args.now; peer = record { iface = c.args.iface; addr = c.source-source.result }; read = Ok c.placed-placed.result.now }) old c.self.inside.core new
    c.calls_move.ensures.datagrams (encodable _ _ c.placed-placed.ensures c.is_encodable_again.ensures) (state_of _ _ c.self.view_is) c.in-Ok.ensures.ok c.self.invariant.0))

pub returns-clause-current : goal.returns-clause-current
returns-clause-current c =
    received_current _ (record { now = c.args.now; peer = record { iface = c.args.iface; addr = c.source-source.result }; read = Ok c.placed-placed.result.now }) c.args.self.now.state c.self.inside.core c.receive_decoded.new.core
    c.selections_stay_current.ensures.datagrams (state_of _ _ c.self.view_is) c.in-Ok.ensures.ok c.self.invariant.0

pub returns-clause-counted : goal.returns-clause-counted
returns-clause-counted c =
    let before : SpeakerValue = record { state = c.self.inside.core; routes_version = c.self.inside.routes; snapshot_version = c.self.inside.snapshot } in
    let after : SpeakerValue = record { state = c.receive_decoded.new.core; routes_version = c.counted-self-inside.result; snapshot_version = c.counted-self-inside-2.result } in
    counts_from before c.args.self.now after c.self.view_is
    (counts before after c.receive_decoded.new.hints.changed c.has_grown.result (record { grows = c.counted-self-inside.ensures.grows; counted = c.counted-self-inside.ensures.counted })
    (record { grows = c.counted-self-inside-2.ensures.grows; counted = c.counted-self-inside-2.ensures.counted }) c.receive_decoded.ensures.kept
    (λ same. received_snapshot (record { now = c.args.now; peer = record { iface = c.args.iface; addr = c.source-source.result }; read = Ok c.placed-placed.result.now }) c.self.inside.core c.receive_decoded.new.core _ c.in-Ok.ensures.ok (c.has_grown.ensures.seqno same ∙ c.own_seqno-seqno.ensures.seqno) (c.has_grown.ensures.raises same ∙ c.own_seqno-seqno.ensures.raises)))

pub returns-clause-snapshots : goal.returns-clause-snapshots
returns-clause-snapshots c =
    let before : SpeakerValue = record { state = c.self.inside.core; routes_version = c.self.inside.routes; snapshot_version = c.self.inside.snapshot } in
    let after : SpeakerValue = record { state = c.receive_decoded.new.core; routes_version = c.counted-self-inside.result; snapshot_version = c.counted-self-inside-2.result } in
    counts_snapshots before c.args.self.now after c.self.view_is
    (λ same. c.counted-self-inside-2.ensures.kept (c.has_grown.ensures.same
    (same_seqno c.self.inside.core c.receive_decoded.new.core same ∙ sym c.own_seqno-seqno.ensures.seqno)
    (same_raises c.self.inside.core c.receive_decoded.new.core same ∙ sym c.own_seqno-seqno.ensures.raises)))
    c.counted-self-inside-2.ensures.step
