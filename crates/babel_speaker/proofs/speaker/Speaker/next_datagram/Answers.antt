-- What is seen of the speaker is its core, and the counts show what may have changed.
use Rattle.std.specs.Prelude.{false}
use Rattle.std.proofs.Common.{refl, sym, subst, ◌∙◌, arith}
use Rattle.babel_state.specs.CurrentSelections.{KeepsSelections}
use Rattle.babel_state.specs.KeptRoutes.{KeepsRoutes}
use Rattle.babel_state.proofs.SendingLaws.{sending_known}
use Rattle.babel_state.proofs.DatagramsSent.{selected_kept}
use Rattle.babel_speaker.specs.Versions.{SpeakerValue}
use Rattle.babel_speaker.proofs.CallLaws.{through, sent_if, unseen_if, means_if, none_through, half_through}
use Rattle.babel_speaker.proofs.Counting.{counts, counts_from, counts_nothing, counts_routes, not_counted, state_of}
use Rattle.babel_speaker.proofs.NoDatagrams.{kept_state, no_target, silent}
use Rattle.babel_speaker.proofs.speaker.Speaker.next_datagram.Goals as goal

pub returns-clause-octets : goal.returns-clause-octets
returns-clause-octets c =
    means_if c.next_datagram-target.result c.args.now c.args.self.now.state c.self.inside.core c.next_datagram-target.new.out.items
    c.items_mean_messages.ensures.datagrams (state_of _ _ c.self.view_is) c.self.invariant.0 c.next_datagram-target.ensures.octets

pub returns-clause-sends : goal.returns-clause-sends
returns-clause-sends c =
    sent_if c.next_datagram-target.result c.args.now c.args.self.now.state c.self.inside.core c.next_datagram-target.new.core
    c.datagrams_send.ensures.sent (state_of _ _ c.self.view_is) c.next_datagram-target.ensures.target c.next_datagram-target.ensures.state c.self.invariant.0

pub returns-clause-unseen : goal.returns-clause-unseen
returns-clause-unseen c =
    unseen_if c.next_datagram-target.result c.args.now c.args.self.now.state c.self.inside.core c.next_datagram-target.new.core
    c.datagrams_send.ensures.none (state_of _ _ c.self.view_is) c.next_datagram-target.ensures.target c.next_datagram-target.ensures.state

pub returns-clause-none : goal.returns-clause-none
returns-clause-none c = none_through c.next_datagram-target.result c.args.self.now.state c.self.inside.core (state_of _ _ c.self.view_is) c.self.invariant.0 c.next_datagram-target.ensures.none

pub returns-clause-selections : goal.returns-clause-selections
returns-clause-selections c =
    through KeepsSelections c.args.self.now.state c.self.inside.core c.next_datagram-target.new.core _ (state_of _ _ c.self.view_is) c.next_datagram-target.ensures.state
    (c.selections_stay_current.ensures.sending c.args.now _ c.self.inside.core c.self.invariant.0)

pub returns-clause-kept : goal.returns-clause-kept
returns-clause-kept c =
    through KeepsRoutes c.args.self.now.state c.self.inside.core c.next_datagram-target.new.core _ (state_of _ _ c.self.view_is) c.next_datagram-target.ensures.state
    (selected_kept c.self.inside.core _ (sending_known c.args.now _ c.self.inside.core))

pub returns-clause-half : goal.returns-clause-half
returns-clause-half c =
    half_through c.args.now c.args.self.now.state c.self.inside.core c.next_datagram-target.new.core
    c.selections_stay_current.ensures.half (state_of _ _ c.self.view_is) c.next_datagram-target.ensures.state c.self.invariant.0

pub returns-clause-counted : goal.returns-clause-counted
returns-clause-counted c =
    let before : SpeakerValue = record { state = c.self.inside.core; routes_version = c.self.inside.routes; snapshot_version = c.self.inside.snapshot } in
    let after : SpeakerValue = record { state = c.next_datagram-target.new.core; routes_version = c.self.inside.routes; snapshot_version = c.counted-self-inside.result } in
    counts_from before c.args.self.now after c.self.view_is
    (counts before after false c.next_datagram-target.new.hints.lowered (not_counted c.self.inside.routes) (record { grows = c.counted-self-inside.ensures.grows; counted = c.counted-self-inside.ensures.counted })
    (λ _. subst (KeepsRoutes c.self.inside.core) (sym c.next_datagram-target.ensures.state) (selected_kept c.self.inside.core _ (sending_known c.args.now _ c.self.inside.core)))
    c.next_datagram-target.ensures.saved)

-- ---- nothing is pending

pub returns-then-pending-eq0-clause-state : goal.returns-then-pending-eq0-clause-state
returns-then-pending-eq0-clause-state c = kept_state c.args.now c.args.self.now.state c.self.inside.core (state_of _ _ c.self.view_is) (sym c.pending_count-pending.ensures.count ∙ c.if-pending-eq0.true)

pub returns-then-pending-eq0-clause-target : goal.returns-then-pending-eq0-clause-target
returns-then-pending-eq0-clause-target c = no_target c.args.now c.args.self.now.state c.self.inside.core (state_of _ _ c.self.view_is) (sym c.pending_count-pending.ensures.count ∙ c.if-pending-eq0.true)

pub returns-then-pending-eq0-clause-unseen : goal.returns-then-pending-eq0-clause-unseen
returns-then-pending-eq0-clause-unseen c = λ _. refl

pub returns-then-pending-eq0-clause-none : goal.returns-then-pending-eq0-clause-none
returns-then-pending-eq0-clause-none c = (λ _. silent c.args.self.now.state c.self.inside.core (state_of _ _ c.self.view_is) (sym c.pending_count-pending.ensures.count ∙ c.if-pending-eq0.true), λ _. refl)

pub returns-then-pending-eq0-clause-selections : goal.returns-then-pending-eq0-clause-selections
returns-then-pending-eq0-clause-selections c =
    subst (λ s. KeepsSelections s s) (state_of _ _ c.self.view_is) (subst (KeepsSelections c.self.inside.core) (sym (kept_state c.args.now c.self.inside.core c.self.inside.core refl (sym c.pending_count-pending.ensures.count ∙ c.if-pending-eq0.true)))
    (c.selections_stay_current.ensures.sending c.args.now _ c.self.inside.core c.self.invariant.0))

pub returns-then-pending-eq0-clause-kept : goal.returns-then-pending-eq0-clause-kept
returns-then-pending-eq0-clause-kept c = λ prefix. refl

pub returns-then-pending-eq0-clause-half : goal.returns-then-pending-eq0-clause-half
returns-then-pending-eq0-clause-half c = λ first prefix half current. current

pub returns-then-pending-eq0-clause-counted : goal.returns-then-pending-eq0-clause-counted
returns-then-pending-eq0-clause-counted c = counts_nothing c.args.self.now c.args.self.now refl

pub returns-then-pending-eq0-clause-routes : goal.returns-then-pending-eq0-clause-routes
returns-then-pending-eq0-clause-routes c = record { kept = λ _. refl; step = omega arith }

-- ---- the count of routes

pub returns-clause-routes : goal.returns-clause-routes
returns-clause-routes c =
    let before : SpeakerValue = record { state = c.self.inside.core; routes_version = c.self.inside.routes; snapshot_version = c.self.inside.snapshot } in
    let after : SpeakerValue = record { state = c.next_datagram-target.new.core; routes_version = c.self.inside.routes; snapshot_version = c.counted-self-inside.result } in
    counts_routes before c.args.self.now after c.self.view_is (λ _. refl) (omega arith)
