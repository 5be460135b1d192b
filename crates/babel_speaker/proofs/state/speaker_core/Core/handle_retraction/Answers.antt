-- A retraction changes an entry of its neighbour, and the new selection of its prefix is like the old one.
use Rattle.std.proofs.Common.{IsTrue, ap, subst}
use Rattle.babel_state.specs.State.{State, cost_at, selected_at}
use Rattle.babel_state.proofs.KeptRoutes.{parts_routes, routes_through}
use Rattle.babel_speaker.proofs.LinkChanges.{retracted_but}
use Rattle.babel_speaker.proofs.state.speaker_core.Core.handle_retraction.Goals as goal

pub reselect_retracted-report-requires : goal.reselect_retracted-report-requires
reselect_retracted-report-requires c =
    record {
      others = λ settled. retracted_but c.args.now c.args.peer.now c.args.prefix.now c.args.self.now c.store_retraction.new.self c.store_retraction.ensures.state (c.requires.settled (subst IsTrue c.store_retraction.ensures.settled settled)) c.args.prefix.now;
    }

pub returns-then-store_retraction-clause-kept : goal.returns-then-store_retraction-clause-kept
returns-then-store_retraction-clause-kept c same =
    routes_through _ _ _
    (parts_routes c.args.self.now c.store_retraction.new.self (λ prefix. ap (λ (s : State). selected_at prefix s) c.store_retraction.ensures.state) (ap cost_at c.store_retraction.ensures.state))
    (c.reselect_retracted-report.ensures.kept (c.is_other-hints.ensures.other same))
