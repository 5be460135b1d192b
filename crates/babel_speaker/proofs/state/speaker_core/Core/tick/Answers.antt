-- Of what a tick does only Hellos, IHUs and routes that are due may change a selected route.
use Rattle.babel_state.proofs.KeptRoutes.{routes_through}
use Rattle.babel_speaker.proofs.RoutesKept.{timed_routes}
use Rattle.babel_speaker.proofs.SnapshotsKept.{unsaid, tick_snapshot, collected_snapshot, if_not}
use Rattle.babel_speaker.proofs.state.speaker_core.Core.tick.Goals as goal

pub returns-clause-kept : goal.returns-clause-kept
returns-clause-kept c same =
    routes_through c.args.self.now _ _ (c.tick_selections-hints.ensures.kept same)
    (timed_routes c.args.now _ _ _ _ c.tick_requests.ensures c.tick_interfaces.ensures c.tick_sources-collected.ensures.state)

-- If it collects nothing, it leaves the snapshot as it is.
pub returns-clause-saved : goal.returns-clause-saved
returns-clause-saved c settled =
    tick_snapshot c.args.now c.args.self.now _ _ _ _ c.tick_selections-hints.ensures.state c.tick_requests.ensures c.tick_interfaces.ensures
    (c.tick_sources-collected.ensures.quiet (unsaid c.tick_sources-collected.result settled))

pub returns-clause-exact : goal.returns-clause-exact
returns-clause-exact c same =
    if_not c.tick_sources-collected.result (λ removed.
    collected_snapshot c.args.now c.args.self.now _ _ _ _ c.tick_selections-hints.ensures.state c.tick_requests.ensures c.tick_interfaces.ensures
    (c.tick_sources-collected.ensures.removed removed) same)
