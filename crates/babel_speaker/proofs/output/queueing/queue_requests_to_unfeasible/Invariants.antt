-- What is queued from here on leaves what all requests leave. As long as no route is unfeasible, nothing is queued.
use Rattle.std.proofs.Common.{◌≡◌, ◌||◌, false, map, filter}
use Rattle.std.specs.List.{list_any}
use Rattle.babel_choice.specs.Choices.{routes_of}
use Rattle.babel_state.specs.Queueing.{queued}
use Rattle.babel_state.specs.Reselection.{request_items}
use Rattle.babel_speaker.specs.Feasibility.{is_unfeasible_to}
use Rattle.babel_speaker.proofs.output.queueing.queue_requests_to_unfeasible.Given as goal

abbrev pub invariant-loop-route : goal.invariant-loop-route
invariant-loop-route l = record {
  items :
      queued (request_items l.request.source l.request.seqno l.request.hops (map (λ r. r.0.peer) (filter (is_unfeasible_to l.request.source.prefix l.sources) l.route-iterator))) l.pending
      ≡ queued (request_items l.request.source l.request.seqno l.request.hops (map (λ r. r.0.peer) (filter (is_unfeasible_to l.request.source.prefix l.sources) (routes_of l.request.source.prefix l.routes.entries)))) l.fn.pending;
  found : (l.found || list_any (is_unfeasible_to l.request.source.prefix l.sources) l.route-iterator) ≡ list_any (is_unfeasible_to l.request.source.prefix l.sources) (routes_of l.request.source.prefix l.routes.entries);
  none : l.found ≡ false → l.pending ≡ l.fn.pending;
}
