-- No route so far is feasible and may be used; the first of those that may be used is kept.
use Rattle.std.proofs.Common.{◌≡◌, Some, filter}
use Rattle.std.specs.Option.{option_map_or}
use Rattle.babel_choice.specs.Choices.{routes_of, is_feasible_route}
use Rattle.babel_state.specs.SeqnoRequests.{is_passable, first_peer}
use Rattle.babel_speaker.proofs.input.request_receivers.receiver.Given as goal

abbrev pub invariant-loop-route : goal.invariant-loop-route
invariant-loop-route l =
    option_map_or Some (first_peer (filter (is_feasible_route l.sources) (filter (is_passable l.asker) l.route-iterator))) (option_map_or Some l.first (first_peer (filter (is_passable l.asker) l.route-iterator)))
    ≡ option_map_or Some (first_peer (filter (is_feasible_route l.sources) (filter (is_passable l.asker) (routes_of l.prefix l.routes.entries)))) (first_peer (filter (is_passable l.asker) (routes_of l.prefix l.routes.entries)))
