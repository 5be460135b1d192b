-- Seqno Requests for an own prefix and for a route (examples; profile).
use Rattle.std.specs.Prelude.{[], ◌∷◌}
use Rattle.babel_state.specs.State.{State}
use Rattle.babel_examples.specs.ExampleStates.{peer, ten, start, up_link, seqno_request, after}
use Rattle.babel_examples.specs.LostRoutes.{updated_5}

-- 10.0.0.0/8 is announced here, with seqno 0, and neighbour 1 is there.
abbrev pub own : State
own = record start { announced = (ten, tt) ∷ []; neighbours = (peer 1, up_link) ∷ [] }

-- It asks for 100 once, then twice, and then for 2.
abbrev pub requested_once : State
requested_once = after 0 1 (seqno_request 2 100 64) own

abbrev pub requested_twice : State
requested_twice = after 1 1 (seqno_request 2 100 64) requested_once

abbrev pub asked_for_2 : State
asked_for_2 = after 2 1 (seqno_request 2 2 64) requested_twice

-- Neighbour 3 asks for 7 of the router whose route (5, 0) over neighbour 1 is selected.
abbrev pub forwarded : State
forwarded = after 100 3 (seqno_request 1 7 64) updated_5
