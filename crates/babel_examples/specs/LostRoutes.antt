-- Routes that become unfeasible, and routes in the edge case of the seqno order (examples; profile).
use Rattle.std.specs.Prelude.{ℕ, ◌+◌, [], ◌∷◌, Option}
use Rattle.std.specs.Option.{option_map}
use Rattle.babel_value.specs.declared.keys.Peer.{Peer}
use Rattle.babel_message.specs.declared.messages.Message.TheVariants as messages
use Rattle.babel_choice.specs.declared.entries.Selection.{Selection}
use Rattle.babel_choice.specs.Routes.{Route, RouteEntries, key_of}
use Rattle.babel_route.specs.Selections.{choice_at}
use Rattle.babel_state.specs.declared.requests.Resend.TheVariants.{Unfeasible}
use Rattle.babel_state.specs.PendingRequests.{PendingRequests}
use Rattle.babel_state.specs.State.{State, announces, cost_at, selected_at}
use Rattle.babel_state.specs.declared.items.Item.{Item}
use Rattle.babel_state.specs.declared.items.Item.TheVariants as items
use Rattle.babel_state.specs.Ticks.{requests_ticked}
use Rattle.babel_examples.specs.ExampleStates.{router, addr, peer, pair, ten, ten_of, meshed, with_pending, update, after, datagram, sent}

-- Whose route to 10.0.0.0/8 is selected.
abbrev pub selected_peer : State → Option Peer
selected_peer s = option_map (λ c. c.peer) (selected_at ten s)

-- What a reselection would choose now.
abbrev pub best_route : State → Option Selection
best_route s = choice_at s.sources (cost_at s) ten (announces ten s) s.routes

abbrev pub route_of : ℕ → ℕ → ℕ → ℕ → Selection
route_of n seqno metric now = record {
  peer = peer n;
  entry = record { router = router 1; distance = pair seqno metric; next_hop = addr n; interval = 1600; deadline = now + 5600 };
}

-- Neighbour 1's route (5, 0) is selected and was advertised to all with metric 96.
abbrev pub updated_5 : State
updated_5 = sent 0 (after 0 1 (update 1 1 5 0) meshed)

-- Neighbour 3 has a feasible route too, with a greater metric.
abbrev pub with_other : State
with_other = after 10 3 (update 3 1 5 50) updated_5

-- Neighbour 1 advertises metric 96, which isn't better than what was advertised here: with another candidate, and without.
abbrev pub changed : State
changed = after 20 1 (update 1 1 5 96) with_other

abbrev pub lost : State
lost = after 20 1 (update 1 1 5 96) updated_5

-- What was queued is gone, the request is pending.
abbrev pub waiting : State
waiting = with_pending [] lost

-- The ticks at which it is due.
abbrev pub repeated_once : State
repeated_once = requests_ticked 220 waiting

abbrev pub repeated_twice : State
repeated_twice = requests_ticked 620 repeated_once

abbrev pub repeated_thrice : State
repeated_thrice = requests_ticked 1420 repeated_twice

abbrev pub given_up : State
given_up = requests_ticked 3020 repeated_thrice

-- A route of neighbour n to 10.0.0.0/8 that is no better than what was sent: (5, 96).
abbrev pub unfeasible : ℕ → Route
unfeasible n = (key_of ten (peer n), (route_of n 5 96 20).entry)

-- With these routes, none of them selected, and nothing pending.
abbrev pub starved : RouteEntries → State
starved es = record meshed {
  sources = (ten_of 1, record { distance = pair 5 96; due = 18000 }) ∷ [];
  routes = record { entries = es; selections = [] };
}

-- Neighbour 3's route is selected.
abbrev pub with_selected : State
with_selected = record (starved (unfeasible 1 ∷ [])) { routes = record { entries = unfeasible 1 ∷ []; selections = (ten, route_of 3 5 50 20) ∷ [] } }

-- Neighbour 3's route of router 4, which advertises this metric, is selected.
abbrev pub gateway : ℕ → Selection
gateway metric = record {
  peer = peer 3;
  entry = record { router = router 4; distance = pair 0 metric; next_hop = addr 3; interval = 1600; deadline = 5620 };
}

abbrev pub with_gateway : ℕ → State
with_gateway metric = record (starved []) {
  routes = record { entries = unfeasible 1 ∷ (key_of ten (peer 3), (gateway metric).entry) ∷ []; selections = (ten, gateway metric) ∷ [] };
}

-- The request for them that is made at this moment.
abbrev pub new_request_of_6 : ℕ → PendingRequests
new_request_of_6 now = (ten_of 1, record { seqno = 6; resend = Unfeasible; wait = 200; due = now + 200 }) ∷ []

-- It is repeated to neighbour 1 with a whole hop count.
abbrev pub request_of_6 : Item
request_of_6 = items.Request (peer 1) (ten_of 1) 6 64

-- Neighbour 3 has an unfeasible route too.
abbrev pub both_lost : State
both_lost = after 20 1 (update 1 1 5 96) (after 10 3 (update 3 1 5 200) updated_5)

-- Neighbour 3 has a route of router 4 that is as good, and then neighbour 1 retracts.
abbrev pub tied : State
tied = after 10 3 (update 3 4 0 0) updated_5

abbrev pub other_router : State
other_router = after 20 1 (messages.Retraction ten 1600) tied

-- ---- the edge case: 0, 30000 and 60000 go round the circle

abbrev pub updated_0 : State
updated_0 = sent 0 (after 0 1 (update 1 1 0 10) meshed)

abbrev pub with_60000 : State
with_60000 = after 10 3 (update 3 1 60000 0) updated_0

-- Neighbour 1 advertises 30000, and neighbour 3 asks for it.
abbrev pub with_30000 : State
with_30000 = after 30 3 (messages.RouteRequest ten) (after 20 1 (update 1 1 30000 10) with_60000)

abbrev pub updated_30000 : State
updated_30000 = (datagram 30 with_30000).state
