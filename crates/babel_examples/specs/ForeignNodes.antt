-- Two speakers of ours, and a router of others that sends to each of them what it likes (examples; profile). All are on one
-- link. Ours have the router-ids and last octets 2 and 3, and the other one has the address 192.168.0.1.
use Rattle.std.specs.Prelude.{[], ◌∷◌, Option, Some}
use Rattle.std.specs.Option.{option_map}
use Rattle.babel_value.specs.declared.addresses.Addr.{Addr}
use Rattle.babel_message.specs.declared.messages.Message.{Message}
use Rattle.babel_message.specs.declared.messages.Message.TheVariants as messages
use Rattle.babel_state.specs.State.{State, selected_at}
use Rattle.babel_state.specs.NextDatagram.{Draft}
use Rattle.babel_examples.specs.ExampleStates.{router, addr, peer, ten, start, interface, up_link, meshed, update, after, datagram, sent}

-- Speaker 3. Speaker 2 is `meshed`.
abbrev pub third : State
third = record start {
  router = router 3;
  interfaces = record (interface 0) { ipv4 = Some (192 ∷ 168 ∷ 0 ∷ 3 ∷ [], 24) } ∷ [];
  neighbours = (peer 1, up_link) ∷ (peer 2, up_link) ∷ [];
}

abbrev pub retraction : Message
retraction = messages.Retraction ten 1600

abbrev pub asked_for_route : Message
asked_for_route = messages.RouteRequest ten

-- The next hop of the selected route to 10.0.0.0/8.
abbrev pub selected_hop : State → Option Addr
selected_hop s = option_map (λ c. c.entry.next_hop) (selected_at ten s)

-- ---- around the circle: 2 hears 40,000 and then 0, and 3 hears 20,000

abbrev pub at_40000 : State
at_40000 = after 0 1 (update 1 9 40000 0) meshed

abbrev pub at_0 : State
at_0 = after 2 1 (update 1 9 0 0) (sent 1 (after 1 1 retraction (sent 0 at_40000)))

abbrev pub at_20000 : State
at_20000 = after 0 1 (update 1 9 20000 0) third

-- Both routes are retracted, and then each hears what the other one sent, the first of 2's updates late.
abbrev pub over_3 : State
over_3 = after 4 3 (update 3 9 20000 96) (sent 3 (after 3 1 retraction (sent 2 at_0)))

abbrev pub over_2 : State
over_2 = after 4 2 (update 2 9 40000 96) (sent 3 (after 3 1 retraction (sent 2 at_20000)))

-- ---- next hops of ours: 2 hears of a next hop that is 3, and 3 of one that is 2

abbrev pub towards_3 : State
towards_3 = after 0 1 (messages.Update ten (router 9) (addr 3) 0 0 1600) meshed

abbrev pub towards_2 : State
towards_2 = after 0 1 (messages.Update ten (router 9) (addr 2) 0 0 1600) third

-- ---- a lie: 2 hears of metric 500 and sends 596 to 3, who then hears of metric 0

abbrev pub honest : State
honest = after 0 1 (update 1 9 0 500) meshed

abbrev pub misled : State
misled = after 1 1 (update 1 9 0 0) (sent 0 (after 0 2 (update 2 9 0 596) third))

-- 2 asks, and 3 sends the lie on.
abbrev pub passed_on : Draft
passed_on = datagram 2 (after 2 2 asked_for_route misled)

abbrev pub misled_too : State
misled_too = after 3 3 (update 3 9 0 96) (sent 0 honest)

-- The other one retracts. What 2 advertised before the lie, and what it advertises now, comes to 3.
abbrev pub left_alone : State
left_alone = after 6 2 (update 2 9 0 192) (after 5 2 (update 2 9 0 596) (after 4 1 retraction passed_on.state))

-- ---- the own prefix: 2 announces it, and 3 hears of it with a greater seqno

abbrev pub origin : State
origin = record meshed { announced = (ten, tt) ∷ [] }

abbrev pub forged : State
forged = after 0 1 (update 1 2 5 0) third

abbrev pub forged_back : State
forged_back = after 1 3 (update 3 2 5 96) origin

-- ---- a restart: 3 keeps its sources and nothing else

abbrev pub begun_again : State
begun_again = record third { sources = passed_on.state.sources }

abbrev pub after_restart : State
after_restart = after 6 2 (update 2 9 0 192) begun_again

-- Without its sources it takes the route that leads over itself.
abbrev pub forgetful : State
forgetful = after 6 2 (update 2 9 0 192) third
