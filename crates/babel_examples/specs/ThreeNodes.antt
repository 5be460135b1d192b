-- Three speakers on one link, of which the middle one loses the origin (example; profile). Datagram k is `d_k`, as its messages; the
-- states of the nodes 0, 1 and 2 are `a`, `b` and `c`.
use Rattle.std.specs.Prelude.{ℕ, ◌+◌, List, [], ◌∷◌, Some}
use Rattle.babel_message.specs.declared.messages.Message.{Message}
use Rattle.babel_state.specs.State.{State}
use Rattle.babel_state.specs.Messages.{handle_message}
use Rattle.babel_state.specs.Ticks.{ticked}
use Rattle.babel_state.specs.NextDatagram.{Draft}
use Rattle.babel_examples.specs.ExampleStates.{router, peer, ten, start, interface, datagram}

-- Node n has the router-id n + 1 and the address 192.168.0.(n + 1).
abbrev pub node : ℕ → State
node n = record start {
  router = router (n + 1);
  interfaces = record (interface 0) { ipv4 = Some (192 ∷ 168 ∷ 0 ∷ (n + 1) ∷ [], 24) } ∷ [];
}

-- The messages of a datagram of node n.
abbrev pub delivered : ℕ → ℕ → List Message → State → State
delivered now n [] s = s
delivered now n (m ∷ ms) s = delivered now n ms (handle_message now (peer (n + 1)) m s).0

-- ---- at 0 each sends what is pending, and gets what its neighbours sent

abbrev pub a_0 : Draft
a_0 = datagram 0 (ticked 0 (record (node 0) { announced = (ten, tt) ∷ [] }))

abbrev pub b_0 : Draft
b_0 = datagram 0 (ticked 0 (node 1))

abbrev pub c_0 : Draft
c_0 = datagram 0 (ticked 0 (node 2))

abbrev pub a_1 : State
a_1 = delivered 0 1 b_0.messages a_0.state

abbrev pub b_1 : State
b_1 = delivered 0 2 c_0.messages (delivered 0 0 a_0.messages b_0.state)

abbrev pub c_1 : State
c_1 = delivered 0 1 b_0.messages c_0.state

-- ---- at 1200 the links come up: 2 sends, then 1, then 0, then 1 its new route, and 2

abbrev pub c_2 : Draft
c_2 = datagram 1200 (ticked 1200 c_1)

abbrev pub b_2 : Draft
b_2 = datagram 1200 (delivered 1200 2 c_2.messages (ticked 1200 b_1))

abbrev pub a_2 : Draft
a_2 = datagram 1200 (delivered 1200 1 b_2.messages (ticked 1200 a_1))

abbrev pub b_3 : State
b_3 = delivered 1200 0 a_2.messages b_2.state

abbrev pub b_4 : Draft
b_4 = datagram 1200 b_3

abbrev pub c_3 : State
c_3 = delivered 1200 1 b_4.messages (delivered 1200 1 b_2.messages c_2.state)

abbrev pub c_4 : Draft
c_4 = datagram 1200 c_3

abbrev pub b_5 : State
b_5 = delivered 1200 2 c_4.messages b_4.state

-- ---- then 0 isn't heard any more, and the last datagram of 2 comes again

abbrev pub b_6 : State
b_6 = ticked 1800 b_5

abbrev pub b_7 : State
b_7 = ticked 2200 b_6

abbrev pub b_8 : State
b_8 = delivered 2200 2 c_4.messages b_7
