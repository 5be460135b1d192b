-- Ticks of a speaker with two interfaces (examples; profile).
use Rattle.std.specs.Prelude.{ℕ, true, nat_eq, [], ◌∷◌, length, Some}
use Rattle.babel_value.specs.declared.addresses.Addr.{Addr}
use Rattle.babel_value.specs.declared.addresses.Addr.TheVariants.{V4}
use Rattle.babel_value.specs.declared.keys.Peer.{Peer}
use Rattle.babel_state.specs.declared.interfaces.InterfaceEntry.{InterfaceEntry}
use Rattle.babel_state.specs.State.{State}
use Rattle.babel_state.specs.Ticks.{ticked}
use Rattle.babel_state.specs.NextDatagram.{Fits, Draft, next_datagram}
use Rattle.babel_examples.specs.ExampleStates.{peer, start, interface, up_link, announcing, with_pending, update, after, datagram}
use Rattle.babel_examples.specs.LostRoutes.{updated_5}
use Rattle.babel_examples.specs.LogB.{state_1}

-- 192.168.1.n on interface 1.
abbrev pub addr_on_1 : ℕ → Addr
addr_on_1 n = V4 (192 ∷ 168 ∷ 1 ∷ n ∷ [])

abbrev pub peer_on_1 : Peer
peer_on_1 = record { iface = 1; addr = addr_on_1 5 }

-- A neighbour on each interface; 10.1.0.0/16 is announced, 10.0.0.0/8 selected over neighbour 1.
abbrev pub two_interfaces : State
two_interfaces =
    announcing (record start {
      interfaces = interface 0 ∷ interface 1 ∷ [];
      neighbours = (peer 1, up_link) ∷ (peer_on_1, up_link) ∷ [];
    })

abbrev pub routing : State
routing = with_pending [] (after 0 1 (update 1 1 0 0) two_interfaces)

abbrev pub first_tick : State
first_tick = ticked 10 routing

-- The interface n after its three timers fired at 10.
abbrev pub fired_at_10 : ℕ → InterfaceEntry
fired_at_10 n = record (interface n) { hello_due = Some 410; ihu_due = Some 1210; update_due = Some 1610 }

-- What is sent after it, in two datagrams.
abbrev pub first_built : Draft
first_built = datagram 10 first_tick

abbrev pub second_built : Draft
second_built = datagram 10 first_built.state

-- Where only one message fits.
abbrev pub one_fits : Fits
one_fits target messages message = nat_eq (length messages) 0

abbrev pub built_of_one : Draft
built_of_one = next_datagram 10 one_fits first_tick

-- With collection of sources.
abbrev pub collecting : State
collecting = record updated_5 { collects = true }

-- After the first datagram of the log, a tick at 0 and one at 400, with what is sent after each.
abbrev pub built_at_0 : Draft
built_at_0 = datagram 0 (ticked 0 state_1)

abbrev pub built_at_400 : Draft
built_at_400 = datagram 400 (ticked 400 built_at_0.state)
