-- Three datagrams that a speaker gets (a log of the tests; profile), and the states that they lead to.
use Rattle.std.specs.Prelude.{ℕ, true, false, List, [], ◌∷◌, Some, None}
use Rattle.babel_link.specs.declared.links.Link.{Link}
use Rattle.babel_message.specs.declared.messages.Message.{Message}
use Rattle.babel_message.specs.declared.messages.Message.TheVariants as messages
use Rattle.babel_message.specs.declared.placements.Content.TheVariants as contents
use Rattle.babel_message.specs.declared.placements.Placed.{Placed}
use Rattle.babel_choice.specs.declared.entries.Entry.{Entry}
use Rattle.babel_state.specs.declared.notes.Note.{Note}
use Rattle.babel_state.specs.declared.notes.Verdict.{Verdict}
use Rattle.babel_state.specs.State.{State}
use Rattle.babel_state.specs.Messages.{after_places}
use Rattle.babel_state.specs.NextDatagram.{Draft}
use Rattle.babel_examples.specs.ExampleStates.{router, addr, peer, pair, start, update, datagram}

-- The octets.
abbrev pub first_octets : List ℕ
first_octets = 42 ∷ 2 ∷ 0 ∷ 8 ∷ 4 ∷ 6 ∷ 0 ∷ 0 ∷ 0 ∷ 0 ∷ 1 ∷ 144 ∷ []

abbrev pub second_octets : List ℕ
second_octets =
    42 ∷ 2 ∷ 0 ∷ 45 ∷
    4 ∷ 6 ∷ 0 ∷ 0 ∷ 0 ∷ 1 ∷ 1 ∷ 144 ∷
    5 ∷ 10 ∷ 1 ∷ 0 ∷ 0 ∷ 96 ∷ 4 ∷ 176 ∷ 192 ∷ 168 ∷ 0 ∷ 2 ∷
    6 ∷ 10 ∷ 0 ∷ 0 ∷ 0 ∷ 0 ∷ 0 ∷ 0 ∷ 0 ∷ 0 ∷ 0 ∷ 1 ∷
    8 ∷ 11 ∷ 1 ∷ 128 ∷ 8 ∷ 0 ∷ 6 ∷ 64 ∷ 0 ∷ 0 ∷ 0 ∷ 0 ∷ 10 ∷ []

abbrev pub third_octets : List ℕ
third_octets =
    42 ∷ 2 ∷ 0 ∷ 33 ∷
    4 ∷ 6 ∷ 0 ∷ 0 ∷ 0 ∷ 7 ∷ 1 ∷ 144 ∷
    6 ∷ 10 ∷ 0 ∷ 0 ∷ 0 ∷ 0 ∷ 0 ∷ 0 ∷ 0 ∷ 0 ∷ 0 ∷ 1 ∷
    8 ∷ 11 ∷ 1 ∷ 128 ∷ 8 ∷ 0 ∷ 6 ∷ 64 ∷ 0 ∷ 0 ∷ 0 ∷ 96 ∷ 10 ∷ []

-- What they mean: at 0 from 192.168.0.1,
abbrev pub place : ℕ → Message → Placed
place offset message = record { offset = offset; content = contents.Message message }

abbrev pub state_place : ℕ → Placed
state_place offset = record { offset = offset; content = contents.State }

abbrev pub hello : ℕ → Message
hello seqno = messages.Hello false seqno 400

abbrev pub first : List Placed
first = place 4 (hello 0) ∷ []

-- at 400 from 192.168.0.1,
abbrev pub second : List Placed
second =
    place 4 (hello 1) ∷ place 12 (messages.Ihu (Some (addr 2)) 96 1200) ∷ state_place 24 ∷ place 36 (update 1 1 0 0) ∷ []

-- and at 500 from 192.168.0.3.
abbrev pub third : List Placed
third = place 4 (hello 7) ∷ state_place 12 ∷ place 24 (update 3 1 0 96) ∷ []

abbrev pub state_1 : State
state_1 = after_places 0 (peer 1) first start

abbrev pub state_2 : State
state_2 = after_places 400 (peer 1) second state_1

abbrev pub built_2 : Draft
built_2 = datagram 400 state_2

abbrev pub state_3 : State
state_3 = after_places 500 (peer 3) third built_2.state

abbrev pub note : ℕ → Verdict → Note
note offset verdict = record { offset = offset; verdict = verdict }

-- The neighbour after its first Hello at 0: the next one is missed from 600 on.
abbrev pub link_1 : Link
link_1 = record {
  multicast = Some (record {
    marks = record { marks = true ∷ []; expected = 1 };
    timer = Some (record { interval = 400; due = 600 });
  });
  unicast = None;
  txcost = 65535;
  txcost_due = None;
}

-- What it advertised at 400, kept for 3.5 times 1600 centiseconds.
abbrev pub entry_2 : Entry
entry_2 = record { router = router 1; distance = pair 0 0; next_hop = addr 1; interval = 1600; deadline = 6000 }
