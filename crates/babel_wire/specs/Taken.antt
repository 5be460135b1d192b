-- The datagrams of a turn that wait until the snapshot is kept (profile).
use Rattle.std.specs.Prelude.{ℕ, false, List}
use Rattle.babel_state.specs.declared.items.Target.{Target}
use Rattle.babel_wire.specs.Calls.{Sending}
use Rattle.babel_wire.specs.declared.durable.outbox.Datagram.{Datagram}

-- A datagram that was taken from the speaker.
pub record Taken : Type 0 where
  pub target : Target
  pub octets : List ℕ

abbrev pub taken_of : Datagram → Taken
taken_of d = record { target = d.target; octets = d.octets.items }

-- It isn't sent yet.
abbrev pub waiting : Taken → Sending
waiting d = record { target = d.target; octets = d.octets; is_sent = false }

-- The datagram of a sending, whether it was sent or not.
abbrev pub datagram_of : Sending → Taken
datagram_of x = record { target = x.target; octets = x.octets }
