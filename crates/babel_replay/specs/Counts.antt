-- The messages of a datagram, counted (RFC 8966, section 4.6).
use Rattle.std.specs.Prelude.{◌≡◌, ℕ, Bool, ◌||◌, not, List, count_by, length, nat_eq}
use Rattle.babel_value.specs.declared.addresses.Addr.{Addr}
use Rattle.babel_tlv.specs.Place.{Place}
use Rattle.babel_message.specs.Layout as layout
use Rattle.babel_message.specs.declared.messages.Message.{Message}
use Rattle.babel_packet.specs.BodyMeanings.{Means}

-- Router-Id and Next Hop are no messages.
abbrev pub is_message : Place → Bool
is_message t = not (nat_eq t.kind layout.router_id || nat_eq t.kind layout.next_hop)

abbrev pub messages_among : List Place → ℕ
messages_among = count_by is_message

-- Whatever messages the datagram means, there are as many.
abbrev pub CountsMessages : List ℕ → ℕ → Type 0
CountsMessages octets n = (source : Addr) (messages : List Message) → Means octets source messages → n ≡ length messages
