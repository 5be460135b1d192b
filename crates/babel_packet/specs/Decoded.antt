-- Every message of a datagram can be sent as it is: a law above the definitions (RFC 8966, sections 4.1 and 4.6).
use Rattle.std.specs.Prelude.{◌≡◌, ℕ, List, true, Ok}
use Rattle.std.specs.List.{AllByRecursion}
use Rattle.babel_value.specs.declared.addresses.Addr.{Addr}
use Rattle.babel_message.specs.declared.messages.Message.{Message}
use Rattle.babel_message.specs.declared.placements.Placed.{Placed}
use Rattle.babel_packet.specs.Meaning.{meaning, messages_of}
use Rattle.babel_packet.specs.Encodable.{is_encodable, AreOctets, IsAddr, IsMessage}

-- a message whose fields are whole, and which isn't ignored for its values
pub record IsSendable (message : Message) : Type 0 where
  pub whole : IsMessage message
  pub encodable : is_encodable message ≡ true

-- The messages of octets from a source address are sendable.
abbrev pub DecodedAreSendable : Type 0
DecodedAreSendable =
    (bytes : List ℕ) (source : Addr) (placed : List Placed) → AreOctets bytes → IsAddr source → meaning bytes source ≡ Ok placed →
    AllByRecursion IsSendable (messages_of placed)
