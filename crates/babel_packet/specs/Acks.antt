-- Acknowledgment Request and Acknowledgment (RFC 8966, sections 4.6.3 and 4.6.4).
use Rattle.std.specs.Prelude.{ℕ, List, length, drop, nat_lt, if◌then◌else◌}
use Rattle.babel_message.specs.Layout as layout
use Rattle.babel_message.specs.declared.placements.Content.{Content}
use Rattle.babel_message.specs.declared.placements.Reason.TheVariants.{Unreadable}
use Rattle.babel_message.specs.declared.messages.Message.TheVariants as messages
use Rattle.babel_packet.specs.Numbers.{word}
use Rattle.babel_packet.specs.Contents.{means, ignored}
use Rattle.babel_packet.specs.Tails.{after_tail}

-- an Acknowledgment Request with this payload (section 4.6.3)
unfoldable pub ack_request : List ℕ → Content
ack_request p =
    if nat_lt (length p) layout.ack_request_len then ignored Unreadable
    else after_tail (drop layout.ack_request_len p) (means (messages.AckRequest (word p layout.ack_request_opaque) (word p layout.ack_request_interval)))

-- an Acknowledgment with this payload (section 4.6.4)
unfoldable pub ack : List ℕ → Content
ack p =
    if nat_lt (length p) layout.ack_len then ignored Unreadable
    else after_tail (drop layout.ack_len p) (means (messages.Ack (word p layout.ack_opaque)))
