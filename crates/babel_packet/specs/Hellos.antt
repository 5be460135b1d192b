-- Hello (RFC 8966, section 4.6.5).
use Rattle.std.specs.Prelude.{ℕ, List, length, drop, nat_lt, if◌then◌else◌}
use Rattle.babel_message.specs.Layout as layout
use Rattle.babel_message.specs.declared.placements.Content.{Content}
use Rattle.babel_message.specs.declared.placements.Reason.TheVariants.{Unreadable}
use Rattle.babel_message.specs.declared.messages.Message.TheVariants as messages
use Rattle.babel_packet.specs.Numbers.{word, has_flag}
use Rattle.babel_packet.specs.Contents.{means, ignored}
use Rattle.babel_packet.specs.Tails.{after_tail}

-- a Hello with this payload
unfoldable pub hello : List ℕ → Content
hello p =
    if nat_lt (length p) layout.hello_len then ignored Unreadable
    else after_tail (drop layout.hello_len p)
    (means (messages.Hello (has_flag (word p layout.hello_flags) layout.hello_unicast) (word p layout.hello_seqno) (word p layout.hello_interval)))
