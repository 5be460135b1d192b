-- I Heard You (RFC 8966, section 4.6.6).
use Rattle.std.specs.Prelude.{ℕ, ◌+◌, List, Option, Some, None, length, drop, nat_lt, nat_eq, if◌then◌else◌}
use Rattle.babel_value.specs.declared.addresses.Addr.{Addr}
use Rattle.babel_value.specs.declared.addresses.Addr.TheVariants.{V4, V6}
use Rattle.babel_message.specs.Layout as layout
use Rattle.babel_message.specs.declared.placements.Content.{Content}
use Rattle.babel_message.specs.declared.placements.Reason.TheVariants as reasons
use Rattle.babel_message.specs.declared.messages.Message.TheVariants as messages
use Rattle.babel_packet.specs.Numbers.{octet, word}
use Rattle.babel_packet.specs.Addresses.{ipv4_at, ipv6_at, link_local_at}
use Rattle.babel_packet.specs.Contents.{means, ignored}
use Rattle.babel_packet.specs.Tails.{after_tail}

-- The message of an IHU to this receiver. An interval of 0 is reported before a cost of 0 (profile).
abbrev pub ihu_to : Option Addr → List ℕ → Content
ihu_to to p =
    if nat_eq (word p layout.ihu_interval) 0 then ignored reasons.ZeroInterval
    else if nat_eq (word p layout.ihu_rxcost) 0 then ignored reasons.ZeroRxcost
    else means (messages.Ihu to (word p layout.ihu_rxcost) (word p layout.ihu_interval))

-- an IHU whose fields, address included, take `size` octets
unfoldable pub ihu_of : ℕ → Option Addr → List ℕ → Content
ihu_of size to p = if nat_lt (length p) size then ignored reasons.Unreadable else after_tail (drop size p) (ihu_to to p)

-- an IHU with this payload; the wildcard means any receiver
unfoldable pub ihu : List ℕ → Content
ihu p =
    if nat_lt (length p) layout.ihu_len then ignored reasons.Unreadable
    else if nat_eq (octet p layout.ihu_ae) layout.ae_wildcard then ihu_of layout.ihu_len None p
    else if nat_eq (octet p layout.ihu_ae) layout.ae_ipv4 then ihu_of (layout.ihu_len + layout.ipv4_len) (Some (V4 (ipv4_at p layout.ihu_len))) p
    else if nat_eq (octet p layout.ihu_ae) layout.ae_ipv6 then ihu_of (layout.ihu_len + layout.ipv6_len) (Some (V6 (ipv6_at p layout.ihu_len))) p
    else if nat_eq (octet p layout.ihu_ae) layout.ae_link_local then
    ihu_of (layout.ihu_len + layout.link_local_len) (Some (V6 (link_local_at p layout.ihu_len))) p
    else ignored reasons.UnknownEncoding
