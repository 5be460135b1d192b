-- Next Hop (RFC 8966, section 4.6.8).
use Rattle.std.specs.Prelude.{ℕ, ◌+◌, List, Option, Some, None, ◌&&◌, length, drop, nat_le, nat_lt, nat_eq, if◌then◌else◌}
use Rattle.babel_message.specs.Layout as layout
use Rattle.babel_message.specs.declared.placements.Content.{Content}
use Rattle.babel_message.specs.declared.placements.Content.TheVariants as contents
use Rattle.babel_message.specs.declared.placements.Reason.TheVariants as reasons
use Rattle.babel_packet.specs.Numbers.{octet}
use Rattle.babel_packet.specs.Addresses.{ipv4_at, ipv6_at, link_local_at}
use Rattle.babel_packet.specs.Contents.{ignored}
use Rattle.babel_packet.specs.Tails.{after_tail}

-- a Next Hop whose fields, address included, take `size` octets
unfoldable pub next_hop_of : ℕ → List ℕ → Content
next_hop_of size p = if nat_lt (length p) size then ignored reasons.Unreadable else after_tail (drop size p) contents.State

-- a Next Hop with this payload; it needs an address, so the wildcard isn't accepted
unfoldable pub next_hop : List ℕ → Content
next_hop p =
    if nat_lt (length p) layout.next_hop_len then ignored reasons.Unreadable
    else if nat_eq (octet p layout.next_hop_ae) layout.ae_ipv4 then next_hop_of (layout.next_hop_len + layout.ipv4_len) p
    else if nat_eq (octet p layout.next_hop_ae) layout.ae_ipv6 then next_hop_of (layout.next_hop_len + layout.ipv6_len) p
    else if nat_eq (octet p layout.next_hop_ae) layout.ae_link_local then next_hop_of (layout.next_hop_len + layout.link_local_len) p
    else ignored reasons.UnknownEncoding

-- the next hop that a TLV sets for IPv4, as the octets of the address
unfoldable pub named_hop4 : ℕ → List ℕ → Option (List ℕ)
named_hop4 kind p =
    if nat_eq kind layout.next_hop && (nat_eq (octet p layout.next_hop_ae) layout.ae_ipv4 && nat_le (layout.next_hop_len + layout.ipv4_len) (length p))
    then Some (ipv4_at p layout.next_hop_len)
    else None

-- and for IPv6, by a whole address or a link-local one
unfoldable pub named_hop6 : ℕ → List ℕ → Option (List ℕ)
named_hop6 kind p =
    if nat_eq kind layout.next_hop && (nat_eq (octet p layout.next_hop_ae) layout.ae_ipv6 && nat_le (layout.next_hop_len + layout.ipv6_len) (length p))
    then Some (ipv6_at p layout.next_hop_len)
    else if nat_eq kind layout.next_hop && (nat_eq (octet p layout.next_hop_ae) layout.ae_link_local && nat_le (layout.next_hop_len + layout.link_local_len) (length p))
    then Some (link_local_at p layout.next_hop_len)
    else None
