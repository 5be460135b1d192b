-- Update, and the retractions that it encodes (RFC 8966, section 4.6.9).
use Rattle.std.specs.Prelude.{ℕ, ◌+◌, List, Option, Some, None, ◌&&◌, length, drop, nat_lt, nat_eq, option_map, if◌then◌else◌}
use Rattle.std.specs.Option.{option_and_then, option_or}
use Rattle.babel_value.specs.declared.addresses.Addr.{Addr}
use Rattle.babel_value.specs.declared.addresses.Addr.TheVariants.{V4, V6}
use Rattle.babel_value.specs.Metrics.{infinity}
use Rattle.babel_value.specs.Prefixes.{PrefixValue}
use Rattle.babel_value.specs.RouterIds.{router_id_of}
use Rattle.babel_message.specs.Layout as layout
use Rattle.babel_message.specs.declared.placements.Content.{Content}
use Rattle.babel_message.specs.declared.placements.Reason.TheVariants as reasons
use Rattle.babel_message.specs.declared.messages.Message.TheVariants as messages
use Rattle.babel_packet.specs.Numbers.{octet, word}
use Rattle.babel_packet.specs.Contents.{means, ignored}
use Rattle.babel_packet.specs.Tails.{after_tail}
use Rattle.babel_packet.specs.UpdateFields.{written, is_readable, address}
use Rattle.babel_packet.specs.declared.parser_state.ParserState.{ParserState}
use Rattle.babel_packet.specs.LookBack.{own_router}

-- A finite Update needs a router-id that isn't reserved, then a next hop of its family, then an interval.
abbrev pub from_hop : PrefixValue → List ℕ → Option Addr → List ℕ → Content
from_hop prefix router None p = ignored reasons.NoNextHop
from_hop prefix router (Some hop) p =
    if nat_eq (word p layout.update_interval) 0 then ignored reasons.ZeroInterval
    else means (messages.Update prefix router hop (word p layout.update_seqno) (word p layout.update_metric) (word p layout.update_interval))

abbrev pub from_router : PrefixValue → Option (List ℕ) → Option Addr → List ℕ → Content
from_router prefix None hop p = ignored reasons.NoRouterId
from_router prefix (Some router) hop p = from_hop prefix router hop p

-- An infinite metric is a retraction, of which only the prefix and the interval are kept.
unfoldable pub update_of : PrefixValue → Option (List ℕ) → Option Addr → List ℕ → Content
update_of prefix router hop p =
    if nat_eq (word p layout.update_metric) infinity then means (messages.Retraction prefix (word p layout.update_interval))
    else from_router prefix (option_and_then router_id_of router) hop p

abbrev pub prefixed : (List ℕ → Addr) → Option (List ℕ) → Option (List ℕ) → Option Addr → List ℕ → Content
prefixed family None router hop p = ignored reasons.NoDefaultPrefix
prefixed family (Some octets) router hop p = update_of (record { addr = family octets; length = octet p layout.update_plen }) router hop p

-- an Update with the wildcard encoding: only a retraction can be of all prefixes
abbrev pub wildcard : List ℕ → Content
wildcard p =
    if nat_eq (word p layout.update_metric) infinity && (nat_eq (octet p layout.update_plen) 0 && nat_eq (octet p layout.update_omitted) 0)
    then means (messages.RetractAll (word p layout.update_interval))
    else ignored reasons.Wildcard

-- an Update whose prefix is of this size and family
abbrev pub update_in : ℕ → (List ℕ → Addr) → Option (List ℕ) → Option (List ℕ) → Option (List ℕ) → List ℕ → Content
update_in size family octets router hop p =
    if is_readable size p then after_tail (drop (layout.update_len + written p) p) (prefixed family octets router (option_map family hop) p)
    else ignored reasons.Unreadable

-- the router-id of an Update: its own with the flag, else that of the parser state
abbrev pub update_router : ParserState → List ℕ → Option (List ℕ)
update_router d p = option_or (own_router d.default4 d.default6 layout.update p) d.router

abbrev pub update4 : ParserState → List ℕ → Content
update4 d p = update_in layout.ipv4_len V4 (address layout.ipv4_len d.default4 p) (update_router d p) d.hop4 p

abbrev pub update6 : ParserState → List ℕ → Content
update6 d p = update_in layout.ipv6_len V6 (address layout.ipv6_len d.default6 p) (update_router d p) d.hop6 p

-- an Update with this payload
unfoldable pub update : ParserState → List ℕ → Content
update d p =
    if nat_lt (length p) layout.update_len then ignored reasons.Unreadable
    else if nat_eq (octet p layout.update_ae) layout.ae_wildcard then after_tail (drop layout.update_len p) (wildcard p)
    else if nat_eq (octet p layout.update_ae) layout.ae_ipv4 then update4 d p
    else if nat_eq (octet p layout.update_ae) layout.ae_ipv6 then update6 d p
    else ignored reasons.UnknownEncoding
