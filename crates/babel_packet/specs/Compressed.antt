-- Messages in few octets: a TLV leaves out what a reader in this state has from earlier TLVs (RFC 8966, section 4.5; profile).
use Rattle.std.specs.Prelude.{ℕ, suc, ◌+◌, List, [], ◌∷◌, ◌++◌, Bool, false, ◌||◌, Option, Some, None, drop, nat_eq, if◌then◌else◌}
use Rattle.std.specs.Str.{bytes_eq}
use Rattle.babel_value.specs.declared.addresses.Addr.{Addr}
use Rattle.babel_value.specs.declared.addresses.Addr.TheVariants.{V4, V6}
use Rattle.babel_value.specs.Metrics.{infinity}
use Rattle.babel_value.specs.Prefixes.{PrefixValue}
use Rattle.babel_tlv.specs.Layout.{header_len}
use Rattle.babel_tlv.specs.Spelling.{spelled}
use Rattle.babel_message.specs.Layout as layout
use Rattle.babel_message.specs.declared.messages.Message.{Message}
use Rattle.babel_message.specs.declared.messages.Message.TheVariants as messages
use Rattle.babel_packet.specs.declared.parser_state.ParserState.{ParserState}
use Rattle.babel_packet.specs.Payloads.{two, octets, prefix_encoding, prefix_written, router_id_payload, next_hop_payload, kind_of, payload_of}
use Rattle.babel_packet.specs.BodyMeanings.{hop_for}
use Rattle.babel_packet.specs.LookBack.{router_of_ipv4, router_of_ipv6}

-- these octets are set already
abbrev pub is_set : Option (List ℕ) → List ℕ → Bool
is_set None o = false
is_set (Some before) o = bytes_eq before o

-- how many leading octets two lists have in common
abbrev pub common : List ℕ → List ℕ → ℕ
common [] ys = 0
common (x ∷ xs) [] = 0
common (x ∷ xs) (y ∷ ys) = if nat_eq x y then suc (common xs ys) else 0

-- how many leading octets of a prefix the default prefix of its AE has too; none without a default prefix
abbrev pub omitted : Option (List ℕ) → List ℕ → ℕ
omitted None o = 0
omitted (Some default) o = common o default

-- the default prefix of the AE of this address
abbrev pub default_for : Addr → ParserState → Option (List ℕ)
default_for (V4 o) d = d.default4
default_for (V6 o) d = d.default6

-- the router-id that the address of a prefix gives, with the flag for it (section 4.6.9)
abbrev pub given_router : Addr → List ℕ
given_router (V4 o) = router_of_ipv4 o
given_router (V6 o) = router_of_ipv6 o

-- an Update (section 4.6.9)
abbrev pub update_fields : ℕ → ℕ → ℕ → ℕ → ℕ → ℕ → ℕ → List ℕ → List ℕ
update_fields ae flags length omitted interval seqno metric prefix =
    ae ∷ flags ∷ length ∷ omitted ∷ (two interval ++ (two seqno ++ (two metric ++ prefix)))

-- An Update of this prefix omits the octets that the default prefix of its AE has too.
abbrev pub omitted_in : ParserState → PrefixValue → ℕ
omitted_in d prefix = omitted (default_for prefix.addr d) (prefix_written prefix)

abbrev pub update_payload : ParserState → ℕ → PrefixValue → ℕ → ℕ → ℕ → List ℕ
update_payload d flags prefix interval seqno metric =
    update_fields (prefix_encoding prefix.addr) flags prefix.length (omitted_in d prefix) interval seqno metric
    (drop (omitted_in d prefix) (prefix_written prefix))

-- Each Update sets the default prefix of its AE. It sets the router-id too, if that differs and its address gives it.
abbrev pub flags_of : ParserState → PrefixValue → List ℕ → ℕ
flags_of d prefix router =
    if is_set d.router router then layout.update_sets_prefix
    else if bytes_eq (given_router prefix.addr) router then layout.update_sets_prefix + layout.update_sets_router_id else layout.update_sets_prefix

-- a Router-Id, if the router-id differs and the address doesn't give it
abbrev pub router_id_before : ParserState → PrefixValue → List ℕ → List ℕ
router_id_before d prefix router =
    if is_set d.router router || bytes_eq (given_router prefix.addr) router then []
    else spelled layout.router_id (router_id_payload router)

-- a Next Hop, if the next hop of its family differs
abbrev pub next_hop_before : ParserState → Addr → List ℕ
next_hop_before d hop = if is_set (hop_for hop d) (octets hop) then [] else spelled layout.next_hop (next_hop_payload hop)

-- the TLVs of a message; a retraction has the infinite metric and seqno 0, and sets no router-id
abbrev pub compressed : ParserState → Message → List ℕ
compressed d (messages.Update prefix router hop seqno metric interval) =
    router_id_before d prefix router ++
    (next_hop_before d hop ++ spelled layout.update (update_payload d (flags_of d prefix router) prefix interval seqno metric))
compressed d (messages.Retraction prefix interval) = spelled layout.update (update_payload d layout.update_sets_prefix prefix interval 0 infinity)
compressed d message = spelled (kind_of message) (payload_of message)

-- the most octets of the TLVs of a message: those of a Router-Id, a Next Hop and an Update, each with IPv6 addresses
abbrev pub max_message_len : ℕ
max_message_len =
    (header_len + layout.router_id_tlv_len) + (header_len + layout.next_hop_len + layout.ipv6_len) + (header_len + layout.update_len + layout.ipv6_len)

-- what a reader has after them
abbrev pub with_default : Addr → ParserState → ParserState
with_default (V4 o) d = record d { default4 = Some o }
with_default (V6 o) d = record d { default6 = Some o }

abbrev pub with_router : List ℕ → ParserState → ParserState
with_router router d = record d { router = Some router }

abbrev pub with_hop : Addr → ParserState → ParserState
with_hop (V4 o) d = record d { hop4 = Some o }
with_hop (V6 o) d = record d { hop6 = Some o }

abbrev pub state_with : ParserState → Message → ParserState
state_with d (messages.Update prefix router hop seqno metric interval) = with_default prefix.addr (with_hop hop (with_router router d))
state_with d (messages.Retraction prefix interval) = with_default prefix.addr d
state_with d message = d
