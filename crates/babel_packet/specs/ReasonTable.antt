-- Why a TLV is ignored, as a table: a law above the definitions of the contents (RFC 8966, sections 4.1 to 4.6; the order of the reasons is profile).
-- The payload of a TLV is its fixed fields, then an address or a prefix, then sub-TLVs.
use Rattle.std.specs.Prelude.{◌≡◌, ℕ, ◌+◌, ◌-◌, List, [], ◌∷◌, Bool, true, false, not, ◌&&◌, ◌||◌, Option, Some, None, is_some, is_none, length, drop, map, slice_index, nat_eq, nat_le, nat_lt, if◌then◌else◌}
use Rattle.std.specs.List.{filter}
use Rattle.std.specs.Option.{option_and_then}
use Rattle.babel_value.specs.Metrics.{infinity}
use Rattle.babel_value.specs.RouterIds.{is_reserved, router_id_of}
use Rattle.babel_tlv.specs.Place.{Place}
use Rattle.babel_tlv.specs.Split.{places_of, fault_of}
use Rattle.babel_message.specs.Layout as layout
use Rattle.babel_packet.specs.declared.parser_state.ParserState.{ParserState}
use Rattle.babel_message.specs.declared.placements.Content.{Content}
use Rattle.babel_message.specs.declared.placements.Content.TheVariants as contents
use Rattle.babel_message.specs.declared.placements.Reason.{Reason}
use Rattle.babel_message.specs.declared.placements.Reason.TheVariants as reasons
use Rattle.babel_packet.specs.Numbers.{octet, word}
use Rattle.babel_packet.specs.Prefixes.{bits_of, octets_of}
use Rattle.babel_packet.specs.Updates.{update_router}
use Rattle.babel_packet.specs.Requests.{requested_router}
use Rattle.babel_packet.specs.Meaning.{content}

-- ---- the encoding (AE; section 4.1.4)

abbrev pub has_address : ℕ → Bool
has_address kind = nat_eq kind layout.ihu || nat_eq kind layout.next_hop

abbrev pub has_prefix : ℕ → Bool
has_prefix kind = nat_eq kind layout.update || (nat_eq kind layout.route_request || nat_eq kind layout.seqno_request)

-- A TLV with an address or a prefix has its encoding in the first octet.
abbrev pub encoding : List ℕ → ℕ
encoding p = octet p 0

abbrev pub is_wildcard : List ℕ → Bool
is_wildcard p = nat_eq (encoding p) layout.ae_wildcard

-- Whether the type takes the encoding: a Next Hop needs an address, and no prefix is link-local. The other types have no encoding.
abbrev pub is_taken : ℕ → List ℕ → Bool
is_taken kind p =
    if nat_eq kind layout.ihu then nat_le (encoding p) layout.ae_link_local
    else if nat_eq kind layout.next_hop then not (is_wildcard p) && nat_le (encoding p) layout.ae_link_local
    else not (has_prefix kind) || nat_le (encoding p) layout.ae_ipv6

-- ---- the parts of the payload

-- how many octets the fixed fields take, reserved ones too (sections 4.6.3 to 4.6.11)
abbrev pub fixed_len : ℕ → ℕ
fixed_len kind =
    if nat_eq kind layout.ack_request then layout.ack_request_len
    else if nat_eq kind layout.ack then layout.ack_len
    else if nat_eq kind layout.hello then layout.hello_len
    else if nat_eq kind layout.ihu then layout.ihu_len
    else if nat_eq kind layout.router_id then layout.router_id_tlv_len
    else if nat_eq kind layout.next_hop then layout.next_hop_len
    else if nat_eq kind layout.update then layout.update_len
    else if nat_eq kind layout.route_request then layout.route_request_len
    else layout.seqno_request_len

-- how many octets an address takes (section 4.1.4)
abbrev pub address_len : List ℕ → ℕ
address_len p =
    if nat_eq (encoding p) layout.ae_ipv4 then layout.ipv4_len
    else if nat_eq (encoding p) layout.ae_ipv6 then layout.ipv6_len
    else if nat_eq (encoding p) layout.ae_link_local then layout.link_local_len
    else 0

-- the length of a prefix in bits (Plen), and how many of its octets an Update omits (section 4.6.9)
abbrev pub plen : ℕ → List ℕ → ℕ
plen kind p =
    if nat_eq kind layout.update then octet p layout.update_plen
    else if nat_eq kind layout.route_request then octet p layout.route_request_plen
    else octet p layout.seqno_request_plen

abbrev pub omitted : ℕ → List ℕ → ℕ
omitted kind p = if nat_eq kind layout.update then octet p layout.update_omitted else 0

-- how many octets the address or the prefix takes; none with the wildcard
abbrev pub variable_len : ℕ → List ℕ → ℕ
variable_len kind p =
    if has_address kind then address_len p
    else if has_prefix kind && not (is_wildcard p) then octets_of (plen kind p) - omitted kind p
    else 0

-- the sub-TLVs, which are what is left (section 4.4)
abbrev pub tail : ℕ → List ℕ → List ℕ
tail kind p = drop (fixed_len kind + variable_len kind p) p

-- ---- the conditions of I3 to I5

-- After the fixed fields, the prefix is too long for its family, or the address or the prefix isn't whole (section 4.1).
abbrev pub is_cut : ℕ → List ℕ → Bool
is_cut kind p =
    (has_prefix kind && (not (is_wildcard p) && nat_lt (bits_of (address_len p)) (plen kind p))) || nat_lt (length p) (fixed_len kind + variable_len kind p)

abbrev pub is_unreadable : ℕ → List ℕ → Bool
is_unreadable kind p = nat_lt (length p) (fixed_len kind) || (is_taken kind p && is_cut kind p)

abbrev pub overruns : List ℕ → Bool
overruns sub_tlvs = is_some (fault_of sub_tlvs)

-- the types of the sub-TLVs that must be understood, in order; none of them is known here (section 4.4)
abbrev pub mandatory_kinds : List Place → List ℕ
mandatory_kinds sub_tlvs = filter (λ kind. nat_le layout.mandatory kind) (map (λ (t : Place). t.kind) sub_tlvs)

abbrev pub mandatory_in : List ℕ → List ℕ
mandatory_in sub_tlvs = mandatory_kinds (places_of sub_tlvs)

-- ---- the conditions of I7 to I13

-- an Update of a prefix (section 4.6.9)
abbrev pub is_update : ℕ → List ℕ → Bool
is_update kind p = nat_eq kind layout.update && not (is_wildcard p)

-- and one that isn't a retraction
abbrev pub is_finite : List ℕ → Bool
is_finite p = not (nat_eq (word p layout.update_metric) infinity)

abbrev pub is_finite_update : ℕ → List ℕ → Bool
is_finite_update kind p = is_update kind p && is_finite p

-- a Seqno Request of a prefix (section 4.6.11)
abbrev pub is_seqno_request : ℕ → List ℕ → Bool
is_seqno_request kind p = nat_eq kind layout.seqno_request && not (is_wildcard p)

-- the default prefix and the next hop for the family of an Update (section 4.5)
abbrev pub default_prefix : ParserState → List ℕ → Option (List ℕ)
default_prefix d p = if nat_eq (encoding p) layout.ae_ipv4 then d.default4 else d.default6

abbrev pub next_hop : ParserState → List ℕ → Option (List ℕ)
next_hop d p = if nat_eq (encoding p) layout.ae_ipv4 then d.hop4 else d.hop6

abbrev pub lacks_default_prefix : ParserState → ℕ → List ℕ → Bool
lacks_default_prefix d kind p = is_update kind p && (not (nat_eq (omitted kind p) 0) && is_none (default_prefix d p))

-- no router-id, or a reserved one (section 4.1.3)
abbrev pub lacks_router_id : ParserState → ℕ → List ℕ → Bool
lacks_router_id d kind p =
    (is_finite_update kind p && is_none (option_and_then router_id_of (update_router d p))) || (is_seqno_request kind p && is_reserved (requested_router p))

abbrev pub lacks_next_hop : ParserState → ℕ → List ℕ → Bool
lacks_next_hop d kind p = is_finite_update kind p && is_none (next_hop d p)

abbrev pub has_zero_interval : ℕ → List ℕ → Bool
has_zero_interval kind p =
    (is_finite_update kind p && nat_eq (word p layout.update_interval) 0) || (nat_eq kind layout.ihu && nat_eq (word p layout.ihu_interval) 0)

abbrev pub has_zero_rxcost : ℕ → List ℕ → Bool
has_zero_rxcost kind p = nat_eq kind layout.ihu && nat_eq (word p layout.ihu_rxcost) 0

-- What the wildcard doesn't allow: a finite Update, one with Plen or Omitted, a Route Request with Plen, and any Seqno Request.
abbrev pub is_wrong_wildcard : ℕ → List ℕ → Bool
is_wrong_wildcard kind p =
    (nat_eq kind layout.update && (is_wildcard p && (is_finite p || not (nat_eq (plen kind p) 0 && nat_eq (omitted kind p) 0)))) ||
    ((nat_eq kind layout.route_request && (is_wildcard p && not (nat_eq (plen kind p) 0))) || (nat_eq kind layout.seqno_request && is_wildcard p))

abbrev pub has_no_hops : ℕ → List ℕ → Bool
has_no_hops kind p = nat_eq kind layout.seqno_request && nat_eq (octet p layout.seqno_request_hops) 0

-- ---- the table

-- a reason, and whether it applies
pub record Row : Type 0 where
  pub reason : Reason
  pub applies : Bool

abbrev pub row : Reason → Bool → Row
row reason applies = record { reason = reason; applies = applies }

-- the reasons I1 to I13 for a TLV of this type and payload in this parser state
abbrev pub reason_table : ParserState → ℕ → List ℕ → List Row
reason_table d kind p =
    row reasons.Padding (nat_le kind layout.pad_n) ∷
    row reasons.UnknownType (nat_lt layout.seqno_request kind) ∷
    row reasons.Unreadable (is_unreadable kind p) ∷
    row reasons.TailOverrun (is_taken kind p && overruns (tail kind p)) ∷
    row (reasons.MandatorySubTlv (slice_index (mandatory_in (tail kind p)) 0)) (is_taken kind p && nat_lt 0 (length (mandatory_in (tail kind p)))) ∷
    row reasons.UnknownEncoding (not (is_taken kind p)) ∷
    row reasons.NoDefaultPrefix (lacks_default_prefix d kind p) ∷
    row reasons.NoRouterId (lacks_router_id d kind p) ∷
    row reasons.NoNextHop (lacks_next_hop d kind p) ∷
    row reasons.ZeroInterval (has_zero_interval kind p) ∷
    row reasons.ZeroRxcost (has_zero_rxcost kind p) ∷
    row reasons.Wildcard (is_wrong_wildcard kind p) ∷
    row reasons.NoHops (has_no_hops kind p) ∷
    []

-- the first that applies, if any does
abbrev pub first_reason : List Row → Option Reason
first_reason [] = None
first_reason (r ∷ rs) = if r.applies then Some r.reason else first_reason rs

-- why a content is ignored, if it is
abbrev pub reason_of : Content → Option Reason
reason_of (contents.Ignored reason) = Some reason
reason_of other = None

-- A TLV is ignored for the first reason of the table that applies, and isn't ignored if none applies.
abbrev pub ReasonsAreFirst : Type 0
ReasonsAreFirst = (d : ParserState) (kind : ℕ) (p : List ℕ) → reason_of (content d kind p) ≡ first_reason (reason_table d kind p)

-- ---- what isn't ignored

abbrev pub is_state : Content → Bool
is_state contents.State = true
is_state other = false

-- Otherwise a Router-Id and a Next Hop are state, and any other TLV is a message.
abbrev pub StatesAreOfTwoTypes : Type 0
StatesAreOfTwoTypes =
    (d : ParserState) (kind : ℕ) (p : List ℕ) → reason_of (content d kind p) ≡ None →
    is_state (content d kind p) ≡ (nat_eq kind layout.router_id || nat_eq kind layout.next_hop)
