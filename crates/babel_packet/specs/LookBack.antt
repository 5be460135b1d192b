-- The parser state at a TLV of a datagram (RFC 8966, section 4.5), found by looking back. The lists of places have the latest first.
use Rattle.std.specs.Prelude.{ℕ, ◌-◌, List, [], ◌∷◌, ◌++◌, Option, Some, None, option_map, ◌&&◌, length, slice_range, replicate, nat_le, nat_eq, if◌then◌else◌}
use Rattle.std.specs.Option.{option_or}
use Rattle.babel_value.specs.declared.addresses.Addr.{Addr}
use Rattle.babel_value.specs.declared.addresses.Addr.TheVariants.{V4, V6}
use Rattle.babel_tlv.specs.Place.{Place}
use Rattle.babel_message.specs.Layout as layout
use Rattle.babel_packet.specs.declared.parser_state.ParserState.{ParserState}
use Rattle.babel_packet.specs.Numbers.{octet, has_flag}
use Rattle.babel_packet.specs.RouterIds.{named_router}
use Rattle.babel_packet.specs.NextHops.{named_hop4, named_hop6}
use Rattle.babel_packet.specs.UpdateFields.{is_readable, address}

-- the address of the prefix of a readable Update of this AE, given the default prefix before it; none for any other TLV
unfoldable pub update_address : ℕ → ℕ → Option (List ℕ) → ℕ → List ℕ → Option (List ℕ)
update_address ae size default kind p =
    if nat_eq kind layout.update && (nat_le layout.update_len (length p) && (nat_eq (octet p layout.update_ae) ae && is_readable size p))
    then address size default p
    else None

-- the same, if the Update has the flag
abbrev pub flagged : ℕ → List ℕ → Option (List ℕ) → Option (List ℕ)
flagged flag p None = None
flagged flag p (Some octets) = if has_flag (octet p layout.update_flags) flag then Some octets else None

-- the default prefix that a TLV sets: an Update with the flag (section 4.6.9)
abbrev pub own_default : ℕ → ℕ → Option (List ℕ) → ℕ → List ℕ → Option (List ℕ)
own_default ae size default kind p = flagged layout.update_sets_prefix p (update_address ae size default kind p)

abbrev pub default_after : ℕ → ℕ → Option (List ℕ) → ℕ → List ℕ → Option (List ℕ)
default_after ae size default kind p = option_or (own_default ae size default kind p) default

-- the default prefix of an AE after these places: the latest that one of them sets
abbrev pub default_before : ℕ → ℕ → List Place → Option (List ℕ)
default_before ae size [] = None
default_before ae size (t ∷ earlier) = default_after ae size (default_before ae size earlier) t.kind t.payload

-- the router-id of an address: its last octets, after zeros if there are too few (section 4.6.9)
abbrev pub router_of_ipv4 : List ℕ → List ℕ
router_of_ipv4 octets = replicate (layout.router_id_len - layout.ipv4_len) 0 ++ octets

abbrev pub router_of_ipv6 : List ℕ → List ℕ
router_of_ipv6 octets = slice_range octets (layout.ipv6_len - layout.router_id_len) layout.ipv6_len

-- the router-id that a TLV sets: a Router-Id, or an Update with the flag, from its prefix's address
abbrev pub own_router : Option (List ℕ) → Option (List ℕ) → ℕ → List ℕ → Option (List ℕ)
own_router default4 default6 kind p =
    option_or (named_router kind p)
    (option_or (option_map router_of_ipv4 (flagged layout.update_sets_router_id p (update_address layout.ae_ipv4 layout.ipv4_len default4 kind p)))
    (option_map router_of_ipv6 (flagged layout.update_sets_router_id p (update_address layout.ae_ipv6 layout.ipv6_len default6 kind p))))

abbrev pub router_after : Option (List ℕ) → Option (List ℕ) → Option (List ℕ) → ℕ → List ℕ → Option (List ℕ)
router_after default4 default6 router kind p = option_or (own_router default4 default6 kind p) router

-- the router-id after these places
abbrev pub router_before : List Place → Option (List ℕ)
router_before [] = None
router_before (t ∷ earlier) =
    router_after (default_before layout.ae_ipv4 layout.ipv4_len earlier) (default_before layout.ae_ipv6 layout.ipv6_len earlier) (router_before earlier) t.kind
    t.payload

-- Before the first Next Hop of its family, the source address of the datagram is the next hop of its own family.
abbrev pub source4 : Addr → Option (List ℕ)
source4 (V4 octets) = Some octets
source4 (V6 octets) = None

abbrev pub source6 : Addr → Option (List ℕ)
source6 (V4 octets) = None
source6 (V6 octets) = Some octets

-- the next hop of each family after these places, as the octets of its address
abbrev pub hop4_before : Addr → List Place → Option (List ℕ)
hop4_before source [] = source4 source
hop4_before source (t ∷ earlier) = option_or (named_hop4 t.kind t.payload) (hop4_before source earlier)

abbrev pub hop6_before : Addr → List Place → Option (List ℕ)
hop6_before source [] = source6 source
hop6_before source (t ∷ earlier) = option_or (named_hop6 t.kind t.payload) (hop6_before source earlier)

-- the parser state after these places: all that the next place takes from them
abbrev pub before : Addr → List Place → ParserState
before source earlier = record {
  default4 = default_before layout.ae_ipv4 layout.ipv4_len earlier;
  default6 = default_before layout.ae_ipv6 layout.ipv6_len earlier;
  router = router_before earlier;
  hop4 = hop4_before source earlier;
  hop6 = hop6_before source earlier;
}
