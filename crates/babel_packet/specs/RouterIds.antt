-- Router-Id (RFC 8966, section 4.6.7).
use Rattle.std.specs.Prelude.{ℕ, List, Option, Some, None, ◌&&◌, length, drop, slice_range, nat_le, nat_lt, nat_eq, if◌then◌else◌}
use Rattle.babel_message.specs.Layout as layout
use Rattle.babel_message.specs.declared.placements.Content.{Content}
use Rattle.babel_message.specs.declared.placements.Content.TheVariants as contents
use Rattle.babel_message.specs.declared.placements.Reason.TheVariants.{Unreadable}
use Rattle.babel_packet.specs.Contents.{ignored}
use Rattle.babel_packet.specs.Tails.{after_tail}

-- a Router-Id with this payload
unfoldable pub router_id : List ℕ → Content
router_id p = if nat_lt (length p) layout.router_id_tlv_len then ignored Unreadable else after_tail (drop layout.router_id_tlv_len p) contents.State

-- the router-id that a TLV sets as a Router-Id TLV: a reserved one too, and whatever its sub-TLVs are
unfoldable pub named_router : ℕ → List ℕ → Option (List ℕ)
named_router kind p =
    if nat_eq kind layout.router_id && nat_le layout.router_id_tlv_len (length p) then Some (slice_range p layout.router_id_value layout.router_id_tlv_len)
    else None
