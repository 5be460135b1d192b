-- The messages that a datagram can carry.
use Rattle.std.specs.Prelude.{◌≡◌, ℕ, ◌≤◌, List, Bool, true, false, ◌&&◌, Option, Some, None, length, nat_lt}
use Rattle.babel_value.specs.declared.addresses.Addr.{Addr}
use Rattle.babel_value.specs.declared.addresses.Addr.TheVariants.{V4, V6}
use Rattle.babel_value.specs.Addresses.{width_of}
use Rattle.babel_value.specs.Metrics.{infinity}
use Rattle.babel_value.specs.Prefixes.{PrefixValue, cleared_addr}
use Rattle.babel_value.specs.RouterIds.{is_reserved}
pub use Rattle.babel_value.specs.Octets.{AreOctets}
use Rattle.babel_message.specs.Layout as layout
use Rattle.babel_message.specs.declared.messages.Message.{Message}
use Rattle.babel_message.specs.declared.messages.Message.TheVariants as messages

-- of one family
abbrev pub are_kin : Addr → Addr → Bool
are_kin (V4 a) (V4 b) = true
are_kin (V4 a) (V6 b) = false
are_kin (V6 a) (V4 b) = false
are_kin (V6 a) (V6 b) = true

-- a message that isn't ignored for its values (RFC 8966, sections 4.6.6, 4.6.9 and 4.6.11): the metric of an Update is finite, its
-- interval isn't 0 and its next hop is of its prefix's family; no rxcost, no interval of an IHU and no hop count is 0
abbrev pub is_encodable : Message → Bool
is_encodable (messages.Ihu to rxcost interval) = nat_lt 0 rxcost && nat_lt 0 interval
is_encodable (messages.Update prefix router next_hop seqno metric interval) =
    nat_lt metric infinity && (nat_lt 0 interval && are_kin next_hop prefix.addr)
is_encodable (messages.SeqnoRequest prefix router seqno hops) = nat_lt 0 hops
is_encodable message = true

-- The octets of a message's fields (sections 4.1.3 to 4.1.5): each is below 256; a prefix has no bits past its length; and no router-id is
-- reserved.
abbrev pub IsAddr : Addr → Type 0
IsAddr (V4 octets) = (length octets ≡ layout.ipv4_len) × AreOctets octets
IsAddr (V6 octets) = (length octets ≡ layout.ipv6_len) × AreOctets octets

abbrev pub IsReceiver : Option Addr → Type 0
IsReceiver None = Unit {0}
IsReceiver (Some addr) = IsAddr addr

pub record IsPrefix (prefix : PrefixValue) : Type 0 where
  pub addr : IsAddr prefix.addr
  pub short : prefix.length ≤ width_of prefix.addr
  pub clear : cleared_addr prefix.length prefix.addr ≡ prefix.addr

pub record IsRouterId (octets : List ℕ) : Type 0 where
  pub size : length octets ≡ layout.router_id_len
  pub named : is_reserved octets ≡ false

abbrev pub IsMessage : Message → Type 0
IsMessage (messages.Ihu to rxcost interval) = IsReceiver to
IsMessage (messages.Update prefix router next_hop seqno metric interval) = IsPrefix prefix × IsRouterId router × IsAddr next_hop
IsMessage (messages.Retraction prefix interval) = IsPrefix prefix
IsMessage (messages.RouteRequest prefix) = IsPrefix prefix
IsMessage (messages.SeqnoRequest prefix router seqno hops) = IsPrefix prefix × IsRouterId router
IsMessage message = Unit {0}
