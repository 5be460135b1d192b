-- Datagrams that are decoded already (profile).
use Rattle.std.specs.Prelude.{◌≡◌, ℕ, List, Ok}
use Rattle.babel_value.specs.declared.addresses.Addr.{Addr}
use Rattle.babel_message.specs.declared.placements.Placed.{Placed}
use Rattle.babel_packet.specs.Encodable.{AreOctets, IsAddr}
use Rattle.babel_packet.specs.Meaning.{meaning}

-- The source address of a datagram, and what its octets mean.
pub record DecodedValue : Type 0 where
  pub source : Addr
  pub placed : List Placed

-- There are octets that mean it.
pub record IsDecoding (d : DecodedValue) : Type 0 where
  pub octets : List ℕ
  pub are_octets : AreOctets octets
  pub is_addr : IsAddr d.source
  pub read : meaning octets d.source ≡ Ok d.placed
