-- Addresses and their families (RFC 8966, section 4.1.4).
use Rattle.std.specs.Prelude.{ℕ}
use Rattle.babel_value.specs.declared.addresses.Addr.{Addr}
use Rattle.babel_value.specs.declared.addresses.Addr.TheVariants.{V4, V6}
use Rattle.babel_value.specs.declared.addresses.Family.{Family}
use Rattle.babel_value.specs.declared.addresses.Family.TheVariants.{Ipv4, Ipv6}

abbrev pub family_of : Addr → Family
family_of (V4 octets) = Ipv4
family_of (V6 octets) = Ipv6

-- How many bits an address has: 32 or 128.
abbrev pub width_of : Addr → ℕ
width_of (V4 octets) = 32
width_of (V6 octets) = 128
