-- Numbers, truth values and words of a file (profile).
use Rattle.std.specs.Prelude.{◌≡◌, ◌<◌, ◌^◌, ℕ, pos, Bool, List, codes, Some}
use Rattle.toml.specs.Data.{Data, as_str, as_integer, as_bool}
use Rattle.babel_value.specs.declared.addresses.Addr.TheVariants.{V4, V6}
use Rattle.babel_value.specs.declared.addresses.Family.{Family}
use Rattle.babel_value.specs.declared.addresses.Family.TheVariants.{Ipv4, Ipv6}
use Rattle.babel_value.specs.Texts.{IsAddrText}
use Rattle.babel_text.specs.Prefixes.{IsNetworkText}

-- A whole number from 0 to 65535.
abbrev pub IsNumber : Data → ℕ → Type 0
IsNumber d n = (n < 2 ^ 16) × (as_integer d ≡ Some (pos n))

-- A truth value.
abbrev pub IsFlag : Data → Bool → Type 0
IsFlag d b = as_bool d ≡ Some b

-- The word of a family of addresses.
abbrev pub family_word : Family → List ℕ
family_word Ipv4 = codes "ipv4"
family_word Ipv6 = codes "ipv6"

abbrev pub IsTransport : Data → Family → Type 0
IsTransport d family = as_str d ≡ Some (family_word family)

-- An IPv4 address, and a length below 256.
abbrev pub IsIpv4NetworkText : List ℕ → List ℕ × ℕ → Type 0
IsIpv4NetworkText text net = IsNetworkText text (V4 net.0, net.1)

-- An IPv6 address.
abbrev pub IsIpv6AddrText : List ℕ → List ℕ → Type 0
IsIpv6AddrText text octets = IsAddrText text (V6 octets)
